use Rattle.std.proofs.Common.{◌∙◌, ap, arith, length, sym}
use Rattle.hessian_text.proofs.TextUnits.{front_none, none_empty, none_long, units_len, front_first}
use Rattle.hessian_text.proofs.units.first_front.Goals as goal

pub returns-in_default : goal.returns-in_default
returns-in_default c = front_none c.args.text.now c.args.room c.utf8.text (none_empty c.args.text.now c.args.room (ap length (sym c.chars.ensures.rest) ∙ c.in_default.ensures.steps.0.0))

pub returns-then-len_utf16-room : goal.returns-then-len_utf16-room
returns-then-len_utf16-room c =
    let text = c.args.text.now in
    let first = c.in-Some.first in
    let units = units_len first c.len_utf16.result c.len_utf16.ensures.bmp c.len_utf16.ensures.surrogate_pair in
    front_none text c.args.room c.utf8.text (none_long text c.next.new.self.rest.now first c.args.room c.utf8.text (sym c.chars.ensures.rest ∙ c.in-Some.ensures.steps.0) (omega (arith, units, c.if-len_utf16-room.true)))

pub returns : goal.returns
returns c =
    let text = c.args.text.now in
    let first = c.in-Some.first in
    let before = units_len first c.len_utf16.result c.len_utf16.ensures.bmp c.len_utf16.ensures.surrogate_pair in
    let units = units_len first c.len_utf16-2.result c.len_utf16-2.ensures.bmp c.len_utf16-2.ensures.surrogate_pair in
    front_first text c.next.new.self.rest.now first c.args.room c.len_utf8.result c.len_utf16-2.result c.utf8.text (sym c.chars.ensures.rest ∙ c.in-Some.ensures.steps.0) c.len_utf8.ensures.value units (omega (arith, before, units, c.if-len_utf16-room.false))
