use Rattle.std.proofs.Common.{arith, subst, sym, take}
use Rattle.hessian_text.specs.declared.stage.Begun.TheVariants.{Nothing}
use Rattle.hessian_text.specs.Items.{Contents}
use Rattle.hessian_text.specs.Reader.{Reading, Advances}
use Rattle.hessian_text.specs.Steps.{letter_bytes}
use Rattle.hessian_text.proofs.Advancing.{advances_none, advances_items, sound_items, inside_some}
use Rattle.hessian_text.proofs.reader.ChunkReader.take_pair.Goals as goal

pub returns-in_default-clause-ok : goal.returns-in_default-clause-ok
returns-in_default-clause-ok c = advances_none c.args.self.now

pub returns-in_default-before_item-clause-ok : goal.returns-in_default-before_item-clause-ok
returns-in_default-before_item-clause-ok c = advances_none c.args.self.now

pub returns-then-left-lt2-clause-ok : goal.returns-then-left-lt2-clause-ok
returns-then-left-lt2-clause-ok c = advances_none c.args.self.now

pub returns-in_default-pair_at-clause-ok : goal.returns-in_default-pair_at-clause-ok
returns-in_default-pair_at-clause-ok c = advances_none c.args.self.now

pub invariant_of-self-2 : goal.invariant_of-self-2
invariant_of-self-2 c =
    let inside = c.self.inside in
    let value = letter_bytes c.in-Some-pair_at.letter in
    let form = take 6 c.args.piece.now in
    let some = inside_some inside.kind inside.stage c.in-Some.part c.in-Some.left Nothing c.in-Some.ensures c.self.invariant.stage in
    let items : Contents inside.kind value 2 form = subst (λ k. Contents k value 2 form) (sym c.in-Text.is) c.in-Some-pair_at.ensures.pair in
    sound_items inside.kind c.in-Some.part c.in-Some.left 2 inside.stage c.entered-self-inside.result inside.done.items value c.append_letter.new.done.items form c.self.invariant some.1 c.entered-self-inside.ensures items c.in_ok-append_letter.ensures.ok

pub returns-clause-ok : goal.returns-clause-ok
returns-clause-ok c =
    let inside = c.self.inside in
    let value = letter_bytes c.in-Some-pair_at.letter in
    let form = take 6 c.args.piece.now in
    let some = inside_some inside.kind inside.stage c.in-Some.part c.in-Some.left Nothing c.in-Some.ensures c.self.invariant.stage in
    let items : Contents inside.kind value 2 form = subst (λ k. Contents k value 2 form) (sym c.in-Text.is) c.in-Some-pair_at.ensures.pair in
    let after : Reading = record { kind = inside.kind; done = c.append_letter.new.done.items; stage = c.entered-self-inside.result } in
    subst (λ r. Advances r form after) c.self.view_is (advances_items inside.kind c.in-Some.part c.in-Some.left 2 inside.stage c.entered-self-inside.result inside.done.items value c.append_letter.new.done.items form c.in-Some.ensures some.0 c.entered-self-inside.ensures (omega arith) items c.in_ok-append_letter.ensures.ok)
