use Rattle.std.proofs.Common.{◌≡◌, ◌∙◌, ap, arith, length, take}
use Rattle.std.proofs.lemmas.Str.{IsUtf8-take}
use Rattle.std.proofs.lemmas.List.{length-take-le}
use Rattle.hessian_text.specs.Units.{utf16}
use Rattle.hessian_text.proofs.TextUnits.{units_most, whole_slice}
use Rattle.hessian_text.proofs.units.next_front.Goals as goal

pub returns : goal.returns
returns c =
    let text = c.args.text.now in
    let len = c.floor_char_boundary-len.result in
    let cut = c.floor_char_boundary-len.ensures.boundary in
    let is : c.as_bytes.result.now ≡ take len text = c.as_bytes.ensures.value ∙ c.range.ensures.value ∙ whole_slice text len in
    let size : c.unit_count.result ≡ length (utf16 (take len text)) = c.unit_count.ensures ∙ ap (λ x. length (utf16 x)) is in
    let most = units_most (take len text) (IsUtf8-take text len c.utf8.text cut) in
    let short : length (take len text) ≡ len = length-take-le len text cut.0 in
    record { cut = cut; units_are = size; fits = omega (arith, size, most, short, c.floor_char_boundary-len.ensures.bound, c.min.ensures); none = λ e. absurd (c.if-len-eq0.false e) }
