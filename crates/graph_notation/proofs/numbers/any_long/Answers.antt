use Rattle.std.proofs.Common.{◌≡◌, true, false, None, Some, Ok, to_z, of_z, sym, ap, ◌∙◌}
use Rattle.std.specs.Int.{w64}
use Rattle.std.proofs.lemmas.Int.{to_z-of_z}
use Rattle.std.proofs.lemmas.Slice.Eq.{bytes_eq-Decides}
use Rattle.std.specs.Fmt.{signed_decimal}
use Rattle.std.specs.Result.{result_ok}
use Rattle.graph_notation.proofs.Decimals.{text_of_signed, parsed_signed, small_w64, no_text, same_text}
use Rattle.graph_notation.proofs.numbers.any_long.Goals as goal

pub returns-in_err-ok : goal.returns-in_err-ok
returns-in_err-ok c = rw c.from_residual.ensures (λ z fits same.
    no_text c.args.bytes.now _ _ c.from_utf8.result c.from_utf8.ensures.cases c.in_err-ok.ensures.value
    (text_of_signed z c.args.bytes.now (small_w64 z fits) same))

pub returns-in_err-number : goal.returns-in_err-number
returns-in_err-number c = rw c.from_residual-in_err-number.ensures (λ z fits same.
    let text = same_text c.args.bytes.now _ _ c.in_ok-ok.field-0 c.from_utf8.result c.from_utf8.ensures.cases c.in_ok-ok.ensures.value in
    let read : c.parse.result ≡ Ok z = parsed_signed w64 z c.in_ok-ok.field-0.now c.parse.result fits (small_w64 z fits) (text ∙ same) c.parse.ensures.value.0 in
    let none : None ≡ Some z = c.in_err-number.ensures.value ∙ ap result_ok read in
    cc)

pub returns-else-eq : goal.returns-else-eq
returns-else-eq c = λ z fits same.
    let text = same_text c.args.bytes.now _ _ c.in_ok-ok.field-0 c.from_utf8.result c.from_utf8.ensures.cases c.in_ok-ok.ensures.value in
    let read : c.parse.result ≡ Ok z = parsed_signed w64 z c.in_ok-ok.field-0.now c.parse.result fits (small_w64 z fits) (text ∙ same) c.parse.ensures.value.0 in
    let some : Some c.in_ok-number.number ≡ Some z = c.in_ok-number.ensures.value ∙ ap result_ok read in
    let number : c.in_ok-number.number ≡ z = cc in
    let printed = c.as_bytes.ensures.value ∙ c.format.ensures.text
    ∙ ap (λ n. signed_decimal (to_z w64 (of_z w64 n))) number ∙ ap signed_decimal (to_z-of_z w64 z fits) ∙ sym same in
    let never : false ≡ true = c.if-eq.ensures ∙ (bytes_eq-Decides c.as_bytes.result.now c.args.bytes.now).1 printed in
    cc
