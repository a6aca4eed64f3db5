use Rattle.std.proofs.Common.{◌≡◌, true, false, None, Some, Ok, sym, ap, ◌∙◌}
use Rattle.std.proofs.lemmas.Slice.Eq.{bytes_eq-Decides}
use Rattle.std.specs.Prelude.{decimal}
use Rattle.std.specs.Result.{result_ok}
use Rattle.call_plan.proofs.Numerals.{number_is_text, parsed_number, no_text, same_text}
use Rattle.call_plan.proofs.scripts.numbers.decimal.Goals as goal

pub returns-in_err-ok : goal.returns-in_err-ok
returns-in_err-ok c = rw c.from_residual.ensures (λ n fits same.
    no_text c.args.bytes.now _ _ c.from_utf8.result c.from_utf8.ensures.cases c.in_err-ok.ensures.value
    (number_is_text n c.args.bytes.now fits same))

pub returns-in_err-number : goal.returns-in_err-number
returns-in_err-number c = rw c.from_residual-in_err-number.ensures (λ n fits same.
    let text = same_text c.args.bytes.now _ _ c.in_ok-ok.field-0 c.from_utf8.result c.from_utf8.ensures.cases c.in_ok-ok.ensures.value in
    let read : c.parse.result ≡ Ok n = parsed_number n c.in_ok-ok.field-0.now c.parse.result fits (text ∙ same) c.parse.ensures.value.0 in
    let none : None ≡ Some n = c.in_err-number.ensures.value ∙ ap result_ok read in
    cc)

pub returns-else-eq : goal.returns-else-eq
returns-else-eq c = λ n fits same.
    let text = same_text c.args.bytes.now _ _ c.in_ok-ok.field-0 c.from_utf8.result c.from_utf8.ensures.cases c.in_ok-ok.ensures.value in
    let read : c.parse.result ≡ Ok n = parsed_number n c.in_ok-ok.field-0.now c.parse.result fits (text ∙ same) c.parse.ensures.value.0 in
    let some : Some c.in_ok-number.number ≡ Some n = c.in_ok-number.ensures.value ∙ ap result_ok read in
    let number : c.in_ok-number.number ≡ n = cc in
    let printed = c.as_bytes.ensures.value ∙ c.format.ensures.text ∙ ap decimal number ∙ sym same in
    let no : false ≡ true = c.if-eq.ensures ∙ (bytes_eq-Decides c.as_bytes.result.now c.args.bytes.now).1 printed in
    cc
