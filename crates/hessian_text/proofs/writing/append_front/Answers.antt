use Rattle.std.proofs.Common.{◌≡◌, ◌<◌, ◌≤◌, ◌++◌, ◌∙◌, ℕ, ap, length, subst, sym, take}
use Rattle.std.specs.Prelude.{slice_index}
use Rattle.std.specs.Str.{IsCharBoundary}
use Rattle.hessian_text.specs.Units.{utf16}
use Rattle.hessian_text.specs.Written.{by_units}
use Rattle.hessian_text.proofs.TextUnits.{first_cut, first_units, low_front, nothing_more, whole_slice}
use Rattle.hessian_text.proofs.writing.append_front.Goals as goal

pub returns-then-run-gt0-clause-ok : goal.returns-then-run-gt0-clause-ok
returns-then-run-gt0-clause-ok c =
    let text = c.args.text.now in
    let n = c.low_run-run.result in
    let same = c.as_bytes.ensures.value in
    let within : n ≤ length text = subst (λ x. n ≤ length x) same c.low_run-run.ensures.within in
    let low : (k : ℕ) → k < n → slice_index text k < 0xf0 = subst (λ x. (k : ℕ) → k < n → slice_index x k < 0xf0) same c.low_run-run.ensures.low in
    let ends : n < length text → 0xf0 ≤ slice_index text n = subst (λ x. n < length x → 0xf0 ≤ slice_index x n) same c.low_run-run.ensures.ends in
    let is : c.as_bytes-then-run-gt0.result.now ≡ take n text = c.as_bytes-then-run-gt0.ensures.value ∙ c.range.ensures.value ∙ whole_slice text n in
    c.in_ok-extend_from_slice.ensures.items ∙ ap (λ x. c.args.out.now.items ++ x) (is ∙ sym (low_front text n c.utf8.text within low ends))

pub returns-in_default-clause-ok : goal.returns-in_default-clause-ok
returns-in_default-clause-ok c = nothing_more c.args.out.now.items

pub returns-clause-cut : goal.returns-clause-cut
returns-clause-cut c = subst (λ n. IsCharBoundary c.args.text.now n) (sym c.len_utf8.ensures.value) (first_cut c.in-Some.first c.args.text.now c.next.new.self.rest.now c.utf8.text (sym c.chars.ensures.rest ∙ c.in-Some.ensures.steps.0))

pub returns-clause-ok : goal.returns-clause-ok
returns-clause-ok c =
    let text = c.args.text.now in
    let first = c.in-Some.first in
    let units = first_units first text c.next.new.self.rest.now c.utf8.text (sym c.chars.ensures.rest ∙ c.in-Some.ensures.steps.0) in
    c.in_ok-append_character.ensures.ok ∙ ap (λ x. c.args.out.now.items ++ by_units x) (sym units ∙ ap (λ n. utf16 (take n text)) (sym c.len_utf8.ensures.value))
