use Rattle.std.proofs.Common.{◌≡◌, ◌+◌, ◌<◌, ◌∷◌, ◌++◌, [], length, take, sym, ap, subst, ◌∙◌, arith, length-take-le}
use Rattle.std.proofs.lemmas.List.{take_more}
use Rattle.call_plan.specs.DirectTranscript.{DirectLines, IsDirectLine}
use Rattle.call_plan.specs.DirectTranscript.DirectLines.{none}
use Rattle.call_plan.proofs.Directing.{one_more_line}
use Rattle.call_plan.proofs.direct_lines.direct.Goals as goal

pub loop-k-init : goal.loop-k-init
loop-k-init c = subst (DirectLines c.services-services.result.now 0 []) (sym c.new-text.ensures.items) (none 0)

pub loop-k-preserved : goal.loop-k-preserved
loop-k-preserved c =
    let k = c.loop-k.k in
    let calls = c.calls-calls.result.now in
    let rows = c.services-services.result.now in
    let within : k < length calls = c.loop-k-test.true in
    let number : 0 + length (take k calls) ≡ k = omega (arith, length-take-le k calls) in
    let line : IsDirectLine rows (0 + length (take k calls)) c.index-calls-k.result c.in_ok-line.line.items
    = subst (λ n. IsDirectLine rows n c.index-calls-k.result c.in_ok-line.line.items) (sym number) (c.in_ok-line.ensures {u = tt}) in
    let text = (c.in_ok-extend_from_slice.ensures {u = tt}).items ∙ ap (λ t. c.loop-k.text.items ++ t) c.deref.ensures.value in
    subst (DirectLines rows 0 (take (k + 1) calls)) (sym text)
    (subst (λ cs. DirectLines rows 0 cs (c.loop-k.text.items ++ c.in_ok-line.line.items)) (sym (take_more calls k c.index-calls-k.result within ∙ ap (λ x. take k calls ++ x ∷ []) (sym c.index-calls-k.is)))
    (one_more_line rows 0 (take k calls) c.loop-k.text.items c.index-calls-k.result c.in_ok-line.line.items c.loop-k.invariant line))
