-- A result is told by one line.
use Rattle.std.proofs.Common.{◌≡◌, ℕ, List, ◌++◌, sym, ap, subst, ◌∙◌, codes}
use Rattle.std.specs.Prelude.{decimal}
use Rattle.hessian_graph.specs.declared.parts.Parts.{Parts}
use Rattle.hessian_graph.specs.Shape.{Shape, shape_of}
use Rattle.hessian_graph.specs.Canon.{IsCanon, in_order}
use Rattle.hessian_graph.proofs.Visits.{one_visit}
use Rattle.graph_notation.specs.Notation.{IsPrinted, PrintsForm}
use Rattle.call_plan.specs.declared.calls.Mode.{Mode}
use Rattle.call_plan.specs.declared.calls.CallResult.{CallResult}
use Rattle.call_plan.specs.declared.calls.CallResult.TheVariants.{Value, Threw, Status, Timeout, Lost, Broken, Sent, NoMemory}
use Rattle.call_plan.specs.ResultLine.{TellsGraph, Tells, IsLine}
use Rattle.call_plan.proofs.Lower.{one_printed}

one_canon : (g a b : Shape) → IsCanon g a → IsCanon g b → a ≡ b
one_canon g a b (order, visit, is) (order', visit', is') = is ∙ ap (in_order g) (one_visit visit visit') ∙ sym is'

one_form : (g : Shape) (s t : List ℕ) → PrintsForm g s → PrintsForm g t → s ≡ t
one_form g s t p q = one_printed q.form s t (subst (λ f. IsPrinted f s) (one_canon g p.form q.form p.canon q.canon) p.printed) q.printed

graph_told_once : (word : List ℕ) (g : Parts) (a b : List ℕ) → TellsGraph word g a → TellsGraph word g b → a ≡ b
graph_told_once word g a b p q = p.2 ∙ ap (λ n. word ++ n) (one_form (shape_of g) p.0 q.0 p.1 q.1) ∙ sym q.2

told_once : (mode : Mode) (outcome : CallResult) (a b : List ℕ) → Tells mode outcome a → Tells mode outcome b → a ≡ b
told_once mode (Value g) a b p q = graph_told_once (codes "ok ") g a b p q
told_once mode (Threw g) a b p q = graph_told_once (codes "threw ") g a b p q
told_once mode (Status code text) a b p q = p ∙ sym q
told_once mode (Timeout deadline moment) a b p q = p ∙ sym q
told_once mode (Lost link faults) a b p q = p ∙ sym q
told_once mode (Broken link at) a b p q = p ∙ sym q
told_once mode Sent a b p q = p ∙ sym q
told_once mode NoMemory a b p q = p ∙ sym q

pub line_once : (k : ℕ) (mode : Mode) (outcome : CallResult) (a b : List ℕ) → IsLine k mode outcome a → IsLine k mode outcome b → a ≡ b
line_once k mode outcome a b p q =
    p.written ∙ ap (λ w. decimal k ++ codes " " ++ w ++ codes "\n") (told_once mode outcome p.words q.words p.tells q.tells) ∙ sym q.written
