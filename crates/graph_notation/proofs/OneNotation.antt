-- Two graphs have one printed notation exactly where they are equal.
use Rattle.std.proofs.Common.{◌≡◌, ℕ, List, subst}
use Rattle.std.specs.Prelude.{◌↔◌}
use Rattle.hessian_graph.specs.Shape.{Shape}
use Rattle.graph_notation.specs.Notation.{IsNotation, IsPrinted}
use Rattle.graph_notation.proofs.OneGraph.{one_graph}
use Rattle.graph_notation.proofs.OneText.{one_text}
use Rattle.graph_notation.proofs.Rereading.{is_notation}

pub one_notation : (a b : Shape) (s t : List ℕ) → IsPrinted a s → IsPrinted b t → (s ≡ t) ↔ (a ≡ b)
one_notation a b s t p q = (
  (λ e. one_graph t a b (subst (λ x. IsNotation x a) e (is_notation a s p)) (is_notation b t q)),
  (λ e. one_text b s t (subst (λ g. IsPrinted g s) e p) q),
)
