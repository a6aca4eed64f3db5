use Rattle.std.proofs.Common.{List, ℕ, ◌∷◌, ap, ◌∙◌}
use Rattle.call_plan.proofs.Piecing.{pieces_zero}
use Rattle.call_plan.proofs.scripts.fields.last.Goals as goal

pub returns-in-Some : goal.returns-in-Some
returns-in-Some c = c.in-Some.ensures 0 ∙ ap (λ (ps : List (List ℕ)). c.in-Some.field.now ∷ ps) (pieces_zero c.in-Some.rest.now)
