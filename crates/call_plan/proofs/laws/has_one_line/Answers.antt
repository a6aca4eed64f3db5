use Rattle.call_plan.proofs.Telling.{line_once}
use Rattle.call_plan.proofs.laws.has_one_line.Goals as goal

pub returns : goal.returns
returns c = λ k mode outcome a b p q. line_once k mode outcome a b p q
