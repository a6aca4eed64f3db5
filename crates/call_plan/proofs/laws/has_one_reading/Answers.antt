use Rattle.call_plan.proofs.ScriptLaws.{one_reading}
use Rattle.call_plan.proofs.laws.has_one_reading.Goals as goal

pub returns : goal.returns
returns c = λ bytes p q a b. one_reading bytes p q a b
