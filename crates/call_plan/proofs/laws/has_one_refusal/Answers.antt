use Rattle.call_plan.proofs.ScriptLaws.{one_refusal}
use Rattle.call_plan.proofs.laws.has_one_refusal.Goals as goal

pub returns : goal.returns
returns c = λ bytes a b x y p q. one_refusal bytes a b x y p q
