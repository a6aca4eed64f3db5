use Rattle.call_plan.proofs.ScriptLaws.{read_or_refused}
use Rattle.call_plan.proofs.laws.no_script_is_refused.Goals as goal

pub returns : goal.returns
returns c = λ bytes plan fault other is refused. read_or_refused bytes plan fault other is refused
