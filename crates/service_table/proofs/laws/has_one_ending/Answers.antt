use Rattle.service_table.proofs.Outcomes.{one_direct}
use Rattle.service_table.proofs.laws.has_one_ending.Goals as goal

pub returns : goal.returns
returns c = λ rows r a b apart p q. one_direct apart p q
