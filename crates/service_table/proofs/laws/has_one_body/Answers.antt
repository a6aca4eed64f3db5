use Rattle.service_table.proofs.Outcomes.{one_body}
use Rattle.service_table.proofs.laws.has_one_body.Goals as goal

pub returns : goal.returns
returns c = one_body
