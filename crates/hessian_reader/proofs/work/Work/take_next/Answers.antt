use Rattle.hessian_reader.specs.Steps.Leads.{here}
use Rattle.hessian_reader.proofs.work.Work.take_next.Goals as goal

pub returns-in_default-clause-leads : goal.returns-in_default-clause-leads
returns-in_default-clause-leads c = here

pub returns-then-lacks_none-clause-leads : goal.returns-then-lacks_none-clause-leads
returns-then-lacks_none-clause-leads c = here
