use Rattle.hessian_reader.specs.Steps.Leads.{here}
use Rattle.hessian_reader.proofs.course.Course.take_run.Goals as goal

pub returns-then-not-is_at_value-clause-leads : goal.returns-then-not-is_at_value-clause-leads
returns-then-not-is_at_value-clause-leads c = here
