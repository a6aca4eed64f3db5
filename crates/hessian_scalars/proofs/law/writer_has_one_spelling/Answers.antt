use Rattle.hessian_scalars.proofs.OneForm.{one_shortest}
use Rattle.hessian_scalars.proofs.law.writer_has_one_spelling.Goals as goal

pub returns : goal.returns
returns c = one_shortest
