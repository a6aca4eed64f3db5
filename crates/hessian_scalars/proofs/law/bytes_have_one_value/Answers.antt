use Rattle.hessian_scalars.proofs.Laws.{one_value}
use Rattle.hessian_scalars.proofs.law.bytes_have_one_value.Goals as goal

pub returns : goal.returns
returns c = one_value
