use Rattle.hessian_scalars.proofs.Laws.{read_back}
use Rattle.hessian_scalars.proofs.law.written_is_read_back.Goals as goal

pub returns : goal.returns
returns c = read_back
