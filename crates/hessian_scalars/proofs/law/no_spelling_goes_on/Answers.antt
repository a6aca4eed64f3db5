use Rattle.hessian_scalars.proofs.Laws.{goes_on}
use Rattle.hessian_scalars.proofs.law.no_spelling_goes_on.Goals as goal

pub returns : goal.returns
returns c = goes_on
