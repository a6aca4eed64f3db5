use Rattle.hessian_scalars.proofs.Ints.{only_ints}
use Rattle.hessian_scalars.proofs.law.int_codes_begin_ints_alone.Goals as goal

pub returns : goal.returns
returns c = only_ints
