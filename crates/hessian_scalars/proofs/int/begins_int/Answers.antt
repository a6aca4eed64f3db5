use Rattle.hessian_scalars.proofs.Ints.{begins_int_iff}
use Rattle.hessian_scalars.proofs.int.begins_int.Goals as goal

pub returns : goal.returns
returns c = rw c.is_int_code.ensures (begins_int_iff c.args.code)
