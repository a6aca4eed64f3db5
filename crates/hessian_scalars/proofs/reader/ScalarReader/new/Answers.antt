use Rattle.std.proofs.Common.{arith}
use Rattle.hessian_scalars.proofs.Feeding.{nothing_came}
use Rattle.hessian_scalars.proofs.reader.ScalarReader.new.Goals as goal

pub invariant_of-result : goal.invariant_of-result
invariant_of-result c = (omega arith, nothing_came)
