use Rattle.std.proofs.Common.{arith}
use Rattle.hessian_writer.proofs.names.are_bytes.Goals as goal

pub returns : goal.returns
returns c = record { small = λ i h. omega (arith, c.type_inv._bytes i) }
