use Rattle.std.proofs.Common.{arith}
use Rattle.hessian_text.proofs.TextUnits.{byte_most, front_most}
use Rattle.hessian_text.proofs.units.block_units.Goals as goal

pub overflow_add-units : goal.overflow_add-units
overflow_add-units c = let m = front_most c.args.block.now c.loop-byte.byte-index (omega arith) in omega (arith, m, byte_most, c.loop-byte.invariant)
