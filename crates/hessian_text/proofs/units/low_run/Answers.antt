use Rattle.std.proofs.Common.{◌+◌, ◌-◌, arith}
use Rattle.hessian_text.proofs.TextUnits.{low_more}
use Rattle.hessian_text.proofs.units.low_run.Goals as goal

pub loop-at-preserved : goal.loop-at-preserved
loop-at-preserved c = record { within = omega arith; low = low_more c.args.text.now c.loop-at.at (c.loop-at.at + 64 - c.loop-at.at) c.largest.result (omega arith) (omega arith) c.loop-at.invariant.low c.largest.ensures c.if-largest-lt240.true }
