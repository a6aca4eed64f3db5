use Rattle.std.proofs.Common.{◌+◌, ◌-◌, arith}
use Rattle.graph_notation.proofs.PlainRuns.{plain_block}
use Rattle.graph_notation.proofs.plain.by_blocks.Goals as goal

pub loop-end-preserved : goal.loop-end-preserved
loop-end-preserved c = record { low = omega arith; within = omega arith; plain = plain_block c.args.text.now c.args.at c.loop-end.end (c.loop-end.end + 32 - c.loop-end.end) (omega arith) (omega arith) c.loop-end.invariant.plain (c.any_special.ensures c.if-not-any_special.true) }
