use Rattle.std.proofs.Common.{◌+◌, ◌-◌, arith}
use Rattle.graph_notation.proofs.PlainRuns.{word_block}
use Rattle.graph_notation.proofs.token_ends.long_word_end.Goals as goal

pub loop-end-preserved : goal.loop-end-preserved
loop-end-preserved c = (omega arith, word_block c.args.text.now c.args.at c.loop-end.end (c.loop-end.end + 32 - c.loop-end.end) (omega arith) (omega arith) c.loop-end.invariant.1 (c.are_word_bytes.ensures c.if-are_word_bytes.true))
