use Rattle.std.proofs.Common.{◌+◌, ◌*◌, set, length-set, ◌∙◌, arith}
use Rattle.graph_notation.proofs.Runs.{pair_on}
use Rattle.graph_notation.proofs.written_bytes.pairs_of.Goals as goal

pub loop-at-preserved : goal.loop-at-preserved
loop-at-preserved c =
    let ps = c.loop-at.pairs in
    let i = c.loop-at.at in
    let high = c.digit.result in
    let low = c.digit-in-loop-at.result in
    let long = c.loop-at.invariant.long in
    let there = c.loop-at-test.true in
    let few = c.requires in
    record {
      long = length-set (set ps (2 * i) high) (2 * i + 1) low ∙ length-set ps (2 * i) high ∙ long;
      pairs = pair_on c.args.block.now ps i high low there (omega (arith, long, there, few)) c.loop-at.invariant.pairs c.digit.ensures c.digit-in-loop-at.ensures;
    }
