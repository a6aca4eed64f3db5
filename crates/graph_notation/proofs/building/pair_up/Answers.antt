use Rattle.graph_notation.proofs.Assembling.{pairs_more, even_less}
use Rattle.graph_notation.proofs.building.pair_up.Goals as goal

pub loop-pair-preserved : goal.loop-pair-preserved
loop-pair-preserved c = record {
  even = even_less c.loop-pair.left.items c.pop_pair.new.values.items c.in-Some.pair (c.in-Some.ensures {u = tt}) c.loop-pair.invariant.even;
  whole = rw c.in_ok-push.ensures.items (pairs_more c.args.values.items c.loop-pair.left.items c.pop_pair.new.values.items c.loop-pair.pairs.items c.in-Some.pair c.loop-pair.invariant.whole (c.in-Some.ensures {u = tt}));
}
