use Rattle.std.proofs.Common.{arith}
use Rattle.graph_notation.specs.Pressing.{comma}
use Rattle.graph_notation.specs.PrintedLeaves.PrintsLeaves.{none}
use Rattle.graph_notation.proofs.PrintedLeaves.{item_more}
use Rattle.graph_notation.proofs.leaves.write_items.Goals as goal

pub loop-at-init : goal.loop-at-init
loop-at-init c = record { further = omega arith; written = none }

pub loop-at-preserved : goal.loop-at-preserved
loop-at-preserved c =
    let low = c.loop-at.invariant.further in
    record {
      further = omega (arith, low);
      written = item_more comma c.args.items.now c.args.begun c.args.start c.loop-at.at c.args.out.now.items c.loop-at.out.items c.write_comma.new.out.items c.write_leaf.new.out.items c.index-items-at.result c.index-items-at-in-loop-at.result
          c.loop-at.invariant.written c.loop-at-test.true c.index-items-at.is c.index-items-at-in-loop-at.is (c.is_leaf.ensures c.if-is_leaf.true) c.in_ok-write_comma.ensures c.in_ok-write_leaf.ensures;
    }
