use Rattle.std.proofs.Common.{refl, arith}
use Rattle.hessian_graph.specs.Shape.{kind_of, values_of}
use Rattle.graph_notation.specs.Pressing.{before}
use Rattle.graph_notation.specs.PrintedLeaves.PrintsLeaves.{none}
use Rattle.graph_notation.proofs.PrintedLeaves.{leaf_more}
use Rattle.graph_notation.proofs.leaves.write_entries.Goals as goal

pub loop-value-init : goal.loop-value-init
loop-value-init c = record { further = omega arith; written = none }

pub loop-value-preserved : goal.loop-value-preserved
loop-value-preserved c =
    let low = c.loop-value.invariant.further in
    record {
      further = omega (arith, low);
      written = leaf_more (before (kind_of c.args.parts.now.types c.args.parts.now.classes c.args.node.now)) (values_of c.args.node.now) c.args.begun c.args.start c.loop-value.at c.args.out.now.items c.loop-value.out.items c.write_before.new.out.items c.write_leaf.new.out.items c.in-Some.value.now
          c.loop-value.invariant.written c.in-Some.ensures.within c.in-Some.ensures.some (c.if-not-is_leaf.ensures refl) c.in_ok-write_before.ensures c.in_ok-write_leaf.ensures;
    }
