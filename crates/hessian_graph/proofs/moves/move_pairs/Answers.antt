use Rattle.std.proofs.Common.{sym, ap, ◌∙◌}
use Rattle.std.specs.Prelude.{length}
use Rattle.hessian_graph.specs.Shape.{shape_of, alternately}
use Rattle.hessian_graph.proofs.Renaming.{pair_moved, pair_below}
use Rattle.hessian_graph.proofs.moves.move_pairs.Goals as goal

pub move_value-requires-clause-below : goal.move_value-requires-clause-below
move_value-requires-clause-below c = (pair_below (length (shape_of c.args.parts.now).nodes) c.args.pairs.now c.loop-pair.pair-index c.pair-item.result c.requires.below c.loop-pair-test.true (sym c.pair-item.is)).0

pub move_value-requires-in-loop-pair-clause-below : goal.move_value-requires-in-loop-pair-clause-below
move_value-requires-in-loop-pair-clause-below c = (pair_below (length (shape_of c.args.parts.now).nodes) c.args.pairs.now c.loop-pair.pair-index c.pair-item.result c.requires.below c.loop-pair-test.true (sym c.pair-item.is)).1

pub loop-pair-preserved : goal.loop-pair-preserved
loop-pair-preserved c =
    ap alternately c.in_ok-push.ensures.items
    ∙ pair_moved c.args.walk.now.order.items c.args.pairs.now c.loop-pair.moved.items c.loop-pair.pair-index c.pair-item.result (record { key = c.in_ok-key.key; value = c.in_ok-value.value }) c.loop-pair-test.true (sym c.pair-item.is) c.in_ok-key.ensures c.in_ok-value.ensures c.loop-pair.invariant
