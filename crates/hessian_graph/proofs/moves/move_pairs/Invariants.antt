use Rattle.std.proofs.Common.{◌≡◌, take}
use Rattle.std.specs.Prelude.{map}
use Rattle.hessian_graph.specs.Shape.{alternately}
use Rattle.hessian_graph.specs.Canon.{renumbered}
use Rattle.hessian_graph.proofs.moves.move_pairs.Given as goal

abbrev pub invariant-loop-pair : goal.invariant-loop-pair
invariant-loop-pair l = alternately l.moved.items ≡ map (renumbered l.walk.order.items) (alternately (take l.pair-index l.pairs))
