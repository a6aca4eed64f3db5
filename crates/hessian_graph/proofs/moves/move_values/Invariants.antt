use Rattle.std.proofs.Common.{◌≡◌, take}
use Rattle.std.specs.Prelude.{map}
use Rattle.hessian_graph.specs.Canon.{renumbered}
use Rattle.hessian_graph.proofs.moves.move_values.Given as goal

abbrev pub invariant-loop-value : goal.invariant-loop-value
invariant-loop-value l = l.moved.items ≡ map (renumbered l.walk.order.items) (take l.value-index l.values)
