use Rattle.std.proofs.Common.{◌≡◌, ◌++◌, length, reverse, vec_len}
use Rattle.hessian_graph.specs.Shape.{alternately}
use Rattle.graph_notation.specs.Whole.{IsEven}
use Rattle.graph_notation.proofs.building.pair_up.Given as goal

abbrev pub invariant-loop-pair : goal.invariant-loop-pair
invariant-loop-pair l = record { even : IsEven (length l.left.items); whole : l.fn.values.items ≡ l.left.items ++ alternately (reverse l.pairs.items) }

abbrev pub decreases-loop-pair : goal.decreases-loop-pair
decreases-loop-pair l = vec_len l.left
