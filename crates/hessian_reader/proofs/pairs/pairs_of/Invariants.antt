use Rattle.std.proofs.Common.{◌≡◌, ◌++◌}
use Rattle.std.specs.Vec.Iter.{into_iter_items, into_iter_len}
use Rattle.hessian_graph.specs.Shape.{alternately}
use Rattle.hessian_reader.proofs.pairs.pairs_of.Given as goal

-- the pairs so far, and what is left, are all values
abbrev pub invariant-loop-key : goal.invariant-loop-key
invariant-loop-key l = alternately l.pairs.items ++ into_iter_items l.rest ≡ l.fn.values.items

abbrev pub decreases-loop-key : goal.decreases-loop-key
decreases-loop-key l = into_iter_len l.rest
