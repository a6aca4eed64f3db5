use Rattle.std.proofs.Common.{ℕ, ◌<◌, get_or}
use Rattle.hessian_graph.specs.declared.value.Pair.{Pair}
use Rattle.hessian_writer.specs.Carried.{IsCarriedValue}
use Rattle.hessian_writer.proofs.carried.pairs_are_carried.Given as goal

abbrev pub invariant-loop-pair : goal.invariant-loop-pair
invariant-loop-pair l = (k : ℕ) (d : Pair) → k < l.pair-index → IsCarriedValue (get_or l.pairs k d).key × IsCarriedValue (get_or l.pairs k d).value
