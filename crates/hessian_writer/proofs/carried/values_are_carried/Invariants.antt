use Rattle.std.proofs.Common.{ℕ, ◌<◌, get_or}
use Rattle.hessian_graph.specs.declared.value.Value.{Value}
use Rattle.hessian_writer.specs.Carried.{IsCarriedValue}
use Rattle.hessian_writer.proofs.carried.values_are_carried.Given as goal

abbrev pub invariant-loop-value : goal.invariant-loop-value
invariant-loop-value l = (k : ℕ) (d : Value) → k < l.value-index → IsCarriedValue (get_or l.values k d)
