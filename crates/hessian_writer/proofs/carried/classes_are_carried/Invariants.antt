use Rattle.std.proofs.Common.{ℕ, ◌<◌, get_or}
use Rattle.hessian_graph.specs.declared.node.Class.{Class}
use Rattle.hessian_writer.specs.Carried.{IsCarriedClass}
use Rattle.hessian_writer.proofs.carried.classes_are_carried.Given as goal

abbrev pub invariant-loop-class : goal.invariant-loop-class
invariant-loop-class l = (k : ℕ) (d : Class) → k < l.class-index → IsCarriedClass (get_or l.classes k d)
