use Rattle.std.proofs.Common.{ℕ, ◌<◌, List, length, get_or, subst, IsUtf8}
use Rattle.std.specs.Prelude.{All}
use Rattle.hessian_graph.specs.declared.node.Class.{Class}
use Rattle.hessian_graph.specs.Shape.{no_class}
use Rattle.hessian_writer.specs.Carried.{IsCarriedClass}
use Rattle.hessian_writer.proofs.carried.parts_are_carried.Goals as goal

pub returns-clause-types : goal.returns-clause-types
returns-clause-types c = subst (λ (ts : List (List ℕ)). All (λ t. IsUtf8 t) ts) c.as_slice-types.ensures c.texts_are_carried.ensures

pub returns-clause-classes : goal.returns-clause-classes
returns-clause-classes c = subst (λ (cs : List Class). (n : ℕ) → n < length cs → IsCarriedClass (get_or cs n no_class)) c.as_slice-classes.ensures c.classes_are_carried.ensures
