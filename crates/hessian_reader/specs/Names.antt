-- The names of a reading.
use Rattle.std.specs.Prelude.{List, [], ◌∷◌, ◌++◌}
use Rattle.hessian_graph.specs.declared.node.Class.{Class}
use Rattle.hessian_graph.specs.Shape.{Text}

-- the types and the classes that came, by their numbers
pub record Names : Type 0 where
  pub types : List Text
  pub classes : List Class

abbrev pub no_names : Names
no_names = record { types = []; classes = [] }

abbrev pub and_type : Text → Names → Names
and_type text t = record t { types = t.types ++ text ∷ [] }

abbrev pub and_class : Class → Names → Names
and_class class t = record t { classes = t.classes ++ class ∷ [] }
