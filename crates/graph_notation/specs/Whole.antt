-- What holds of the nodes that a notation has.
use Rattle.std.specs.Prelude.{◌≡◌, ℕ, ◌+◌, List, [], ◌∷◌, length}
use Rattle.hessian_graph.specs.declared.value.Value.{Value}
use Rattle.hessian_graph.specs.Shape.{Kind, ListKind, MapKind, ObjectKind, NodeShape}
use Rattle.hessian_graph.specs.Work.{NamesBelow}

abbrev pub IsEven : ℕ → Type 0
IsEven n = (h : ℕ) × (n ≡ h + h)

-- so many values as the kind takes
abbrev pub Fits : Kind → ℕ → Type 0
Fits (ListKind type) n = Unit {0}
Fits (MapKind type) n = IsEven n
Fits (ObjectKind class) n = n ≡ length class.fields

abbrev pub AllBelow : ℕ → List Value → Type 0
AllBelow count [] = Unit {0}
AllBelow count (v ∷ vs) = NamesBelow count v × AllBelow count vs

pub record IsGood (count : ℕ) (node : NodeShape) : Type 0 where
  pub values : AllBelow count node.values
  pub fits : Fits node.kind (length node.values)

abbrev pub AllGood : ℕ → List NodeShape → Type 0
AllGood count [] = Unit {0}
AllGood count (node ∷ nodes) = IsGood count node × AllGood count nodes
