-- Graphs whose values are such as the types of the program can hold.
use Rattle.std.specs.Prelude.{◌≡◌, ℕ, ◌<◌, List, length, Option, Some, None, All, FitsSigned, IsUtf8}
use Rattle.std.specs.Int.{w32, w64}
use Rattle.hessian_text.specs.Spelling.{AreBytes}
use Rattle.hessian_graph.specs.declared.value.Value.{Value}
use Rattle.hessian_graph.specs.declared.value.Value.TheVariants as values
use Rattle.hessian_graph.specs.declared.node.Class.{Class}
use Rattle.hessian_graph.specs.Shape.{Text, Kind, ListKind, MapKind, ObjectKind, Shape, kind_at, values_at}
use Rattle.hessian_graph.specs.Spells.{ArePairs}

-- an int has 32 bits, a long and a date have 64, a text is in UTF-8, and a list of bytes has bytes
abbrev pub IsCarriedValue : Value → Type 0
IsCarriedValue values.Null = Unit {0}
IsCarriedValue (values.Bool b) = Unit {0}
IsCarriedValue (values.Int z) = FitsSigned w32 z
IsCarriedValue (values.Long z) = FitsSigned w64 z
IsCarriedValue (values.Date z) = FitsSigned w64 z
IsCarriedValue (values.Text text) = IsUtf8 text
IsCarriedValue (values.Bytes contents) = AreBytes contents
IsCarriedValue (values.Node n) = Unit {0}

-- a type, where there is one, is in UTF-8
abbrev pub IsCarriedType : Option Text → Type 0
IsCarriedType None = Unit {0}
IsCarriedType (Some type) = IsUtf8 type

-- the name and the fields of a class are in UTF-8
abbrev pub IsCarriedClass : Class → Type 0
IsCarriedClass class = IsUtf8 class.name × All IsUtf8 class.fields

-- a map's values are whole pairs, and an object has a value for each field of its class
abbrev pub IsCarriedKind : Kind → List Value → Type 0
IsCarriedKind (ListKind type) vs = IsCarriedType type
IsCarriedKind (MapKind type) vs = IsCarriedType type × ArePairs vs
IsCarriedKind (ObjectKind class) vs = IsCarriedClass class × (length vs ≡ length class.fields)

-- each value and each node of the graph is such
pub record IsCarried (g : Shape) : Type 0 where
  pub roots : All IsCarriedValue g.roots
  pub kinds : (n : ℕ) → n < length g.nodes → IsCarriedKind (kind_at g n) (values_at g n)
  pub values : (n : ℕ) → n < length g.nodes → All IsCarriedValue (values_at g n)
