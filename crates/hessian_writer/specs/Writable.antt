-- Which graphs are written.
use Rattle.std.specs.Prelude.{ℕ, ◌<◌, ◌^◌, List, length}
use Rattle.hessian_graph.specs.declared.value.Value.{Value}
use Rattle.hessian_graph.specs.Shape.{Kind, ListKind, MapKind, ObjectKind, Shape, kind_at, values_at}

-- a list has fewer values than an int can count, and an object's class fewer fields; a map states no length
abbrev pub IsShortKind : Kind → List Value → Type 0
IsShortKind (ListKind type) vs = length vs < 2 ^ 31
IsShortKind (MapKind type) vs = Unit {0}
IsShortKind (ObjectKind class) vs = length class.fields < 2 ^ 31

-- the graph has fewer nodes than an int can count, and so has each list items and each class fields
pub record IsWritable (g : Shape) : Type 0 where
  pub few : length g.nodes < 2 ^ 31
  pub each : (n : ℕ) → n < length g.nodes → IsShortKind (kind_at g n) (values_at g n)
