-- What the writer writes, from left to right, by what is still due.
use Rattle.std.specs.Prelude.{◌≡◌, ℕ, pos, List, [], ◌∷◌, ◌++◌, length, Some, None}
use Rattle.hessian_graph.specs.declared.value.Value.{Value}
use Rattle.hessian_graph.specs.declared.value.Value.TheVariants as values
use Rattle.hessian_graph.specs.Shape.{Text, Kind, ListKind, MapKind, ObjectKind, Shape, kind_at, values_at}
use Rattle.hessian_graph.specs.Canon.{place_of}
use Rattle.hessian_graph.specs.Reading.{Tables, Leaves, IntSpelling, IsScalar}
use Rattle.hessian_writer.specs.Heads.{HeadForm}

-- what is due: a value, or the end of a map
pub data Due : Type 0 where
  ValueOf : Value → Due
  End : Due

-- these values, and then the rest
abbrev pub values_then : List Value → List Due → List Due
values_then [] ds = ds
values_then (v ∷ vs) ds = ValueOf v ∷ values_then vs ds

-- a map has an end, which stands before the rest
abbrev pub end_then : Kind → List Due → List Due
end_then (ListKind type) ds = ds
end_then (MapKind type) ds = End ∷ ds
end_then (ObjectKind class) ds = ds

-- a value that is no node, and the writer's bytes for it
pub data LeafForm (w : Leaves) : Value → List ℕ → Type 0 where
  scalar : (v : Value) (bytes : List ℕ) → IsScalar v → w.scalar v bytes → LeafForm w v bytes
  text : (text : Text) (bytes : List ℕ) → w.text text bytes → LeafForm w (values.Text text) bytes
  binary : (contents bytes : List ℕ) → w.binary contents bytes → LeafForm w (values.Bytes contents) bytes

-- From the nodes seen so far and these tables, through what is due, to these bytes, all nodes seen and the last tables.
pub data Course (w : Leaves) (g : Shape) : List ℕ → Tables → List Due → List ℕ → List ℕ → Tables → Type 0 where
  done : {seen : List ℕ} {t : Tables} → Course w g seen t [] [] seen t
  end : {seen out bytes : List ℕ} {t u : Tables} {ds : List Due} → Course w g seen t ds bytes out u → Course w g seen t (End ∷ ds) (0x5a ∷ bytes) out u
  leaf : {seen out bytes : List ℕ} {t u : Tables} {ds : List Due} (v : Value) (form : List ℕ) → LeafForm w v form → Course w g seen t ds bytes out u → Course w g seen t (ValueOf v ∷ ds) (form ++ bytes) out u
  again : {seen out bytes : List ℕ} {t u : Tables} {ds : List Due} (n k : ℕ) (number : List ℕ) → place_of n seen ≡ Some k → IntSpelling w (pos k) number → Course w g seen t ds bytes out u → Course w g seen t (ValueOf (values.Node n) ∷ ds) (0x51 ∷ (number ++ bytes)) out u
  first : {seen out bytes : List ℕ} {t t' u : Tables} {ds : List Due} (n : ℕ) (head : List ℕ) → place_of n seen ≡ None → HeadForm w (kind_at g n) (length (values_at g n)) t t' head → Course w g (seen ++ n ∷ []) t' (values_then (values_at g n) (end_then (kind_at g n) ds)) bytes out u → Course w g seen t (ValueOf (values.Node n) ∷ ds) (head ++ bytes) out u

-- the nodes seen, the tables, and what is written
pub record State : Type 0 where
  pub order : List ℕ
  pub tables : Tables
  pub out : List ℕ

-- from here, through what is due, the writer comes to these bytes in all
pub record Leads (w : Leaves) (g : Shape) (s : State) (ds : List Due) (bytes order : List ℕ) (last : Tables) : Type 0 where
  pub rest : List ℕ
  pub joined : bytes ≡ s.out ++ rest
  pub course : Course w g s.order s.tables ds rest order last

-- what leads on from the second state, through what is due there, leads on from the first
pub record GoesOn (w : Leaves) (g : Shape) (s : State) (ds : List Due) (s' : State) (ds' : List Due) : Type 0 where
  pub leads : (bytes order : List ℕ) (last : Tables) → Leads w g s' ds' bytes order last → Leads w g s ds bytes order last
