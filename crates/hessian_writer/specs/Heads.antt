-- What the writer puts before the values of a node.
use Rattle.std.specs.Prelude.{◌≡◌, ℕ, ◌+◌, ◌<◌, ◌≤◌, pos, List, [], ◌∷◌, ◌++◌, length, Some, None}
use Rattle.hessian_graph.specs.declared.node.Class.{Class}
use Rattle.hessian_graph.specs.Shape.{Text, Kind, ListKind, MapKind, ObjectKind, no_class}
use Rattle.hessian_graph.specs.Reading.{Tables, Leaves, IntSpelling, one_more, add_class}
use Rattle.hessian_graph.specs.Spells.{ClassSpelling}
use Rattle.hessian_graph.specs.Forms.{IsEarliest, IsNew, TypeForm, SHORT_LENGTH, SHORT_CLASS}

-- a node of this kind and of so many values begins with these bytes, which take the tables from the first to the second
pub data HeadForm (w : Leaves) : Kind → ℕ → Tables → Tables → List ℕ → Type 0 where
  short_list : {t : Tables} (count : ℕ) → count ≤ SHORT_LENGTH → HeadForm w (ListKind None) count t (one_more t) ((0x78 + count) ∷ [])
  long_list : {t : Tables} (count : ℕ) (stated : List ℕ) → SHORT_LENGTH < count → IntSpelling w (pos count) stated → HeadForm w (ListKind None) count t (one_more t) (0x58 ∷ stated)
  short_typed_list : {t u : Tables} (type : Text) (count : ℕ) (name : List ℕ) → count ≤ SHORT_LENGTH → TypeForm w type t u name → HeadForm w (ListKind (Some type)) count t (one_more u) ((0x70 + count) ∷ name)
  long_typed_list : {t u : Tables} (type : Text) (count : ℕ) (name stated : List ℕ) → SHORT_LENGTH < count → TypeForm w type t u name → IntSpelling w (pos count) stated → HeadForm w (ListKind (Some type)) count t (one_more u) (0x56 ∷ (name ++ stated))
  map : {t : Tables} (count pairs : ℕ) → count ≡ pairs + pairs → HeadForm w (MapKind None) count t (one_more t) (0x48 ∷ [])
  typed_map : {t u : Tables} (type : Text) (count pairs : ℕ) (name : List ℕ) → count ≡ pairs + pairs → TypeForm w type t u name → HeadForm w (MapKind (Some type)) count t (one_more u) (0x4d ∷ name)
  -- an object has a value for each field, and its class stands in the table or is defined first
  short_object : {t : Tables} (class : Class) (count k : ℕ) → IsEarliest no_class t.classes class k → count ≡ length class.fields → k ≤ SHORT_CLASS → HeadForm w (ObjectKind class) count t (one_more t) ((0x60 + k) ∷ [])
  long_object : {t : Tables} (class : Class) (count k : ℕ) (number : List ℕ) → IsEarliest no_class t.classes class k → count ≡ length class.fields → SHORT_CLASS < k → IntSpelling w (pos k) number → HeadForm w (ObjectKind class) count t (one_more t) (0x4f ∷ number)
  first_object : {t u : Tables} (class : Class) (count : ℕ) (definition rest : List ℕ) → IsNew no_class t.classes class → ClassSpelling w class definition → HeadForm w (ObjectKind class) count (add_class class t) u rest → HeadForm w (ObjectKind class) count t u (0x43 ∷ (definition ++ rest))
