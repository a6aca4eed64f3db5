-- The writer's spelling of a graph: of all forms that could stand at a place, the one that the writer takes.
use Rattle.std.specs.Prelude.{◌≡◌, ℕ, ◌+◌, ◌<◌, ◌≤◌, pos, List, [], ◌∷◌, ◌++◌, length, get_or, Some, None}
use Rattle.hessian_graph.specs.declared.value.Value.{Value}
use Rattle.hessian_graph.specs.declared.value.Value.TheVariants as values
use Rattle.hessian_graph.specs.declared.node.Class.{Class}
use Rattle.hessian_graph.specs.Shape.{Text, ListKind, MapKind, ObjectKind, Shape, values_at, no_class}
use Rattle.hessian_graph.specs.Canon.{IsCanon}
use Rattle.hessian_graph.specs.Reading.{Tables, Leaves, IntSpelling, IsScalar, no_tables, one_more, add_type, add_class}
use Rattle.hessian_graph.specs.Spells.{ClassSpelling, Begins, ArePairs, SpellsGraph}

-- the earliest place of a name in a table
pub record IsEarliest {N : Type 0} (none : N) (table : List N) (name : N) (k : ℕ) : Type 0 where
  pub within : k < length table
  pub is : get_or table k none ≡ name
  pub earliest : (j : ℕ) → j < k → get_or table j none ≡ name → ⊥

-- the name is at no place of the table
abbrev pub IsNew : {N : Type 0} → N → List N → N → Type 0
IsNew none table name = (k : ℕ) → k < length table → get_or table k none ≡ name → ⊥

-- a type: the number of its earliest entry where it has one, else its text
pub data TypeForm (w : Leaves) : Text → Tables → Tables → List ℕ → Type 0 where
  known : {t : Tables} (type : Text) (k : ℕ) (bytes : List ℕ) → IsEarliest [] t.types type k → IntSpelling w (pos k) bytes → TypeForm w type t t bytes
  new : {t : Tables} (type : Text) (bytes : List ℕ) → IsNew [] t.types type → w.text type bytes → TypeForm w type t (add_type type t) bytes

-- an object of a class that has been defined begins here, and this is the number of its class
pub record IsObjectOf (g : Shape) (t : Tables) (n k : ℕ) : Type 0 where
  pub class : Class
  pub begins : Begins g t n (ObjectKind class)
  pub number_is : IsEarliest no_class t.classes class k
  pub values_are : length (values_at g n) ≡ length class.fields

-- the most items of a list, and the greatest class number, that the writer puts into a code
abbrev pub SHORT_LENGTH : ℕ
SHORT_LENGTH = 7

abbrev pub SHORT_CLASS : ℕ
SHORT_CLASS = 15

mutual
  -- the writer's bytes for this value; w are the writer's forms of scalars, texts and byte lists
  pub data Writes (w : Leaves) (g : Shape) : Value → Tables → Tables → List ℕ → Type 0 where
    scalar : {t : Tables} (v : Value) (bytes : List ℕ) → IsScalar v → w.scalar v bytes → Writes w g v t t bytes
    text : {t : Tables} (text : Text) (bytes : List ℕ) → w.text text bytes → Writes w g (values.Text text) t t bytes
    binary : {t : Tables} (contents bytes : List ℕ) → w.binary contents bytes → Writes w g (values.Bytes contents) t t bytes
    -- a node that was begun before
    reference : {t : Tables} (n : ℕ) (number : List ℕ) → n < t.begun → IntSpelling w (pos n) number → Writes w g (values.Node n) t t (0x51 ∷ number)
    -- a list has its length
    short_list : {t u : Tables} (n : ℕ) (items : List ℕ) → Begins g t n (ListKind None) → length (values_at g n) ≤ SHORT_LENGTH → WritesAll w g (values_at g n) (one_more t) u items → Writes w g (values.Node n) t u ((0x78 + length (values_at g n)) ∷ items)
    long_list : {t u : Tables} (n : ℕ) (count items : List ℕ) → Begins g t n (ListKind None) → SHORT_LENGTH < length (values_at g n) → IntSpelling w (pos (length (values_at g n))) count → WritesAll w g (values_at g n) (one_more t) u items → Writes w g (values.Node n) t u (0x58 ∷ (count ++ items))
    short_typed_list : {t u x : Tables} (n : ℕ) (type : Text) (name items : List ℕ) → Begins g t n (ListKind (Some type)) → length (values_at g n) ≤ SHORT_LENGTH → TypeForm w type t u name → WritesAll w g (values_at g n) (one_more u) x items → Writes w g (values.Node n) t x ((0x70 + length (values_at g n)) ∷ (name ++ items))
    long_typed_list : {t u x : Tables} (n : ℕ) (type : Text) (name count items : List ℕ) → Begins g t n (ListKind (Some type)) → SHORT_LENGTH < length (values_at g n) → TypeForm w type t u name → IntSpelling w (pos (length (values_at g n))) count → WritesAll w g (values_at g n) (one_more u) x items → Writes w g (values.Node n) t x (0x56 ∷ (name ++ (count ++ items)))
    map : {t u : Tables} (n : ℕ) (items : List ℕ) → Begins g t n (MapKind None) → ArePairs (values_at g n) → WritesAll w g (values_at g n) (one_more t) u items → Writes w g (values.Node n) t u (0x48 ∷ (items ++ 0x5a ∷ []))
    typed_map : {t u x : Tables} (n : ℕ) (type : Text) (name items : List ℕ) → Begins g t n (MapKind (Some type)) → ArePairs (values_at g n) → TypeForm w type t u name → WritesAll w g (values_at g n) (one_more u) x items → Writes w g (values.Node n) t x (0x4d ∷ (name ++ (items ++ 0x5a ∷ [])))
    -- a class is defined just before its first object
    first_object : {t u : Tables} (n : ℕ) (class : Class) (definition rest : List ℕ) → Begins g t n (ObjectKind class) → IsNew no_class t.classes class → ClassSpelling w class definition → Writes w g (values.Node n) (add_class class t) u rest → Writes w g (values.Node n) t u (0x43 ∷ (definition ++ rest))
    short_object : {t u : Tables} (n k : ℕ) (items : List ℕ) → IsObjectOf g t n k → k ≤ SHORT_CLASS → WritesAll w g (values_at g n) (one_more t) u items → Writes w g (values.Node n) t u ((0x60 + k) ∷ items)
    long_object : {t u : Tables} (n k : ℕ) (number items : List ℕ) → IsObjectOf g t n k → SHORT_CLASS < k → IntSpelling w (pos k) number → WritesAll w g (values_at g n) (one_more t) u items → Writes w g (values.Node n) t u (0x4f ∷ (number ++ items))

  -- values, one after another
  pub data WritesAll (w : Leaves) (g : Shape) : List Value → Tables → Tables → List ℕ → Type 0 where
    none : {t : Tables} → WritesAll w g [] t t []
    one : {v : Value} {vs : List Value} {t u x : Tables} (front rest : List ℕ) → Writes w g v t u front → WritesAll w g vs u x rest → WritesAll w g (v ∷ vs) t x (front ++ rest)

-- the roots stand one after another from empty tables, each form the writer's
pub record InForms (w : Leaves) (bytes : List ℕ) (g : Shape) : Type 0 where
  pub last : Tables
  pub roots : WritesAll w g g.roots no_tables last bytes

-- The bytes spell the canonical form of the graph, and each form in them is the writer's. So they denote the canonical
-- form where it has no more nodes than the bound.
pub record Written (l w : Leaves) (g : Shape) (bytes : List ℕ) : Type 0 where
  pub form : Shape
  pub canonical : IsCanon g form
  pub spelled : SpellsGraph l bytes form
  pub in_forms : InForms w bytes form
