-- Which bytes spell a value of a finished graph, and which bytes denote a graph: a rule for each row of the
-- bytecode map of the Hessian 2.0 Serialization Protocol. All names and numbers stand in the order of the bytes.
use Rattle.std.specs.Prelude.{◌≡◌, ℕ, ◌+◌, ◌-◌, ◌<◌, ◌≤◌, pos, List, [], ◌∷◌, ◌++◌, length, get_or, Some, None}
use Rattle.hessian_graph.specs.declared.value.Value.{Value}
use Rattle.hessian_graph.specs.declared.value.Value.TheVariants as values
use Rattle.hessian_graph.specs.declared.node.Class.{Class}
use Rattle.hessian_graph.specs.Shape.{Text, Kind, ListKind, MapKind, ObjectKind, Shape, values_at, kind_at, no_class}
use Rattle.hessian_graph.specs.Reading.{Tables, Leaves, IntSpelling, IsScalar, IsCode, no_tables, one_more, add_type, add_class}

-- a type: a text, which enters the types, or an int, the place of an earlier type
pub data TypeSpelling (l : Leaves) : Text → Tables → Tables → List ℕ → Type 0 where
  named : {t : Tables} (text : Text) (bytes : List ℕ) → l.text text bytes → TypeSpelling l text t (add_type text t) bytes
  numbered : {t : Tables} (k : ℕ) (bytes : List ℕ) → k < length t.types → IntSpelling l (pos k) bytes → TypeSpelling l (get_or t.types k []) t t bytes

-- texts, one after another
pub data TextsSpelling (l : Leaves) : List Text → List ℕ → Type 0 where
  none : TextsSpelling l [] []
  one : (text : Text) (texts : List Text) (front rest : List ℕ) → l.text text front → TextsSpelling l texts rest → TextsSpelling l (text ∷ texts) (front ++ rest)

-- what stands behind `C`: the name of a class, the number of its fields, and their names
pub record ClassSpelling (l : Leaves) (class : Class) (bytes : List ℕ) : Type 0 where
  pub name : List ℕ
  pub count : List ℕ
  pub fields : List ℕ
  pub is_name : l.text class.name name
  pub is_count : IntSpelling l (pos (length class.fields)) count
  pub are_fields : TextsSpelling l class.fields fields
  pub joined : bytes ≡ name ++ (count ++ fields)

-- the next node begins here, and it is a node of the graph and of this kind
pub record Begins (g : Shape) (t : Tables) (n : ℕ) (kind : Kind) : Type 0 where
  pub next : n ≡ t.begun
  pub within : n < length g.nodes
  pub kind_is : kind_at g n ≡ kind

-- the next node begins here, an object of the class of this number, and it has a value for each field
pub record BeginsObject (g : Shape) (t : Tables) (n k : ℕ) : Type 0 where
  pub known : k < length t.classes
  pub begins : Begins g t n (ObjectKind (get_or t.classes k no_class))
  pub values_are : length (values_at g n) ≡ length (get_or t.classes k no_class).fields

-- a map's values are whole pairs
abbrev pub ArePairs : List Value → Type 0
ArePairs vs = (pairs : ℕ) × (length vs ≡ pairs + pairs)

mutual
  -- these bytes spell this value of the graph, and take the tables from the first to the second
  pub data Spells (l : Leaves) (g : Shape) : Value → Tables → Tables → List ℕ → Type 0 where
    scalar : {t : Tables} (v : Value) (bytes : List ℕ) → IsScalar v → l.scalar v bytes → Spells l g v t t bytes
    text : {t : Tables} (text : Text) (bytes : List ℕ) → l.text text bytes → Spells l g (values.Text text) t t bytes
    binary : {t : Tables} (contents bytes : List ℕ) → l.binary contents bytes → Spells l g (values.Bytes contents) t t bytes
    -- a node that has begun
    reference : {t : Tables} (n : ℕ) (number : List ℕ) → n < t.begun → IntSpelling l (pos n) number → Spells l g (values.Node n) t t (0x51 ∷ number)
    -- a class is defined, and then the value comes
    class_first : {t u : Tables} (v : Value) (class : Class) (definition rest : List ℕ) → ClassSpelling l class definition → Spells l g v (add_class class t) u rest → Spells l g v t u (0x43 ∷ (definition ++ rest))
    -- lists without a type: values up to `Z`, a length and values, and a length in the code
    open_list : {t u : Tables} (n : ℕ) (items : List ℕ) → Begins g t n (ListKind None) → SpellsAll l g (values_at g n) (one_more t) u items → Spells l g (values.Node n) t u (0x57 ∷ (items ++ 0x5a ∷ []))
    long_list : {t u : Tables} (n : ℕ) (count items : List ℕ) → Begins g t n (ListKind None) → IntSpelling l (pos (length (values_at g n))) count → SpellsAll l g (values_at g n) (one_more t) u items → Spells l g (values.Node n) t u (0x58 ∷ (count ++ items))
    short_list : {t u : Tables} (n code : ℕ) (items : List ℕ) → Begins g t n (ListKind None) → IsCode 0x78 0x7f code → length (values_at g n) ≡ code - 0x78 → SpellsAll l g (values_at g n) (one_more t) u items → Spells l g (values.Node n) t u (code ∷ items)
    -- lists with a type: the same three
    open_typed_list : {t u w : Tables} (n : ℕ) (type : Text) (name items : List ℕ) → Begins g t n (ListKind (Some type)) → TypeSpelling l type t u name → SpellsAll l g (values_at g n) (one_more u) w items → Spells l g (values.Node n) t w (0x55 ∷ (name ++ (items ++ 0x5a ∷ [])))
    long_typed_list : {t u w : Tables} (n : ℕ) (type : Text) (name count items : List ℕ) → Begins g t n (ListKind (Some type)) → TypeSpelling l type t u name → IntSpelling l (pos (length (values_at g n))) count → SpellsAll l g (values_at g n) (one_more u) w items → Spells l g (values.Node n) t w (0x56 ∷ (name ++ (count ++ items)))
    short_typed_list : {t u w : Tables} (n code : ℕ) (type : Text) (name items : List ℕ) → Begins g t n (ListKind (Some type)) → IsCode 0x70 0x77 code → length (values_at g n) ≡ code - 0x70 → TypeSpelling l type t u name → SpellsAll l g (values_at g n) (one_more u) w items → Spells l g (values.Node n) t w (code ∷ (name ++ items))
    -- maps: pairs of values up to `Z`
    open_map : {t u : Tables} (n : ℕ) (items : List ℕ) → Begins g t n (MapKind None) → ArePairs (values_at g n) → SpellsAll l g (values_at g n) (one_more t) u items → Spells l g (values.Node n) t u (0x48 ∷ (items ++ 0x5a ∷ []))
    open_typed_map : {t u w : Tables} (n : ℕ) (type : Text) (name items : List ℕ) → Begins g t n (MapKind (Some type)) → ArePairs (values_at g n) → TypeSpelling l type t u name → SpellsAll l g (values_at g n) (one_more u) w items → Spells l g (values.Node n) t w (0x4d ∷ (name ++ (items ++ 0x5a ∷ [])))
    -- objects: a class number, by itself or in the code, and a value for each field
    long_object : {t u : Tables} (n k : ℕ) (number items : List ℕ) → BeginsObject g t n k → IntSpelling l (pos k) number → SpellsAll l g (values_at g n) (one_more t) u items → Spells l g (values.Node n) t u (0x4f ∷ (number ++ items))
    short_object : {t u : Tables} (n code : ℕ) (items : List ℕ) → IsCode 0x60 0x6f code → BeginsObject g t n (code - 0x60) → SpellsAll l g (values_at g n) (one_more t) u items → Spells l g (values.Node n) t u (code ∷ items)

  -- values, one after another
  pub data SpellsAll (l : Leaves) (g : Shape) : List Value → Tables → Tables → List ℕ → Type 0 where
    none : {t : Tables} → SpellsAll l g [] t t []
    one : {v : Value} {vs : List Value} {t u w : Tables} (front rest : List ℕ) → Spells l g v t u front → SpellsAll l g vs u w rest → SpellsAll l g (v ∷ vs) t w (front ++ rest)

-- the roots, spelled one after another from empty tables, use all bytes and begin exactly the nodes of the graph
pub record SpellsGraph (l : Leaves) (bytes : List ℕ) (g : Shape) : Type 0 where
  pub last : Tables
  pub roots : SpellsAll l g g.roots no_tables last bytes
  pub all_begun : last.begun ≡ length g.nodes

-- the bytes denote the graph, which has at most so many nodes
pub record Denotes (l : Leaves) (bound : ℕ) (bytes : List ℕ) (g : Shape) : Type 0 where
  pub spelled : SpellsGraph l bytes g
  pub limit : length g.nodes ≤ bound
