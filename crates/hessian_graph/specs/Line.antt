-- The same spellings from left to right: what is still to come is a list of symbols, and each element of the bytes
-- (a leaf, a code, an int or a text in its place) gives way to what follows it.
use Rattle.std.specs.Prelude.{◌≡◌, ℕ, ◌-◌, ◌<◌, pos, List, [], ◌∷◌, ◌++◌, length, get_or, Some, None}
use Rattle.hessian_graph.specs.declared.value.Value.{Value}
use Rattle.hessian_graph.specs.declared.value.Value.TheVariants as values
use Rattle.hessian_graph.specs.declared.node.Class.{Class}
use Rattle.hessian_graph.specs.Shape.{Text, Kind, ListKind, MapKind, Shape, values_at}
use Rattle.hessian_graph.specs.Reading.{Tables, Leaves, IntSpelling, IsScalar, IsCode, one_more, add_type, add_class}
use Rattle.hessian_graph.specs.Spells.{Begins, BeginsObject, ArePairs}

-- what stands behind a type: values and `Z`, a length and values, as many values as the code says, or pairs and `Z`
pub data Form : Type 0 where
  Open : Form
  Long : Form
  Short : Form
  Pairs : Form

-- what is to come: a value, a `Z`, or what is left of a node's header or of a class definition
pub data Symbol : Type 0 where
  ValueOf : Value → Symbol
  End : Symbol
  Reference : ℕ → Symbol
  TypeFor : Form → ℕ → Symbol
  LengthFor : ℕ → Symbol
  ClassFor : ℕ → Symbol
  NameOf : Class → Symbol
  CountOf : Class → Symbol
  FieldOf : Class → Text → List Text → Symbol

-- these values, and then the other symbols
abbrev pub values_then : List Value → List Symbol → List Symbol
values_then [] ss = ss
values_then (v ∷ vs) ss = ValueOf v ∷ values_then vs ss

-- the fields that are still to come, and then the other symbols
abbrev pub fields_then : Class → List Text → List Symbol → List Symbol
fields_then class [] ss = ss
fields_then class (field ∷ fields) ss = FieldOf class field fields ∷ ss

-- the class enters the tables once no field is to come
abbrev pub defined : Class → List Text → Tables → Tables
defined class [] t = add_class class t
defined class (field ∷ fields) t = t

-- the next node begins here, and it is a node of the graph
pub record IsNext (g : Shape) (t : Tables) (n : ℕ) : Type 0 where
  pub next : n ≡ t.begun
  pub within : n < length g.nodes

abbrev pub typed_kind : Form → Text → Kind
typed_kind Open type = ListKind (Some type)
typed_kind Long type = ListKind (Some type)
typed_kind Short type = ListKind (Some type)
typed_kind Pairs type = MapKind (Some type)

-- what comes behind the type of a node with these values
abbrev pub behind_type : Form → ℕ → List Value → List Symbol → List Symbol
behind_type Open n vs ss = values_then vs (End ∷ ss)
behind_type Long n vs ss = LengthFor n ∷ ss
behind_type Short n vs ss = values_then vs ss
behind_type Pairs n vs ss = values_then vs (End ∷ ss)

-- the node begins behind its type, unless a length is still to come
abbrev pub begun_by : Form → Tables → Tables
begun_by Open t = one_more t
begun_by Long t = t
begun_by Short t = one_more t
begun_by Pairs t = one_more t

-- the code of a typed node, and what it asks of the node's values
pub data TypedCode (vs : List Value) : Form → ℕ → Type 0 where
  open_list : TypedCode vs Open 0x55
  long_list : TypedCode vs Long 0x56
  short_list : (code : ℕ) → IsCode 0x70 0x77 code → length vs ≡ code - 0x70 → TypedCode vs Short code
  map : ArePairs vs → TypedCode vs Pairs 0x4d

-- The first symbol, met by an element, gives way to others before the rest of the symbols, and the tables change.
pub data Row (l : Leaves) (g : Shape) : Tables → Symbol → List ℕ → List Symbol → List Symbol → Tables → Type 0 where
  scalar : {t : Tables} {ss : List Symbol} (v : Value) (element : List ℕ) → IsScalar v → l.scalar v element → Row l g t (ValueOf v) element ss ss t
  text : {t : Tables} {ss : List Symbol} (text : Text) (element : List ℕ) → l.text text element → Row l g t (ValueOf (values.Text text)) element ss ss t
  binary : {t : Tables} {ss : List Symbol} (contents element : List ℕ) → l.binary contents element → Row l g t (ValueOf (values.Bytes contents)) element ss ss t
  end : {t : Tables} {ss : List Symbol} → Row l g t End (0x5a ∷ []) ss ss t
  refer : {t : Tables} {ss : List Symbol} (n : ℕ) → Row l g t (ValueOf (values.Node n)) (0x51 ∷ []) ss (Reference n ∷ ss) t
  reference : {t : Tables} {ss : List Symbol} (n : ℕ) (element : List ℕ) → n < t.begun → IntSpelling l (pos n) element → Row l g t (Reference n) element ss ss t
  define : {t : Tables} {ss : List Symbol} (v : Value) (class : Class) → Row l g t (ValueOf v) (0x43 ∷ []) ss (NameOf class ∷ ValueOf v ∷ ss) t
  class_name : {t : Tables} {ss : List Symbol} (class : Class) (element : List ℕ) → l.text class.name element → Row l g t (NameOf class) element ss (CountOf class ∷ ss) t
  field_count : {t : Tables} {ss : List Symbol} (class : Class) (element : List ℕ) → IntSpelling l (pos (length class.fields)) element → Row l g t (CountOf class) element ss (fields_then class class.fields ss) (defined class class.fields t)
  field_name : {t : Tables} {ss : List Symbol} (class : Class) (field : Text) (fields : List Text) (element : List ℕ) → l.text field element → Row l g t (FieldOf class field fields) element ss (fields_then class fields ss) (defined class fields t)
  open_list : {t : Tables} {ss : List Symbol} (n : ℕ) → Begins g t n (ListKind None) → Row l g t (ValueOf (values.Node n)) (0x57 ∷ []) ss (values_then (values_at g n) (End ∷ ss)) (one_more t)
  long_list : {t : Tables} {ss : List Symbol} (n : ℕ) → Begins g t n (ListKind None) → Row l g t (ValueOf (values.Node n)) (0x58 ∷ []) ss (LengthFor n ∷ ss) t
  short_list : {t : Tables} {ss : List Symbol} (n code : ℕ) → Begins g t n (ListKind None) → IsCode 0x78 0x7f code → length (values_at g n) ≡ code - 0x78 → Row l g t (ValueOf (values.Node n)) (code ∷ []) ss (values_then (values_at g n) ss) (one_more t)
  list_length : {t : Tables} {ss : List Symbol} (n : ℕ) (element : List ℕ) → IsNext g t n → IntSpelling l (pos (length (values_at g n))) element → Row l g t (LengthFor n) element ss (values_then (values_at g n) ss) (one_more t)
  typed : {t : Tables} {ss : List Symbol} (form : Form) (n code : ℕ) → IsNext g t n → TypedCode (values_at g n) form code → Row l g t (ValueOf (values.Node n)) (code ∷ []) ss (TypeFor form n ∷ ss) t
  type_name : {t : Tables} {ss : List Symbol} (form : Form) (n : ℕ) (type : Text) (element : List ℕ) → Begins g t n (typed_kind form type) → l.text type element → Row l g t (TypeFor form n) element ss (behind_type form n (values_at g n) ss) (begun_by form (add_type type t))
  type_number : {t : Tables} {ss : List Symbol} (form : Form) (n k : ℕ) (element : List ℕ) → k < length t.types → Begins g t n (typed_kind form (get_or t.types k [])) → IntSpelling l (pos k) element → Row l g t (TypeFor form n) element ss (behind_type form n (values_at g n) ss) (begun_by form t)
  open_map : {t : Tables} {ss : List Symbol} (n : ℕ) → Begins g t n (MapKind None) → ArePairs (values_at g n) → Row l g t (ValueOf (values.Node n)) (0x48 ∷ []) ss (values_then (values_at g n) (End ∷ ss)) (one_more t)
  long_object : {t : Tables} {ss : List Symbol} (n : ℕ) → IsNext g t n → Row l g t (ValueOf (values.Node n)) (0x4f ∷ []) ss (ClassFor n ∷ ss) t
  class_number : {t : Tables} {ss : List Symbol} (n k : ℕ) (element : List ℕ) → BeginsObject g t n k → IntSpelling l (pos k) element → Row l g t (ClassFor n) element ss (values_then (values_at g n) ss) (one_more t)
  short_object : {t : Tables} {ss : List Symbol} (n code : ℕ) → IsCode 0x60 0x6f code → BeginsObject g t n (code - 0x60) → Row l g t (ValueOf (values.Node n)) (code ∷ []) ss (values_then (values_at g n) ss) (one_more t)

-- Elements, each by its row, from these tables and symbols to the tables at the end.
pub data Line (l : Leaves) (g : Shape) : Tables → List Symbol → Tables → List ℕ → Type 0 where
  done : {t : Tables} → Line l g t [] t []
  next : {t t' u : Tables} {s : Symbol} {ss ss' : List Symbol} (element rest bytes : List ℕ) → Row l g t s element ss ss' t' → bytes ≡ element ++ rest → Line l g t' ss' u rest → Line l g t (s ∷ ss) u bytes
