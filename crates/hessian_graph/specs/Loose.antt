-- Loose spellings: as a spelling, but the int of a reference, of a type or of a class behind `O` may be any int, a
-- negative length or count counts as 0, and an object of a class that isn't there has no values. They speak of no graph.
use Rattle.std.specs.Prelude.{◌≡◌, ℕ, zero, suc, ◌-◌, ◌<◌, ◌≤◌, ℤ, pos, negsuc, List, [], ◌∷◌, ◌++◌, length, get_or}
use Rattle.hessian_graph.specs.declared.value.Value.{Value}
use Rattle.hessian_graph.specs.declared.node.Class.{Class}
use Rattle.hessian_graph.specs.Shape.{Text, no_class}
use Rattle.hessian_graph.specs.Reading.{Tables, Leaves, IntSpelling, IsScalar, IsCode, no_tables, one_more, add_type, add_class}

-- what stands behind a type; the code of a short list says how many values it has
pub data LooseForm : Type 0 where
  Open : LooseForm
  Long : LooseForm
  Short : ℕ → LooseForm
  Pairs : LooseForm

-- what is to come: a value, values up to `Z`, pairs up to `Z`, or what is left of a node's header or of a class
-- definition, of which so many fields are still to come
pub data Slot : Type 0 where
  OneValue : Slot
  Items : Slot
  Entries : Slot
  AReference : Slot
  AType : LooseForm → Slot
  ALength : Slot
  AClass : Slot
  AName : Slot
  ACount : Text → Slot
  AField : Class → ℕ → Slot

-- so many values, and then the other slots
abbrev pub ones : ℕ → List Slot → List Slot
ones zero ss = ss
ones (suc k) ss = OneValue ∷ ones k ss

-- a negative number counts as 0
abbrev pub or_zero : ℤ → ℕ
or_zero (pos k) = k
or_zero (negsuc k) = 0

-- how many fields the class of this number has, or none where there is no such class
abbrev pub field_number : Tables → ℤ → ℕ
field_number t (pos k) = length (get_or t.classes k no_class).fields
field_number t (negsuc k) = 0

-- so many fields of a class are still to come, and behind the last the class enters the tables
abbrev pub fields_left : Class → ℕ → List Slot → List Slot
fields_left class zero ss = ss
fields_left class (suc k) ss = AField class (suc k) ∷ ss

abbrev pub class_so_far : Class → ℕ → Tables → Tables
class_so_far class zero t = add_class class t
class_so_far class (suc k) t = t

abbrev pub and_field : Class → Text → Class
and_field class field = record class { fields = class.fields ++ field ∷ [] }

abbrev pub behind_type : LooseForm → List Slot → List Slot
behind_type Open ss = Items ∷ ss
behind_type Long ss = ALength ∷ ss
behind_type (Short k) ss = ones k ss
behind_type Pairs ss = Entries ∷ ss

-- the node begins behind its type, unless a length is still to come
abbrev pub begun_by : LooseForm → Tables → Tables
begun_by Open t = one_more t
begun_by Long t = t
begun_by (Short k) t = one_more t
begun_by Pairs t = one_more t

-- the codes of typed nodes
pub data TypedCode : LooseForm → ℕ → Type 0 where
  open_list : TypedCode Open 0x55
  long_list : TypedCode Long 0x56
  short_list : (code : ℕ) → IsCode 0x70 0x77 code → TypedCode (Short (code - 0x70)) code
  map : TypedCode Pairs 0x4d

-- the first element of a value: before the other slots it leaves these
pub data ValueRow (l : Leaves) : Tables → List ℕ → List Slot → List Slot → Tables → Type 0 where
  scalar : {t : Tables} {ss : List Slot} (v : Value) (element : List ℕ) → IsScalar v → l.scalar v element → ValueRow l t element ss ss t
  text : {t : Tables} {ss : List Slot} (text : Text) (element : List ℕ) → l.text text element → ValueRow l t element ss ss t
  binary : {t : Tables} {ss : List Slot} (contents element : List ℕ) → l.binary contents element → ValueRow l t element ss ss t
  refer : {t : Tables} {ss : List Slot} → ValueRow l t (0x51 ∷ []) ss (AReference ∷ ss) t
  define : {t : Tables} {ss : List Slot} → ValueRow l t (0x43 ∷ []) ss (AName ∷ OneValue ∷ ss) t
  open_list : {t : Tables} {ss : List Slot} → ValueRow l t (0x57 ∷ []) ss (Items ∷ ss) (one_more t)
  long_list : {t : Tables} {ss : List Slot} → ValueRow l t (0x58 ∷ []) ss (ALength ∷ ss) t
  short_list : {t : Tables} {ss : List Slot} (code : ℕ) → IsCode 0x78 0x7f code → ValueRow l t (code ∷ []) ss (ones (code - 0x78) ss) (one_more t)
  typed : {t : Tables} {ss : List Slot} (form : LooseForm) (code : ℕ) → TypedCode form code → ValueRow l t (code ∷ []) ss (AType form ∷ ss) t
  open_map : {t : Tables} {ss : List Slot} → ValueRow l t (0x48 ∷ []) ss (Entries ∷ ss) (one_more t)
  long_object : {t : Tables} {ss : List Slot} → ValueRow l t (0x4f ∷ []) ss (AClass ∷ ss) t
  short_object : {t : Tables} {ss : List Slot} (code : ℕ) → IsCode 0x60 0x6f code → code - 0x60 < length t.classes → ValueRow l t (code ∷ []) ss (ones (field_number t (pos (code - 0x60))) ss) (one_more t)

-- The first slot, met by an element, gives way to others before the rest of the slots, and the tables change.
pub data LooseRow (l : Leaves) : Tables → Slot → List ℕ → List Slot → List Slot → Tables → Type 0 where
  value : {t t' : Tables} {ss ss' : List Slot} {element : List ℕ} → ValueRow l t element ss ss' t' → LooseRow l t OneValue element ss ss' t'
  item : {t t' : Tables} {ss ss' : List Slot} {element : List ℕ} → ValueRow l t element (Items ∷ ss) ss' t' → LooseRow l t Items element ss ss' t'
  key : {t t' : Tables} {ss ss' : List Slot} {element : List ℕ} → ValueRow l t element (OneValue ∷ Entries ∷ ss) ss' t' → LooseRow l t Entries element ss ss' t'
  no_item : {t : Tables} {ss : List Slot} → LooseRow l t Items (0x5a ∷ []) ss ss t
  no_entry : {t : Tables} {ss : List Slot} → LooseRow l t Entries (0x5a ∷ []) ss ss t
  reference : {t : Tables} {ss : List Slot} (z : ℤ) (element : List ℕ) → IntSpelling l z element → LooseRow l t AReference element ss ss t
  type_name : {t : Tables} {ss : List Slot} (form : LooseForm) (type : Text) (element : List ℕ) → l.text type element → LooseRow l t (AType form) element ss (behind_type form ss) (begun_by form (add_type type t))
  type_number : {t : Tables} {ss : List Slot} (form : LooseForm) (z : ℤ) (element : List ℕ) → IntSpelling l z element → LooseRow l t (AType form) element ss (behind_type form ss) (begun_by form t)
  list_length : {t : Tables} {ss : List Slot} (z : ℤ) (element : List ℕ) → IntSpelling l z element → LooseRow l t ALength element ss (ones (or_zero z) ss) (one_more t)
  class_number : {t : Tables} {ss : List Slot} (z : ℤ) (element : List ℕ) → IntSpelling l z element → LooseRow l t AClass element ss (ones (field_number t z) ss) (one_more t)
  class_name : {t : Tables} {ss : List Slot} (name : Text) (element : List ℕ) → l.text name element → LooseRow l t AName element ss (ACount name ∷ ss) t
  field_count : {t : Tables} {ss : List Slot} (name : Text) (z : ℤ) (element : List ℕ) → IntSpelling l z element → LooseRow l t (ACount name) element ss (fields_left (record { name = name; fields = [] }) (or_zero z) ss) (class_so_far (record { name = name; fields = [] }) (or_zero z) t)
  field_name : {t : Tables} {ss : List Slot} (class : Class) (k : ℕ) (field : Text) (element : List ℕ) → l.text field element → LooseRow l t (AField class (suc k)) element ss (fields_left (and_field class field) k ss) (class_so_far (and_field class field) k t)

-- Whole elements, each by its row, lead from these tables and slots to those.
pub data Leads (l : Leaves) : Tables → List Slot → List ℕ → Tables → List Slot → Type 0 where
  here : {t : Tables} {ss : List Slot} → Leads l t ss [] t ss
  on : {t t' u : Tables} {s : Slot} {ss ss' ss'' : List Slot} (element rest bytes : List ℕ) → LooseRow l t s element ss ss' t' → bytes ≡ element ++ rest → Leads l t' ss' rest u ss'' → Leads l t (s ∷ ss) bytes u ss''

-- the bytes are a loose spelling of so many values that begins no more nodes than the bound
pub record LooselySpells (l : Leaves) (bound roots : ℕ) (bytes : List ℕ) : Type 0 where
  pub last : Tables
  pub leads : Leads l no_tables (ones roots []) bytes last []
  pub limit : last.begun ≤ bound

-- the bytes are the front of a loose spelling
pub record BeginsLoosely (l : Leaves) (bound roots : ℕ) (bytes : List ℕ) : Type 0 where
  pub more : List ℕ
  pub spelled : LooselySpells l bound roots (bytes ++ more)
