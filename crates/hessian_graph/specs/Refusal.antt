-- Why bytes denote no graph with so many roots: the first element that is refused, and its place.
use Rattle.std.specs.Prelude.{◌≡◌, ◌≢◌, ℕ, ◌+◌, ◌-◌, ◌<◌, ◌≤◌, ℤ, pos, negsuc, List, [], ◌∷◌, ◌++◌, length, ◌⊎◌}
use Rattle.hessian_graph.specs.declared.value.Value.{Value}
use Rattle.hessian_graph.specs.declared.node.Class.{Class}
use Rattle.hessian_graph.specs.Shape.{Text, Shape}
use Rattle.hessian_graph.specs.Reading.{Tables, Leaves, IntSpelling, IsScalar, IsCode, no_tables}
use Rattle.hessian_graph.specs.Spells.{Denotes}
use Rattle.hessian_graph.specs.Loose.{LooseForm, Slot, OneValue, Items, Entries, AReference, AType, ALength, AClass, AName, ACount, AField, ones, Leads, BeginsLoosely}

-- a place counts from 0; a code is the byte there, and a number the int there
pub data Cause : Type 0 where
  Short : (at : ℕ) → Cause
  Double : (at code : ℕ) → Cause
  BadCode : (at code : ℕ) → Cause
  BadText : (at : ℕ) → Cause
  BadRef : (at : ℕ) (number : ℤ) → Cause
  BadType : (at : ℕ) (number : ℤ) → Cause
  BadClass : (at : ℕ) (number : ℤ) → Cause
  BadLength : (at : ℕ) (number : ℤ) → Cause
  TooManyNodes : (at : ℕ) → Cause
  Trailing : (at : ℕ) → Cause

-- What other crates refuse inside a leaf: the codes of doubles; and of a text or a byte list that begins these bytes, a
-- place with a code that begins no chunk, or with bytes that are no character.
pub record LeafFaults : Type 1 where
  pub double : ℕ → Type 0
  pub text_code : List ℕ → ℕ → ℕ → Type 0
  pub text_character : List ℕ → ℕ → Type 0
  pub binary_code : List ℕ → ℕ → ℕ → Type 0

-- the codes of lists, maps and objects
pub data BeginsNode : ℕ → Type 0 where
  map : BeginsNode 0x48
  typed_map : BeginsNode 0x4d
  long_object : BeginsNode 0x4f
  open_typed_list : BeginsNode 0x55
  long_typed_list : BeginsNode 0x56
  open_list : BeginsNode 0x57
  long_list : BeginsNode 0x58
  short_object : (code : ℕ) → IsCode 0x60 0x6f code → BeginsNode code
  short_typed_list : (code : ℕ) → IsCode 0x70 0x77 code → BeginsNode code
  short_list : (code : ℕ) → IsCode 0x78 0x7f code → BeginsNode code

abbrev pub BeginsNoInt : Leaves → ℕ → Type 0
BeginsNoInt l code = (z : ℤ) (more : List ℕ) → IntSpelling l z (code ∷ more) → ⊥

abbrev pub BeginsNoText : Leaves → ℕ → Type 0
BeginsNoText l code = (text : Text) (more : List ℕ) → l.text text (code ∷ more) → ⊥

-- neither a value, nor a double, nor the end of a list or map
pub record BeginsNoValue (l : Leaves) (f : LeafFaults) (code : ℕ) : Type 0 where
  pub no_scalar : (v : Value) (more : List ℕ) → IsScalar v → l.scalar v (code ∷ more) → ⊥
  pub no_text : BeginsNoText l code
  pub no_binary : (contents more : List ℕ) → l.binary contents (code ∷ more) → ⊥
  pub no_node : BeginsNode code → ⊥
  pub no_reference : code ≢ 0x51
  pub no_class : code ≢ 0x43
  pub no_double : f.double code → ⊥
  pub no_end : code ≢ 0x5a

-- the places of a value, of an int, and of a name
pub data WantsValue : Slot → Type 0 where
  one : WantsValue OneValue
  item : WantsValue Items
  key : WantsValue Entries

pub data WantsInt : Slot → Type 0 where
  of_reference : WantsInt AReference
  of_length : WantsInt ALength
  of_class : WantsInt AClass
  of_count : (name : Text) → WantsInt (ACount name)

pub data WantsName : Slot → Type 0 where
  of_class : WantsName AName
  of_field : (class : Class) (k : ℕ) → WantsName (AField class k)

-- the places where a text may stand
pub data MayBeText : Slot → Type 0 where
  in_value : {s : Slot} → WantsValue s → MayBeText s
  in_name : {s : Slot} → WantsName s → MayBeText s
  in_type : (form : LooseForm) → MayBeText (AType form)

-- the int is a number below the count
abbrev pub IsBelow : ℤ → ℕ → Type 0
IsBelow z count = (k : ℕ) × (z ≡ pos k) × (k < count)

abbrev pub IsNegative : ℤ → Type 0
IsNegative z = (k : ℕ) × (z ≡ negsuc k)

-- a whole int that its place refuses
pub data RefusedInt (t : Tables) (at : ℕ) (z : ℤ) : Slot → Cause → Type 0 where
  bad_length : IsNegative z → RefusedInt t at z ALength (BadLength at z)
  bad_count : (name : Text) → IsNegative z → RefusedInt t at z (ACount name) (BadLength at z)
  bad_reference : (IsBelow z t.begun → ⊥) → RefusedInt t at z AReference (BadRef at z)
  bad_type : (form : LooseForm) → (IsBelow z (length t.types) → ⊥) → RefusedInt t at z (AType form) (BadType at z)
  bad_class : (IsBelow z (length t.classes) → ⊥) → RefusedInt t at z AClass (BadClass at z)

-- An element that begins at this place is refused: these are its bytes as far as they came, the last of them the one
-- that is refused. The slots are what was to come there.
pub data Refused (l : Leaves) (f : LeafFaults) (bound : ℕ) (t : Tables) (at : ℕ) : List Slot → List ℕ → Cause → Type 0 where
  -- the code in a value's place
  double : (s : Slot) (ss : List Slot) (code : ℕ) → WantsValue s → f.double code → Refused l f bound t at (s ∷ ss) (code ∷ []) (Double at code)
  no_value : (s : Slot) (ss : List Slot) (code : ℕ) → WantsValue s → BeginsNoValue l f code → Refused l f bound t at (s ∷ ss) (code ∷ []) (BadCode at code)
  no_end : (ss : List Slot) → Refused l f bound t at (OneValue ∷ ss) (0x5a ∷ []) (BadCode at 0x5a)
  too_many : (s : Slot) (ss : List Slot) (code : ℕ) → WantsValue s → BeginsNode code → bound ≤ t.begun → Refused l f bound t at (s ∷ ss) (code ∷ []) (TooManyNodes at)
  no_such_class : (s : Slot) (ss : List Slot) (code : ℕ) → WantsValue s → IsCode 0x60 0x6f code → t.begun < bound → length t.classes ≤ code - 0x60 → Refused l f bound t at (s ∷ ss) (code ∷ []) (BadClass at (pos (code - 0x60)))
  -- an int: its first byte, or all of it
  no_int : (s : Slot) (ss : List Slot) (code : ℕ) → WantsInt s → BeginsNoInt l code → Refused l f bound t at (s ∷ ss) (code ∷ []) (BadCode at code)
  int : (s : Slot) (ss : List Slot) (z : ℤ) (element : List ℕ) (cause : Cause) → IntSpelling l z element → RefusedInt t at z s cause → Refused l f bound t at (s ∷ ss) element cause
  -- a name, and a type
  no_text : (s : Slot) (ss : List Slot) (code : ℕ) → WantsName s → BeginsNoText l code → Refused l f bound t at (s ∷ ss) (code ∷ []) (BadCode at code)
  no_type : (form : LooseForm) (ss : List Slot) (code : ℕ) → BeginsNoText l code → BeginsNoInt l code → Refused l f bound t at (AType form ∷ ss) (code ∷ []) (BadCode at code)
  -- inside a text or a byte list: behind a chunk that isn't the last, and in a character
  text_code : (s : Slot) (ss : List Slot) (element : List ℕ) (p code : ℕ) → MayBeText s → 0 < p → f.text_code element p code → Refused l f bound t at (s ∷ ss) element (BadCode (at + p) code)
  text_character : (s : Slot) (ss : List Slot) (element : List ℕ) (p : ℕ) → MayBeText s → f.text_character element p → Refused l f bound t at (s ∷ ss) element (BadText (at + p))
  binary_code : (s : Slot) (ss : List Slot) (element : List ℕ) (p code : ℕ) → WantsValue s → 0 < p → f.binary_code element p code → Refused l f bound t at (s ∷ ss) element (BadCode (at + p) code)
  -- behind the last root
  trailing : (code : ℕ) → Refused l f bound t at [] (code ∷ []) (Trailing at)

-- the bytes end in a whole int that its place refuses
pub record EndsInRefusedInt (l : Leaves) (roots : ℕ) (bytes : List ℕ) : Type 0 where
  pub before : List ℕ
  pub element : List ℕ
  pub tables : Tables
  pub slot : Slot
  pub slots : List Slot
  pub number : ℤ
  pub cause : Cause
  pub joined : bytes ≡ before ++ element
  pub reached : Leads l no_tables (ones roots []) before tables (slot ∷ slots)
  pub is_int : IntSpelling l number element
  pub refused : RefusedInt tables (length before) number slot cause

-- no loose spelling goes on from the bytes, or they end in a refused int
abbrev pub Stops : Leaves → ℕ → ℕ → List ℕ → Type 0
Stops l bound roots bytes = (BeginsLoosely l bound roots bytes → ⊥) ⊎ EndsInRefusedInt l roots bytes

-- the shortest front of the bytes that stops, and why the element that it ends in is refused
pub record Stopped (l : Leaves) (f : LeafFaults) (bound roots : ℕ) (bytes : List ℕ) (cause : Cause) : Type 0 where
  pub before : List ℕ
  pub element : List ℕ
  pub rest : List ℕ
  pub tables : Tables
  pub slots : List Slot
  pub joined : bytes ≡ (before ++ element) ++ rest
  pub stops : Stops l bound roots (before ++ element)
  pub shortest : (front more : List ℕ) → before ++ element ≡ front ++ more → more ≢ [] → Stops l bound roots front → ⊥
  pub reached : Leads l no_tables (ones roots []) before tables slots
  pub refused : Refused l f bound tables (length before) slots element cause

-- no front of the bytes stops, and they denote no graph with so many roots
pub record CutShort (l : Leaves) (bound roots : ℕ) (bytes : List ℕ) : Type 0 where
  pub goes_on : (front rest : List ℕ) → bytes ≡ front ++ rest → Stops l bound roots front → ⊥
  pub no_graph : (g : Shape) → Denotes l bound bytes g → length g.roots ≡ roots → ⊥

-- why the bytes denote no graph with so many roots
abbrev pub Refusal : Leaves → LeafFaults → ℕ → ℕ → List ℕ → Cause → Type 0
Refusal l f bound roots bytes cause =
    Stopped l f bound roots bytes cause
    ⊎ (CutShort l bound roots bytes × (cause ≡ Short (length bytes)))
