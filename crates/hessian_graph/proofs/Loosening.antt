-- Each spelling is a loose spelling: the slots fit the symbols.
use Rattle.std.proofs.Common.{◌≡◌, ℕ, zero, suc, ◌+◌, ◌-◌, ◌≤◌, List, [], ◌∷◌, ◌++◌, length, get_or, refl, ap, sym, ◌∙◌, subst, arith, append_assoc}
use Rattle.std.specs.Prelude.{pos}
use Rattle.hessian_graph.specs.declared.value.Value.{Value}
use Rattle.hessian_graph.specs.declared.node.Class.{Class}
use Rattle.hessian_graph.specs.Shape.{Text, Shape, values_at, no_class}
use Rattle.hessian_graph.specs.Reading.{Tables, Leaves, no_tables, add_type, add_class}
use Rattle.hessian_graph.specs.Spells.{ArePairs, Denotes}
use Rattle.hessian_graph.specs.Line.{Form, Symbol, ValueOf, End, Reference, TypeFor, LengthFor, ClassFor, NameOf, CountOf, FieldOf, values_then, fields_then, defined, TypedCode, Row, Line}
use Rattle.hessian_graph.specs.Line.{behind_type as line_behind, begun_by as line_begun}
use Rattle.hessian_graph.specs.Line.Form.{Open as FOpen, Long as FLong, Short as FShort, Pairs as FPairs}
use Rattle.hessian_graph.specs.Line.TypedCode.{open_list as c_open_list, long_list as c_long_list, short_list as c_short_list, map as c_map}
use Rattle.hessian_graph.specs.Line.Row.{scalar as r_scalar, text as r_text, binary as r_binary, refer as r_refer, define as r_define, open_list as r_open_list, long_list as r_long_list, short_list as r_short_list, typed as r_typed, open_map as r_open_map, long_object as r_long_object, short_object as r_short_object, end as r_end, reference as r_reference, list_length as r_list_length, type_name as r_type_name, type_number as r_type_number, class_number as r_class_number, class_name as r_class_name, field_count as r_field_count, field_name as r_field_name}
use Rattle.hessian_graph.specs.Line.Line.{done, next}
use Rattle.hessian_graph.specs.Loose.{LooseForm, Open, Long, Short, Pairs, Slot, OneValue, Items, Entries, AReference, AType, ALength, AClass, AName, ACount, AField, ones, fields_left, class_so_far, and_field, behind_type, begun_by, ValueRow, LooseRow, Leads, LooselySpells}
use Rattle.hessian_graph.specs.Loose.TypedCode.{open_list as l_open, long_list as l_long, short_list as l_short, map as l_map}
use Rattle.hessian_graph.specs.Loose.ValueRow.{scalar as v_scalar, text as v_text, binary as v_binary, refer as v_refer, define as v_define, open_list as v_open_list, long_list as v_long_list, short_list as v_short_list, typed as v_typed, open_map as v_open_map, long_object as v_long_object, short_object as v_short_object}
use Rattle.hessian_graph.specs.Loose.LooseRow.{value as x_value, item as x_item, key as x_key, no_item as x_no_item, no_entry as x_no_entry, reference as x_reference, type_name as x_type_name, type_number as x_type_number, list_length as x_list_length, class_number as x_class_number, class_name as x_class_name, field_count as x_field_count, field_name as x_field_name}
use Rattle.hessian_graph.specs.Loose.Leads.{here, on}
use Rattle.hessian_graph.proofs.ToLine.{line_of}

-- the form of a code, and what it says of the node's values
pub data FormFits (vs : List Value) : Form → LooseForm → Type 0 where
  open_fits : FormFits vs FOpen Open
  long_fits : FormFits vs FLong Long
  short_fits : (k : ℕ) → length vs ≡ k → FormFits vs FShort (Short k)
  pairs_fit : ArePairs vs → FormFits vs FPairs Pairs

-- a class of which these fields are still to come
pub record SoFar (class known : Class) (fields : List Text) : Type 0 where
  pub name : known.name ≡ class.name
  pub joined : known.fields ++ fields ≡ class.fields

-- these slots stand for these symbols
pub data Fits (g : Shape) : List Symbol → List Slot → Type 0 where
  f_nothing : Fits g [] []
  f_one : {v : Value} {ss : List Symbol} {xs : List Slot} → Fits g ss xs → Fits g (ValueOf v ∷ ss) (OneValue ∷ xs)
  f_item : {v : Value} {ss : List Symbol} {xs : List Slot} → Fits g ss (Items ∷ xs) → Fits g (ValueOf v ∷ ss) (Items ∷ xs)
  f_no_item : {ss : List Symbol} {xs : List Slot} → Fits g ss xs → Fits g (End ∷ ss) (Items ∷ xs)
  f_key : {v : Value} {ss : List Symbol} {xs : List Slot} → Fits g ss (OneValue ∷ Entries ∷ xs) → Fits g (ValueOf v ∷ ss) (Entries ∷ xs)
  f_no_entry : {ss : List Symbol} {xs : List Slot} → Fits g ss xs → Fits g (End ∷ ss) (Entries ∷ xs)
  f_reference : {n : ℕ} {ss : List Symbol} {xs : List Slot} → Fits g ss xs → Fits g (Reference n ∷ ss) (AReference ∷ xs)
  f_type : {form : Form} {n : ℕ} {ss : List Symbol} {xs : List Slot} (loose : LooseForm) → FormFits (values_at g n) form loose → Fits g ss xs → Fits g (TypeFor form n ∷ ss) (AType loose ∷ xs)
  f_list_length : {n : ℕ} {ss : List Symbol} {xs : List Slot} → Fits g ss xs → Fits g (LengthFor n ∷ ss) (ALength ∷ xs)
  f_class : {n : ℕ} {ss : List Symbol} {xs : List Slot} → Fits g ss xs → Fits g (ClassFor n ∷ ss) (AClass ∷ xs)
  f_name : {class : Class} {ss : List Symbol} {xs : List Slot} → Fits g ss xs → Fits g (NameOf class ∷ ss) (AName ∷ xs)
  f_count : {class : Class} {ss : List Symbol} {xs : List Slot} → Fits g ss xs → Fits g (CountOf class ∷ ss) (ACount class.name ∷ xs)
  f_field : {class : Class} {field : Text} {fields : List Text} {ss : List Symbol} {xs : List Slot} (known : Class) → SoFar class known (field ∷ fields) → Fits g ss xs → Fits g (FieldOf class field fields ∷ ss) (AField known (suc (length fields)) ∷ xs)

values_fit : {g : Shape} {ss : List Symbol} {xs : List Slot} (vs : List Value) → Fits g ss xs → Fits g (values_then vs ss) (ones (length vs) xs)
values_fit [] fits = fits
values_fit (v ∷ vs) fits = f_one (values_fit vs fits)

counted_fit : {g : Shape} {ss : List Symbol} {xs : List Slot} (vs : List Value) (k : ℕ) → length vs ≡ k → Fits g ss xs → Fits g (values_then vs ss) (ones k xs)
counted_fit {g} {ss} {xs} vs k e fits = subst (λ n. Fits g (values_then vs ss) (ones n xs)) e (values_fit vs fits)

items_fit : {g : Shape} {ss : List Symbol} {xs : List Slot} (vs : List Value) → Fits g ss xs → Fits g (values_then vs (End ∷ ss)) (Items ∷ xs)
items_fit [] fits = f_no_item fits
items_fit (v ∷ vs) fits = f_item (items_fit vs fits)

entries_fit : {g : Shape} {ss : List Symbol} {xs : List Slot} (pairs : ℕ) (vs : List Value) → length vs ≡ pairs + pairs → Fits g ss xs → Fits g (values_then vs (End ∷ ss)) (Entries ∷ xs)
entries_fit pairs [] e fits = f_no_entry fits
entries_fit zero (v ∷ vs) e fits = absurd (omega (arith, e))
entries_fit (suc pairs) (v ∷ []) e fits = absurd (omega (arith, e))
entries_fit (suc pairs) (v ∷ v' ∷ vs) e fits = f_key (f_one (entries_fit pairs vs (omega (arith, e)) fits))

behind_fits : {g : Shape} {ss : List Symbol} {xs : List Slot} {form : Form} {loose : LooseForm} (n : ℕ) → FormFits (values_at g n) form loose → Fits g ss xs → Fits g (line_behind form n (values_at g n) ss) (behind_type loose xs)
behind_fits {g} n open_fits fits = items_fit (values_at g n) fits
behind_fits n long_fits fits = f_list_length fits
behind_fits {g} n (short_fits k e) fits = counted_fit (values_at g n) k e fits
behind_fits {g} n (pairs_fit pairs) fits = entries_fit pairs.0 (values_at g n) pairs.1 fits

begun_same : {vs : List Value} {form : Form} {loose : LooseForm} (t : Tables) → FormFits vs form loose → begun_by loose t ≡ line_begun form t
begun_same t open_fits = refl
begun_same t long_fits = refl
begun_same t (short_fits k e) = refl
begun_same t (pairs_fit pairs) = refl

fields_fit : {g : Shape} {ss : List Symbol} {xs : List Slot} (class known : Class) (fields : List Text) → SoFar class known fields → Fits g ss xs → Fits g (fields_then class fields ss) (fields_left known (length fields) xs)
fields_fit class known [] so_far fits = fits
fields_fit class known (f ∷ fields) so_far fits = f_field known so_far fits

append_none : {A : Type 0} (xs : List A) → xs ++ [] ≡ xs
append_none [] = refl
append_none (x ∷ xs) = ap (λ ys. x ∷ ys) (append_none xs)

whole_class : (class known : Class) → SoFar class known [] → known ≡ class
whole_class class known so_far =
    let same : known.fields ≡ class.fields = sym (append_none known.fields) ∙ so_far.joined in
    let step : known ≡ record { name = class.name; fields = known.fields } = ap (λ (x : Text). record { name = x; fields = known.fields }) so_far.name in
    let last : record { name = class.name; fields = known.fields } ≡ class = ap (λ (x : List Text). record { name = class.name; fields = x }) same in
    step ∙ last

tables_same : (class known : Class) (fields : List Text) (t : Tables) → SoFar class known fields → class_so_far known (length fields) t ≡ defined class fields t
tables_same class known [] t so_far = ap (λ x. add_class x t) (whole_class class known so_far)
tables_same class known (f ∷ fields) t so_far = refl

one_field_on : (class known : Class) (f : Text) (fields : List Text) → SoFar class known (f ∷ fields) → SoFar class (and_field known f) fields
one_field_on class known f fields so_far = record { name = so_far.name; joined = append_assoc known.fields (f ∷ []) fields ∙ so_far.joined }

-- what an element of a value leaves
record ValueStep (l : Leaves) (g : Shape) (t : Tables) (element : List ℕ) (xs : List Slot) (ss : List Symbol) (u : Tables) : Type 0 where
  after : List Slot
  row : ValueRow l t element xs after u
  fits : Fits g ss after

typed_step : {l : Leaves} {g : Shape} {t : Tables} {ss : List Symbol} {xs : List Slot} (form : Form) (n code : ℕ) → TypedCode (values_at g n) form code → Fits g ss xs → ValueStep l g t (code ∷ []) xs (TypeFor form n ∷ ss) t
typed_step {xs = xs} form n code c_open_list fits = record { after = AType Open ∷ xs; row = v_typed Open 0x55 l_open; fits = f_type Open open_fits fits }
typed_step {xs = xs} form n code c_long_list fits = record { after = AType Long ∷ xs; row = v_typed Long 0x56 l_long; fits = f_type Long long_fits fits }
typed_step {xs = xs} form n code (c_short_list code' row e) fits = record { after = AType (Short (code' - 0x70)) ∷ xs; row = v_typed (Short (code' - 0x70)) code' (l_short code' row); fits = f_type (Short (code' - 0x70)) (short_fits (code' - 0x70) e) fits }
typed_step {xs = xs} form n code (c_map pairs) fits = record { after = AType Pairs ∷ xs; row = v_typed Pairs 0x4d l_map; fits = f_type Pairs (pairs_fit pairs) fits }

value_step : {l : Leaves} {g : Shape} {t u : Tables} {v : Value} {element : List ℕ} {ss ss' : List Symbol} (xs : List Slot) → Row l g t (ValueOf v) element ss ss' u → Fits g ss xs → ValueStep l g t element xs ss' u
value_step xs (r_scalar v element plain is) fits = record { after = xs; row = v_scalar v element plain is; fits = fits }
value_step xs (r_text text element is) fits = record { after = xs; row = v_text text element is; fits = fits }
value_step xs (r_binary contents element is) fits = record { after = xs; row = v_binary contents element is; fits = fits }
value_step xs (r_refer n) fits = record { after = AReference ∷ xs; row = v_refer; fits = f_reference fits }
value_step xs (r_define v class) fits = record { after = AName ∷ OneValue ∷ xs; row = v_define; fits = f_name (f_one fits) }
value_step {g = g} xs (r_open_list n b) fits = record { after = Items ∷ xs; row = v_open_list; fits = items_fit (values_at g n) fits }
value_step xs (r_long_list n b) fits = record { after = ALength ∷ xs; row = v_long_list; fits = f_list_length fits }
value_step {g = g} xs (r_short_list n code b row e) fits = record { after = ones (code - 0x78) xs; row = v_short_list code row; fits = counted_fit (values_at g n) (code - 0x78) e fits }
value_step xs (r_typed form n code b is) fits = typed_step form n code is fits
value_step {g = g} xs (r_open_map n b pairs) fits = record { after = Entries ∷ xs; row = v_open_map; fits = entries_fit pairs.0 (values_at g n) pairs.1 fits }
value_step xs (r_long_object n b) fits = record { after = AClass ∷ xs; row = v_long_object; fits = f_class fits }
value_step {g = g} {t = t} xs (r_short_object n code row b) fits =
    let k : ℕ = length (get_or t.classes (code - 0x60) no_class).fields in
    record { after = ones k xs; row = v_short_object code row b.known; fits = counted_fit (values_at g n) k b.values_are fits }

-- what an element leaves
record LooseStep (l : Leaves) (g : Shape) (t : Tables) (element : List ℕ) (xs : List Slot) (ss : List Symbol) (u : Tables) : Type 0 where
  slot : Slot
  others : List Slot
  after : List Slot
  splits : xs ≡ slot ∷ others
  row : LooseRow l t slot element others after u
  fits : Fits g ss after

in_place : {l : Leaves} {g : Shape} {t u : Tables} {v : Value} {element : List ℕ} {ss ss' : List Symbol} {xs : List Slot} → Row l g t (ValueOf v) element ss ss' u → Fits g (ValueOf v ∷ ss) xs → LooseStep l g t element xs ss' u
in_place row (f_one {xs = xs} fits) = let s = value_step xs row fits in record { slot = OneValue; others = xs; after = s.after; splits = refl; row = x_value s.row; fits = s.fits }
in_place row (f_item {xs = xs} fits) = let s = value_step (Items ∷ xs) row fits in record { slot = Items; others = xs; after = s.after; splits = refl; row = x_item s.row; fits = s.fits }
in_place row (f_key {xs = xs} fits) = let s = value_step (OneValue ∷ Entries ∷ xs) row fits in record { slot = Entries; others = xs; after = s.after; splits = refl; row = x_key s.row; fits = s.fits }

at_end : {l : Leaves} {g : Shape} {t : Tables} {ss : List Symbol} {xs : List Slot} → Fits g (End ∷ ss) xs → LooseStep l g t (0x5a ∷ []) xs ss t
at_end (f_no_item {xs = xs} fits) = record { slot = Items; others = xs; after = xs; splits = refl; row = x_no_item; fits = fits }
at_end (f_no_entry {xs = xs} fits) = record { slot = Entries; others = xs; after = xs; splits = refl; row = x_no_entry; fits = fits }

by_row : {l : Leaves} {g : Shape} {t u : Tables} {s : Symbol} {element : List ℕ} {ss ss' : List Symbol} (xs : List Slot) → Row l g t s element ss ss' u → Fits g (s ∷ ss) xs → LooseStep l g t element xs ss' u
by_row xs (r_scalar v element plain is) fits = in_place (r_scalar v element plain is) fits
by_row xs (r_text text element is) fits = in_place (r_text text element is) fits
by_row xs (r_binary contents element is) fits = in_place (r_binary contents element is) fits
by_row xs (r_refer n) fits = in_place (r_refer n) fits
by_row xs (r_define v class) fits = in_place (r_define v class) fits
by_row xs (r_open_list n b) fits = in_place (r_open_list n b) fits
by_row xs (r_long_list n b) fits = in_place (r_long_list n b) fits
by_row xs (r_short_list n code b row e) fits = in_place (r_short_list n code b row e) fits
by_row xs (r_typed form n code b is) fits = in_place (r_typed form n code b is) fits
by_row xs (r_open_map n b pairs) fits = in_place (r_open_map n b pairs) fits
by_row xs (r_long_object n b) fits = in_place (r_long_object n b) fits
by_row xs (r_short_object n code row b) fits = in_place (r_short_object n code row b) fits
by_row xs r_end fits = at_end fits
by_row xs (r_reference n element begun is) (f_reference {xs = others} fits) = record { slot = AReference; others = others; after = others; splits = refl; row = x_reference (pos n) element is; fits = fits }
by_row {g = g} xs (r_list_length n element b is) (f_list_length {xs = others} fits) = record { slot = ALength; others = others; after = ones (length (values_at g n)) others; splits = refl; row = x_list_length (pos (length (values_at g n))) element is; fits = values_fit (values_at g n) fits }
by_row {l} {g} {t} xs (r_type_name form n type' element b is) (f_type {xs = others} loose form_fits fits) =
    record { slot = AType loose; others = others; after = behind_type loose others; splits = refl; row = subst (λ u. LooseRow l t (AType loose) element others (behind_type loose others) u) (begun_same (add_type type' t) form_fits) (x_type_name loose type' element is); fits = behind_fits n form_fits fits }
by_row {l} {g} {t} xs (r_type_number form n k element known b is) (f_type {xs = others} loose form_fits fits) =
    record { slot = AType loose; others = others; after = behind_type loose others; splits = refl; row = subst (λ u. LooseRow l t (AType loose) element others (behind_type loose others) u) (begun_same t form_fits) (x_type_number loose (pos k) element is); fits = behind_fits n form_fits fits }
by_row {g = g} {t = t} xs (r_class_number n k element b is) (f_class {xs = others} fits) =
    let count : ℕ = length (get_or t.classes k no_class).fields in
    record { slot = AClass; others = others; after = ones count others; splits = refl; row = x_class_number (pos k) element is; fits = counted_fit (values_at g n) count b.values_are fits }
by_row xs (r_class_name class element is) (f_name {xs = others} fits) = record { slot = AName; others = others; after = ACount class.name ∷ others; splits = refl; row = x_class_name class.name element is; fits = f_count fits }
by_row {l} {g} {t} xs (r_field_count class element is) (f_count {xs = others} fits) =
    let none : Class = record { name = class.name; fields = [] } in
    let so_far : SoFar class none class.fields = record { name = refl; joined = refl } in
    record { slot = ACount class.name; others = others; after = fields_left none (length class.fields) others; splits = refl; row = subst (λ u. LooseRow l t (ACount class.name) element others (fields_left none (length class.fields) others) u) (tables_same class none class.fields t so_far) (x_field_count class.name (pos (length class.fields)) element is); fits = fields_fit class none class.fields so_far fits }
by_row {l} {g} {t} xs (r_field_name class f fields element is) (f_field {xs = others} known so_far fits) =
    let more : Class = and_field known f in
    let onward : SoFar class more fields = one_field_on class known f fields so_far in
    record { slot = AField known (suc (length fields)); others = others; after = fields_left more (length fields) others; splits = refl; row = subst (λ u. LooseRow l t (AField known (suc (length fields))) element others (fields_left more (length fields) others) u) (tables_same class more fields t onward) (x_field_name known (length fields) f element is); fits = fields_fit class more fields onward fits }

pub loosened : {l : Leaves} {g : Shape} {t u : Tables} {ss : List Symbol} {bytes : List ℕ} (xs : List Slot) → Line l g t ss u bytes → Fits g ss xs → Leads l t xs bytes u []
loosened xs done f_nothing = here
loosened {l} {g} {t} {u} {ss} {bytes} xs (next element rest bytes' row is line) fits =
    let s = by_row xs row fits in
    subst (λ x. Leads l t x bytes u []) (sym s.splits) (on element rest bytes s.row is (loosened s.after line s.fits))

-- bytes that denote a graph are a loose spelling of its roots
pub is_loose : (l : Leaves) (bound : ℕ) (bytes : List ℕ) (g : Shape) → Denotes l bound bytes g → LooselySpells l bound (length g.roots) bytes
is_loose l bound bytes g d =
    let line : Line l g no_tables (values_then g.roots []) d.spelled.last bytes = line_of d.spelled.roots in
    record { last = d.spelled.last; leads = loosened (ones (length g.roots) []) line (values_fit g.roots f_nothing); limit = subst (λ n. n ≤ bound) (sym d.spelled.all_begun) d.limit }
