-- Where an element is refused, no loose spelling goes on; but for an int, which only its place refuses.
use Rattle.std.proofs.Common.{◌≡◌, ◌≢◌, ℕ, zero, suc, ◌+◌, ◌-◌, ◌≤◌, List, [], ◌∷◌, ◌++◌, refl, ap, sym, ◌∙◌, subst, arith, append_assoc, ◌⊎◌, inl, inr}
use Rattle.std.specs.Prelude.{Some, pos}
use Rattle.std.proofs.lemmas.List.{append-nil}
use Rattle.hessian_graph.specs.declared.node.Class.{Class}
use Rattle.hessian_graph.specs.Reading.{Tables, no_tables, add_type}
use Rattle.hessian_graph.specs.Loose.{LooseForm, Open, Long, Short, Pairs, Slot, OneValue, Items, Entries, AReference, AType as TypeSlot, ALength, AClass as ClassSlot, AName as NameSlot, ACount, AField, or_zero, field_number, ones, fields_left, class_so_far, and_field, behind_type, begun_by, ValueRow, LooseRow, BeginsLoosely}
use Rattle.hessian_graph.specs.Loose.{Leads as LooseLeads}
use Rattle.hessian_graph.specs.Loose.Leads.{here as l_here, on as l_on}
use Rattle.hessian_graph.specs.Loose.ValueRow.{scalar as v_scalar, text as v_text, binary as v_binary, refer as v_refer, define as v_define, open_list as v_open_list, long_list as v_long_list, short_list as v_short_list, typed as v_typed, open_map as v_open_map, long_object as v_long_object, short_object as v_short_object}
use Rattle.hessian_graph.specs.Loose.LooseRow.{value as x_value, item as x_item, key as x_key, no_item as x_no_item, no_entry as x_no_entry, reference as x_reference, type_name as x_type_name, type_number as x_type_number, list_length as x_list_length, class_number as x_class_number, class_name as x_class_name, field_count as x_field_count, field_name as x_field_name}
use Rattle.hessian_text.specs.Spelling.{AreBytes}
use Rattle.hessian_reader.specs.declared.element.Element.{Element}
use Rattle.hessian_reader.specs.Leaves.{hessian, node_limit}
use Rattle.hessian_reader.specs.Elements.{IsElement, HasNoElement}
use Rattle.hessian_reader.proofs.Elements.{one_element}
use Rattle.hessian_reader.proofs.OneWay.{Fronts, fronts, bytes_rest}
use Rattle.hessian_reader.proofs.OneWay.Fronts.{first_shorter, second_shorter}
use Rattle.hessian_reader.proofs.LooseOnce.{want_of, Left, element_left, row_element, FirstRow, first_row, once}
use Rattle.hessian_reader.proofs.LeafBytes.{no_bytes, element_bytes}

-- ---- the nodes that a loose spelling is bound to begin

-- how many of these slots stand in the header of a node
abbrev pub headers : List Slot → ℕ
headers [] = 0
headers (OneValue ∷ ss) = headers ss
headers (Items ∷ ss) = headers ss
headers (Entries ∷ ss) = headers ss
headers (AReference ∷ ss) = headers ss
headers (TypeSlot form ∷ ss) = suc (headers ss)
headers (ALength ∷ ss) = suc (headers ss)
headers (ClassSlot ∷ ss) = suc (headers ss)
headers (NameSlot ∷ ss) = headers ss
headers (ACount name ∷ ss) = headers ss
headers (AField class k ∷ ss) = headers ss

headers_ones : (k : ℕ) (ss : List Slot) → headers (ones k ss) ≡ headers ss
headers_ones zero ss = refl
headers_ones (suc k) ss = headers_ones k ss

abbrev pub bound_to_begin : Tables → List Slot → ℕ
bound_to_begin t ss = t.begun + headers ss

behind_bound : (form : LooseForm) (t : Tables) (ss : List Slot) → t.begun + suc (headers ss) ≤ bound_to_begin (begun_by form t) (behind_type form ss)
behind_bound Open t ss = omega arith
behind_bound Long t ss = omega arith
behind_bound (Short k) t ss = omega (arith, headers_ones k ss)
behind_bound Pairs t ss = omega arith

value_grows : {t u : Tables} {e : List ℕ} {ss after : List Slot} → ValueRow hessian t e ss after u → bound_to_begin t ss ≤ bound_to_begin u after
value_grows (v_scalar v element is l) = omega arith
value_grows (v_text text element l) = omega arith
value_grows (v_binary contents element l) = omega arith
value_grows v_refer = omega arith
value_grows v_define = omega arith
value_grows v_open_list = omega arith
value_grows v_long_list = omega arith
value_grows {ss = ss} (v_short_list code i) = omega (arith, headers_ones (code - 0x78) ss)
value_grows (v_typed form code is) = omega arith
value_grows v_open_map = omega arith
value_grows v_long_object = omega arith
value_grows {t = t} {ss = ss} (v_short_object code i low) = omega (arith, headers_ones (field_number t (pos (code - 0x60))) ss)

fields_bound : (ss : List Slot) (class : Class) (k : ℕ) (t : Tables) → bound_to_begin t ss ≤ bound_to_begin (class_so_far class k t) (fields_left class k ss)
fields_bound ss class zero t = omega arith
fields_bound ss class (suc k) t = omega arith

row_grows : {t u : Tables} {slot : Slot} {e : List ℕ} {ss after : List Slot} → LooseRow hessian t slot e ss after u → bound_to_begin t (slot ∷ ss) ≤ bound_to_begin u after
row_grows (x_value r) = value_grows r
row_grows (x_item r) = value_grows r
row_grows (x_key r) = value_grows r
row_grows x_no_item = omega arith
row_grows x_no_entry = omega arith
row_grows (x_reference z element is) = omega arith
row_grows {t = t} {ss = ss} (x_type_name form type' element is) = behind_bound form (add_type type' t) ss
row_grows {t = t} {ss = ss} (x_type_number form z element is) = behind_bound form t ss
row_grows {ss = ss} (x_list_length z element is) = omega (arith, headers_ones (or_zero z) ss)
row_grows {t = t} {ss = ss} (x_class_number z element is) = omega (arith, headers_ones (field_number t z) ss)
row_grows (x_class_name name element is) = omega arith
row_grows {t = t} {ss = ss} (x_field_count name z element is) = fields_bound ss (record { name = name; fields = [] }) (or_zero z) t
row_grows {t = t} {ss = ss} (x_field_name class k field element is) = fields_bound ss (and_field class field) k t

pub leads_grow : {t u : Tables} {ss xs : List Slot} {bytes : List ℕ} → LooseLeads hessian t ss bytes u xs → bound_to_begin t ss ≤ bound_to_begin u xs
leads_grow l_here = omega arith
leads_grow (l_on element rest bytes row joined leads) = let a = row_grows row in let b = leads_grow leads in omega (arith, a, b)

-- ---- no loose spelling goes on

-- no element that the slot takes, and that leaves room for the nodes to come, stands at the front of the bytes
abbrev pub IsShut : Tables → Slot → List Slot → List ℕ → Type 0
IsShut t slot others tail = (more element rest : List ℕ) (x : Element) (left : Left) → tail ++ more ≡ element ++ rest → IsElement (want_of slot) element x → element_left t slot others x ≡ Some left → bound_to_begin left.tables left.slots ≤ node_limit → ⊥

pub no_spelling : (roots : ℕ) (before tail : List ℕ) (t : Tables) (slot : Slot) (others : List Slot) → AreBytes before → tail ≢ [] → LooseLeads hessian no_tables (ones roots []) before t (slot ∷ others) → IsShut t slot others tail → BeginsLoosely hessian node_limit roots (before ++ tail) → ⊥
no_spelling roots before tail t slot others small some leads shut b = by_first (first_row slot others (once (tail ++ b.more) small (append_assoc before tail b.more) leads b.spelled.leads) refl)
  where
    nothing : (xs ys : List ℕ) → xs ++ ys ≡ [] → xs ≡ []
    nothing [] ys e = refl
    nothing (x ∷ xs) ys e = cc

    by_first : (tail ++ b.more ≡ []) ⊎ FirstRow t slot others (tail ++ b.more) b.spelled.last [] → ⊥
    by_first (inl none) = some (nothing tail b.more none)
    by_first (inr f) =
        let r = row_element f.row in
        let grows = leads_grow f.leads in
        let limit : b.spelled.last.begun ≤ node_limit = b.spelled.limit in
        shut b.more f.element f.rest r.element (record { slots = f.after; tables = f.tables }) f.joined r.is r.left (omega (arith, grows, limit))

-- no element at all
pub shut_by_none : (t : Tables) (slot : Slot) (others : List Slot) (tail : List ℕ) → HasNoElement (want_of slot) tail → IsShut t slot others tail
shut_by_none t slot others tail none more element rest x left e is l low = by_fronts (fronts tail more element rest e)
  where
    by_fronts : Fronts tail more element rest → ⊥
    by_fronts (first_shorter k a b) = none k element [] x (bytes_rest tail k (subst AreBytes a (element_bytes (want_of slot) element x is))) (sym a ∙ sym (append-nil element)) is
    by_fronts (second_shorter k a b) = none [] element k x no_bytes (append-nil tail ∙ a) is

-- a whole element that the slot doesn't take, or that leaves no room
pub shut_by_element : (t : Tables) (slot : Slot) (others : List Slot) (tail : List ℕ) (x : Element) → IsElement (want_of slot) tail x → ((left : Left) → element_left t slot others x ≡ Some left → bound_to_begin left.tables left.slots ≤ node_limit → ⊥) → IsShut t slot others tail
shut_by_element t slot others tail x whole refused more element rest y left e is l low = by_fronts (fronts tail more element rest e)
  where
    same : y ≡ x → ⊥
    same p = refused left (ap (element_left t slot others) (sym p) ∙ l) low

    by_fronts : Fronts tail more element rest → ⊥
    by_fronts (first_shorter k a b) = same (one_element (want_of slot) tail k x y (element_bytes (want_of slot) tail x whole) whole (subst (λ q. IsElement (want_of slot) q y) a is)).1
    by_fronts (second_shorter k a b) = same (sym (one_element (want_of slot) element k y x (element_bytes (want_of slot) element y is) is (subst (λ q. IsElement (want_of slot) q x) a whole)).1)
