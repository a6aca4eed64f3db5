-- Each element that a state objects to is refused in the words of loose spellings.
use Rattle.std.proofs.Common.{◌≡◌, ℕ, zero, suc, ◌+◌, ◌-◌, ◌<◌, ◌≤◌, Bool, true, false, List, [], ◌∷◌, length, refl, ap, sym, ◌∙◌, subst, arith, ◌⊎◌, inl, inr}
use Rattle.std.specs.Prelude.{nat_lt, if◌then◌else◌, Option, Some, Ok, Err, ℤ, pos, negsuc}
use Rattle.std.proofs.lemmas.Bool.{ltb-true, ltb-false, le-ltb, lt-ltb, cases_lt}
use Rattle.hessian_graph.specs.declared.value.Value.TheVariants as values
use Rattle.hessian_graph.specs.Reading.{Tables, IsCode, one_more}
use Rattle.hessian_graph.specs.Loose.{Slot, OneValue, Items, Entries, AReference, AType as TypeSlot, ALength, AClass as ClassSlot, ACount, ones, field_number}
use Rattle.hessian_graph.specs.Refusal.{BeginsNode, WantsValue, RefusedInt, Refused, IsBelow, IsNegative}
use Rattle.hessian_graph.specs.Refusal.BeginsNode.{map as b_map, typed_map as b_typed_map, long_object as b_long_object, open_typed_list as b_open_typed_list, long_typed_list as b_long_typed_list, open_list as b_open_list, long_list as b_long_list, short_object as b_short_object, short_typed_list as b_short_typed_list, short_list as b_short_list}
use Rattle.hessian_graph.specs.Refusal.WantsValue.{one as w_one, item as w_item, key as w_key}
use Rattle.hessian_graph.specs.Refusal.RefusedInt.{bad_length, bad_count, bad_reference, bad_type, bad_class}
use Rattle.hessian_graph.specs.Refusal.Refused.{no_end as f_no_end, too_many as f_too_many, no_such_class as f_no_such_class, int as f_int}
use Rattle.hessian_reader.specs.declared.element.Form.TheVariants as forms
use Rattle.hessian_reader.specs.declared.element.Head.{Head}
use Rattle.hessian_reader.specs.declared.element.Head.TheVariants as heads
use Rattle.hessian_reader.specs.declared.element.Element.{Element}
use Rattle.hessian_reader.specs.declared.element.Element.TheVariants as elements
use Rattle.hessian_reader.specs.declared.element.Want.{Want}
use Rattle.hessian_reader.specs.declared.element.Want.TheVariants as wants
use Rattle.hessian_reader.specs.declared.table.Sort.TheVariants as sorts
use Rattle.hessian_reader.specs.declared.store.Lacks.{Lacks}
use Rattle.hessian_reader.specs.declared.store.OpenNode.{OpenNode}
use Rattle.hessian_reader.specs.declared.stop.Objection.{Objection}
use Rattle.hessian_reader.specs.declared.stop.Objection.TheVariants.{NoEnd, NoNode, NoType, NoClass, NoLength, TooMany}
use Rattle.hessian_reader.specs.Leaves.{hessian, scalar_bytes, node_limit}
use Rattle.hessian_reader.specs.Elements.{HeadCode, TakesInt, TakesText, IsElement}
use Rattle.hessian_reader.specs.Elements.HeadCode.{refer as h_refer, short_list as h_short_list, open_list as h_open_list, long_list as h_long_list, open_typed_list as h_open_typed_list, long_typed_list as h_long_typed_list, short_typed_list as h_short_typed_list, typed_map as h_typed_map, open_map as h_open_map, define as h_define, short_object as h_short_object, long_object as h_long_object, end as h_end}
use Rattle.hessian_reader.specs.Elements.IsElement.{scalar as e_scalar, text as e_text, binary as e_binary, code as e_code, number as e_number, words as e_words}
use Rattle.hessian_reader.specs.States.{State, Place, AtValue, AtDefined, AtReference, AtType, AtLength, AtClass, AtName, AtCount, AtField as FieldPlace, ToEnd, Count, Key, Mate, begins_node, takes_value, begins_object, awaits_fields, want_at, lacks_none, is_done}
use Rattle.hessian_reader.specs.Steps.{Outcome, if_room, at_value, may_end, end_of, end_step, below, natural, behind_type as goes_behind, class_step, head_step, number_step, words_step, take_element}
use Rattle.hessian_reader.proofs.Slots.{lacking_slots, open_slots, left_slots, loose_form, slots_at, slots_of, tables_of}
use Rattle.hessian_reader.specs.Faults.{faults, cause_of}
use Rattle.hessian_reader.proofs.Lacking.{Positive, AreOpen}
use Rattle.hessian_reader.proofs.Sound.{Sound}
use Rattle.hessian_reader.proofs.Ahead.{TakesValue}
use Rattle.hessian_reader.proofs.Outcomes.{some_lacking}
use Rattle.hessian_reader.proofs.LooseOnce.{want_of, Left, head_left, end_or, element_left}
use Rattle.hessian_reader.proofs.Dead.{headers, bound_to_begin}

-- ---- outcomes that object

err_is : (o p : Objection) → ◌≡◌ {A = Outcome} (Err o) (Err p) → o ≡ p
err_is o p e = cc

refused_by : (b : Bool) (r : Outcome) (p o : Objection) → (if b then r else Err p) ≡ Err o → ((b ≡ true) × (r ≡ Err o)) ⊎ ((b ≡ false) × (o ≡ p))
refused_by true r p o e = inl (refl, e)
refused_by false r p o e = inr (refl, sym (err_is p o e))

-- there was no room, or the outcome itself objects
no_room : (s : State) (r : Outcome) (o : Objection) → if_room s r ≡ Err o → ((length s.built.nodes < node_limit) × (r ≡ Err o)) ⊎ ((node_limit ≤ length s.built.nodes) × (o ≡ TooMany))
no_room s r o e = elim (refused_by (nat_lt (length s.built.nodes) node_limit) r TooMany o e) [
  | inl h ↦ inl (ltb-true (length s.built.nodes) node_limit h.0, h.1)
  | inr h ↦ inr (ltb-false (length s.built.nodes) node_limit h.0, h.1)
]

only_room : (s u : State) (o : Objection) → if_room s (Ok u) ≡ Err o → (node_limit ≤ length s.built.nodes) × (o ≡ TooMany)
only_room s u o e = elim (no_room s (Ok u) o e) [
  | inl h ↦ absurd (let k : ◌≡◌ {A = Outcome} (Ok u) (Err o) = h.1 in cc)
  | inr h ↦ h
]

not_below : (z : ℤ) (count : ℕ) (f : ℕ → State) (p o : Objection) → below z count f p ≡ Err o → (o ≡ p) × (IsBelow z count → ⊥)
not_below (negsuc k) count f p o e = (sym (err_is p o e), λ b. let same : negsuc k ≡ pos b.0 = b.1 in cc)
not_below (pos k) count f p o e = elim (refused_by (nat_lt k count) (Ok (f k)) p o e) [
  | inl h ↦ absurd (let q : ◌≡◌ {A = Outcome} (Ok (f k)) (Err o) = h.1 in cc)
  | inr h ↦ (h.1, λ b. let same : pos k ≡ pos b.0 = b.1 in let j : k ≡ b.0 = cc in let high = ltb-false k count h.0 in let low : b.0 < count = b.2 in omega (arith, j, high, low))
]

not_natural : (z : ℤ) (f : ℕ → State) (p o : Objection) → natural z f p ≡ Err o → (o ≡ p) × IsNegative z
not_natural (pos k) f p o e = absurd (let q : ◌≡◌ {A = Outcome} (Ok (f k)) (Err o) = e in cc)
not_natural (negsuc k) f p o e = (sym (err_is p o e), (k, refl))

headers_of_ones : (k : ℕ) (ss : List Slot) → headers (ones k ss) ≡ headers ss
headers_of_ones zero ss = refl
headers_of_ones (suc k) ss = headers_of_ones k ss

-- ---- what waits for a value

pub record WaitsValue (slots : List Slot) : Type 0 where
  pub slot : Slot
  pub others : List Slot
  pub splits : slots ≡ slot ∷ others
  pub wants : WantsValue slot

lacking_waits : (lacks : Lacks) (ss : List Slot) → Positive lacks → WaitsValue (lacking_slots lacks ss)
lacking_waits ToEnd ss p = record { slot = Items; others = ss; splits = refl; wants = w_item }
lacking_waits (Count zero) ss p = absurd (omega arith)
lacking_waits (Count (suc k)) ss p = record { slot = OneValue; others = ones k ss; splits = refl; wants = w_one }
lacking_waits Key ss p = record { slot = Entries; others = ss; splits = refl; wants = w_key }
lacking_waits Mate ss p = record { slot = OneValue; others = Entries ∷ ss; splits = refl; wants = w_one }

pub open_waits : (n : ℕ) (os : List OpenNode) (wanted : ℕ) → AreOpen n os → lacks_none os wanted ≡ false → WaitsValue (open_slots os wanted)
open_waits n [] zero sane some = absurd cc
open_waits n [] (suc k) sane some = record { slot = OneValue; others = ones k []; splits = refl; wants = w_one }
open_waits n (o ∷ os) wanted sane some = lacking_waits o.lacks (open_slots os wanted) sane.1

pub value_waits : (s : State) → Sound s → lacks_none s.built.open_nodes s.built.wanted ≡ false → TakesValue s.place → WaitsValue (slots_of s)
value_waits s sound some (inl e) = rw e (open_waits (length s.built.nodes) s.built.open_nodes s.built.wanted sound.open_fit some)
value_waits s sound some (inr e) = rw e (record { slot = OneValue; others = left_slots s.built.open_nodes s.built.wanted; splits = refl; wants = w_one })

pub any_wanted : (slot : Slot) → WantsValue slot → want_of slot ≡ wants.AnyValue
any_wanted slot w_one = refl
any_wanted slot w_item = refl
any_wanted slot w_key = refl

-- ---- the refusal

-- an int that its place refuses
pub record IsRefusedInt (s : State) (slot : Slot) (element : List ℕ) (o : Objection) : Type 0 where
  pub number : ℤ
  pub spelled : scalar_bytes (values.Int number) element
  pub refused : (at : ℕ) → RefusedInt (tables_of s) at number slot (cause_of o at)

-- nothing is left behind the element, or too many nodes are to begin
abbrev pub LeavesNone : State → Slot → List Slot → Element → Type 0
LeavesNone s slot others x = (left : Left) → element_left (tables_of s) slot others x ≡ Some left → bound_to_begin left.tables left.slots ≤ node_limit → ⊥

pub record IsObjected (s : State) (element : List ℕ) (x : Element) (o : Objection) : Type 0 where
  pub slot : Slot
  pub others : List Slot
  pub splits : slots_of s ≡ slot ∷ others
  pub wants : want_of slot ≡ want_at s.place
  pub refused : (at : ℕ) → Refused hessian faults node_limit (tables_of s) at (slot ∷ others) element (cause_of o at)
  pub stops : IsRefusedInt s slot element o ⊎ LeavesNone s slot others x

pub any_place : (p : Place) → wants.AnyValue ≡ want_at p → TakesValue p
any_place AtValue e = inl refl
any_place AtDefined e = inr refl
any_place AtReference e = absurd cc
any_place (AtType form) e = absurd cc
any_place (AtLength k) e = absurd cc
any_place AtClass e = absurd cc
any_place AtName e = absurd cc
any_place (AtCount name) e = absurd cc
any_place (FieldPlace class k) e = absurd cc

taken_there : (p : Place) (r : Outcome) → TakesValue p → at_value p r ≡ r
taken_there p r (inl e) = rw e refl
taken_there p r (inr e) = rw e refl

any_of : (p : Place) → TakesValue p → want_at p ≡ wants.AnyValue
any_of p (inl e) = rw e refl
any_of p (inr e) = rw e refl

some_left : (a b : Left) → Some a ≡ Some b → a ≡ b
some_left a b e = cc

-- the node that the head begins is one too many
too_many_by : (t : Tables) (ss : List Slot) (a left : Left) → node_limit ≤ t.begun → suc (t.begun + headers ss) ≤ bound_to_begin a.tables a.slots → Some a ≡ Some left → bound_to_begin left.tables left.slots ≤ node_limit → ⊥
too_many_by t ss a left full grows e low =
    let same : bound_to_begin a.tables a.slots ≡ bound_to_begin left.tables left.slots = ap (λ (l : Left). bound_to_begin l.tables l.slots) (some_left a left e) in
    omega (arith, full, grows, same, low)

module _ (s : State) (sound : Sound s) (some : lacks_none s.built.open_nodes s.built.wanted ≡ false) (o : Objection) where
  -- what a head that begins a node leaves, in each place of a value
  full_left : (h : Head) (a : List Slot → Left) → ((ss : List Slot) → head_left (tables_of s) ss h ≡ Some (a ss)) → ((x y : Option Left) → end_or h x y ≡ y) → ((ss : List Slot) → suc (length s.built.nodes + headers ss) ≤ bound_to_begin (a ss).tables (a ss).slots) → node_limit ≤ length s.built.nodes → (slot : Slot) (others : List Slot) → WantsValue slot → LeavesNone s slot others (elements.Code h)
  full_left h a is not_end grows full slot others w_one left e low = too_many_by (tables_of s) others (a others) left full (grows others) (sym (is others) ∙ e) low
  full_left h a is not_end grows full slot others w_item left e low = too_many_by (tables_of s) (Items ∷ others) (a (Items ∷ others)) left full (grows (Items ∷ others)) (sym (is (Items ∷ others)) ∙ sym (not_end _ _) ∙ e) low
  full_left h a is not_end grows full slot others w_key left e low = too_many_by (tables_of s) (OneValue ∷ Entries ∷ others) (a (OneValue ∷ Entries ∷ others)) left full (grows (OneValue ∷ Entries ∷ others)) (sym (is (OneValue ∷ Entries ∷ others)) ∙ sym (not_end _ _) ∙ e) low

  too_many : (h : Head) (c : ℕ) (a : List Slot → Left) → TakesValue s.place → BeginsNode c → (node_limit ≤ length s.built.nodes) × (o ≡ TooMany) → ((ss : List Slot) → head_left (tables_of s) ss h ≡ Some (a ss)) → ((x y : Option Left) → end_or h x y ≡ y) → ((ss : List Slot) → suc (length s.built.nodes + headers ss) ≤ bound_to_begin (a ss).tables (a ss).slots) → IsObjected s (c ∷ []) (elements.Code h) o
  too_many h c a p begins full is not_end grows =
      let v = value_waits s sound some p in
      record {
        slot = v.slot;
        others = v.others;
        splits = v.splits;
        wants = any_wanted v.slot v.wants ∙ sym (any_of s.place p);
        refused = λ at. subst (λ q. Refused hessian faults node_limit (tables_of s) at (v.slot ∷ v.others) (c ∷ []) (cause_of q at)) (sym full.1) (f_too_many v.slot v.others c v.wants begins full.0);
        stops = inr (full_left h a is not_end grows full.0 v.slot v.others v.wants);
      }

  -- a class that isn't there
  class_left : (k : ℕ) → length s.names.classes ≤ k → (slot : Slot) (others : List Slot) → WantsValue slot → LeavesNone s slot others (elements.Code (heads.ShortObject k))
  class_left k high slot others w_one left e low = let f = le-ltb k (length s.names.classes) high in absurd (cc (rw f at e))
  class_left k high slot others w_item left e low = let f = le-ltb k (length s.names.classes) high in absurd (cc (rw f at e))
  class_left k high slot others w_key left e low = let f = le-ltb k (length s.names.classes) high in absurd (cc (rw f at e))

  -- an int that its place refuses
  int_in : (p : Place) (slot : Slot) (z : ℤ) (element : List ℕ) → s.place ≡ p → slots_at p (open_slots s.built.open_nodes s.built.wanted) (left_slots s.built.open_nodes s.built.wanted) ≡ slot ∷ left_slots s.built.open_nodes s.built.wanted → want_of slot ≡ want_at p → scalar_bytes (values.Int z) element → ((at : ℕ) → RefusedInt (tables_of s) at z slot (cause_of o at)) → IsObjected s element (elements.Number z) o
  int_in p slot z element place splits want is refused = record {
    slot = slot;
    others = left_slots s.built.open_nodes s.built.wanted;
    splits = ap (λ q. slots_at q (open_slots s.built.open_nodes s.built.wanted) (left_slots s.built.open_nodes s.built.wanted)) place ∙ splits;
    wants = want ∙ sym (ap want_at place);
    refused = λ at. f_int slot (left_slots s.built.open_nodes s.built.wanted) z element (cause_of o at) is (refused at);
    stops = inl (record { number = z; spelled = is; refused = refused });
  }

  count_in : (name : List ℕ) (z : ℤ) (element : List ℕ) → s.place ≡ AtCount name → scalar_bytes (values.Int z) element → ((at : ℕ) → RefusedInt (tables_of s) at z (ACount name) (cause_of o at)) → IsObjected s element (elements.Number z) o
  count_in name z element place is refused = record {
    slot = ACount name;
    others = OneValue ∷ left_slots s.built.open_nodes s.built.wanted;
    splits = ap (λ q. slots_at q (open_slots s.built.open_nodes s.built.wanted) (left_slots s.built.open_nodes s.built.wanted)) place;
    wants = sym (ap want_at place);
    refused = λ at. f_int (ACount name) (OneValue ∷ left_slots s.built.open_nodes s.built.wanted) z element (cause_of o at) is (refused at);
    stops = inl (record { number = z; spelled = is; refused = refused });
  }

  -- an object whose node is one too many
  object_left : (k : ℕ) → node_limit ≤ length s.built.nodes → (slot : Slot) (others : List Slot) → WantsValue slot → LeavesNone s slot others (elements.Code (heads.ShortObject k))
  object_left k full slot others w left e low = elim (cases_lt k (length s.names.classes)) [
    | inl known ↦ known_left slot known w e
    | inr high ↦ class_left k high slot others w left e low
  ]
    where
      left_by : (ss : List Slot) → k < length s.names.classes → head_left (tables_of s) ss (heads.ShortObject k) ≡ Some left → ⊥
      left_by ss known e = let f = lt-ltb k (length s.names.classes) known in too_many_by (tables_of s) ss (record { slots = ones (field_number (tables_of s) (pos k)) ss; tables = one_more (tables_of s) }) left full (omega (arith, headers_of_ones (field_number (tables_of s) (pos k)) ss)) (rw f at e) low

      known_left : (slot' : Slot) → k < length s.names.classes → WantsValue slot' → element_left (tables_of s) slot' others (elements.Code (heads.ShortObject k)) ≡ Some left → ⊥
      known_left slot' known w_one e = left_by others known e
      known_left slot' known w_item e = left_by (Items ∷ others) known e
      known_left slot' known w_key e = left_by (OneValue ∷ Entries ∷ others) known e

  too_many_objects : (k c : ℕ) → TakesValue s.place → BeginsNode c → (node_limit ≤ length s.built.nodes) × (o ≡ TooMany) → IsObjected s (c ∷ []) (elements.Code (heads.ShortObject k)) o
  too_many_objects k c p begins full =
      let v = value_waits s sound some p in
      record {
        slot = v.slot;
        others = v.others;
        splits = v.splits;
        wants = any_wanted v.slot v.wants ∙ sym (any_of s.place p);
        refused = λ at. subst (λ q. Refused hessian faults node_limit (tables_of s) at (v.slot ∷ v.others) (c ∷ []) (cause_of q at)) (sym full.1) (f_too_many v.slot v.others c v.wants begins full.0);
        stops = inr (object_left k full.0 v.slot v.others v.wants);
      }

  high_class : (k : ℕ) → (IsBelow (pos k) (length s.names.classes) → ⊥) → length s.names.classes ≤ k
  high_class k none = elim (cases_lt k (length s.names.classes)) [
    | inl low ↦ absurd (none (k, refl, low))
    | inr high ↦ high
  ]

  no_class : (k c : ℕ) → TakesValue s.place → IsCode 0x60 0x6f c → k ≡ c - 0x60 → length s.built.nodes < node_limit → class_step (pos k) s ≡ Err o → IsObjected s (c ∷ []) (elements.Code (heads.ShortObject k)) o
  no_class k c p row same room e =
      let v = value_waits s sound some p in
      let n = not_below (pos k) (length s.names.classes) (λ j. begins_object j s) (NoClass (pos k)) o e in
      let high = high_class k n.1 in
      record {
        slot = v.slot;
        others = v.others;
        splits = v.splits;
        wants = any_wanted v.slot v.wants ∙ sym (any_of s.place p);
        refused = λ at. subst (λ q. Refused hessian faults node_limit (tables_of s) at (v.slot ∷ v.others) (c ∷ []) (cause_of q at)) (ap (λ j. NoClass (pos j)) (sym same) ∙ sym n.0) (f_no_such_class v.slot v.others c v.wants row room (subst (λ j. length s.names.classes ≤ j) same high));
        stops = inr (class_left k high v.slot v.others v.wants);
      }

  -- `Z` where one value is to come
  end_here : (others : List Slot) → TakesValue s.place → slots_of s ≡ OneValue ∷ others → o ≡ NoEnd → IsObjected s (0x5a ∷ []) (elements.Code heads.End) o
  end_here others p splits same = record {
    slot = OneValue;
    others = others;
    splits = splits;
    wants = sym (any_of s.place p);
    refused = λ at. subst (λ q. Refused hessian faults node_limit (tables_of s) at (OneValue ∷ others) (0x5a ∷ []) (cause_of q at)) (sym same) (f_no_end others);
    stops = inr (λ left e low. absurd cc);
  }

  end_objects : (lacks : Lacks) (n : ℕ) (os : List OpenNode) → Positive lacks → s.place ≡ AtValue → s.built.open_nodes ≡ record { node = n; lacks = lacks } ∷ os → end_of lacks os s ≡ Err o → IsObjected s (0x5a ∷ []) (elements.Code heads.End) o
  end_objects ToEnd n os pos' p same e = absurd cc
  end_objects Key n os pos' p same e = absurd cc
  end_objects (Count zero) n os pos' p same e = absurd (omega arith)
  end_objects (Count (suc k)) n os pos' p same e = end_here (ones k (open_slots os s.built.wanted)) (inl p) (rw (p, same) refl) (sym (err_is NoEnd o e))
  end_objects Mate n os pos' p same e = end_here (Entries ∷ open_slots os s.built.wanted) (inl p) (rw (p, same) refl) (sym (err_is NoEnd o e))

  ends_object : (os : List OpenNode) (wanted : ℕ) → s.place ≡ AtValue → s.built.open_nodes ≡ os → s.built.wanted ≡ wanted → AreOpen (length s.built.nodes) os → lacks_none os wanted ≡ false → end_step os s ≡ Err o → IsObjected s (0x5a ∷ []) (elements.Code heads.End) o
  ends_object [] zero p same w sane f e = absurd cc
  ends_object [] (suc k) p same w sane f e = end_here (ones k []) (inl p) (rw (p, same, w) refl) (sym (err_is NoEnd o e))
  ends_object (a ∷ os) wanted p same w sane f e = end_objects a.lacks a.node os sane.1 p same e

  z_objects : TakesValue s.place → may_end s.place (end_step s.built.open_nodes s) ≡ Err o → IsObjected s (0x5a ∷ []) (elements.Code heads.End) o
  z_objects (inl p) e = ends_object s.built.open_nodes s.built.wanted p refl refl sound.open_fit some (sym (ap (λ q. may_end q (end_step s.built.open_nodes s)) p) ∙ e)
  z_objects (inr p) e = end_here (left_slots s.built.open_nodes s.built.wanted) (inr p) (rw p refl) (let k : ◌≡◌ {A = Outcome} (Err NoEnd) (Err o) = sym (ap (λ q. may_end q (end_step s.built.open_nodes s)) p) ∙ e in sym (err_is NoEnd o k))

  head_objects : (h : Head) (c : ℕ) → HeadCode h c → TakesValue s.place → head_step h s ≡ Err o → IsObjected s (c ∷ []) (elements.Code h) o
  head_objects h c h_refer p e = absurd cc
  head_objects h c h_define p e = absurd cc
  head_objects h c h_end p e = z_objects p e
  head_objects h c (h_short_list code k row same) p e = too_many (heads.ShortList k) code (λ ss. record { slots = ones k ss; tables = one_more (tables_of s) }) p (b_short_list code row) (only_room s _ o e) (λ ss. refl) (λ x y. refl) (λ ss. omega (arith, headers_of_ones k ss))
  head_objects h c h_open_list p e = too_many heads.OpenList 0x57 (λ ss. record { slots = Items ∷ ss; tables = one_more (tables_of s) }) p b_open_list (only_room s _ o e) (λ ss. refl) (λ x y. refl) (λ ss. omega arith)
  head_objects h c h_long_list p e = too_many heads.LongList 0x58 (λ ss. record { slots = ALength ∷ ss; tables = tables_of s }) p b_long_list (only_room s _ o e) (λ ss. refl) (λ x y. refl) (λ ss. omega arith)
  head_objects h c h_open_typed_list p e = too_many (heads.Typed forms.Open) 0x55 (λ ss. record { slots = TypeSlot (loose_form forms.Open) ∷ ss; tables = tables_of s }) p b_open_typed_list (only_room s _ o e) (λ ss. refl) (λ x y. refl) (λ ss. omega arith)
  head_objects h c h_long_typed_list p e = too_many (heads.Typed forms.Long) 0x56 (λ ss. record { slots = TypeSlot (loose_form forms.Long) ∷ ss; tables = tables_of s }) p b_long_typed_list (only_room s _ o e) (λ ss. refl) (λ x y. refl) (λ ss. omega arith)
  head_objects h c (h_short_typed_list code k row same) p e = too_many (heads.Typed (forms.Short k)) code (λ ss. record { slots = TypeSlot (loose_form (forms.Short k)) ∷ ss; tables = tables_of s }) p (b_short_typed_list code row) (only_room s _ o e) (λ ss. refl) (λ x y. refl) (λ ss. omega arith)
  head_objects h c h_typed_map p e = too_many (heads.Typed forms.Pairs) 0x4d (λ ss. record { slots = TypeSlot (loose_form forms.Pairs) ∷ ss; tables = tables_of s }) p b_typed_map (only_room s _ o e) (λ ss. refl) (λ x y. refl) (λ ss. omega arith)
  head_objects h c h_open_map p e = too_many heads.OpenMap 0x48 (λ ss. record { slots = Entries ∷ ss; tables = one_more (tables_of s) }) p b_map (only_room s _ o e) (λ ss. refl) (λ x y. refl) (λ ss. omega arith)
  head_objects h c h_long_object p e = too_many heads.LongObject 0x4f (λ ss. record { slots = ClassSlot ∷ ss; tables = tables_of s }) p b_long_object (only_room s _ o e) (λ ss. refl) (λ x y. refl) (λ ss. omega arith)
  head_objects h c (h_short_object code k row same) p e = by_room (no_room s (class_step (pos k) s) o e)
    where
      full_object : (node_limit ≤ length s.built.nodes) × (o ≡ TooMany) → IsObjected s (code ∷ []) (elements.Code (heads.ShortObject k)) o
      full_object full = too_many_objects k code p (b_short_object code row) full

      by_room : ((length s.built.nodes < node_limit) × (class_step (pos k) s ≡ Err o)) ⊎ ((node_limit ≤ length s.built.nodes) × (o ≡ TooMany)) → IsObjected s (code ∷ []) (elements.Code (heads.ShortObject k)) o
      by_room (inl h) = no_class k code p row same h.0 h.1
      by_room (inr h) = full_object h

  number_objects : (p : Place) (z : ℤ) (element : List ℕ) → s.place ≡ p → TakesInt (want_at p) → scalar_bytes (values.Int z) element → number_step p z s ≡ Err o → IsObjected s element (elements.Number z) o
  number_objects AtValue z element p t is e = elim t [ ]
  number_objects AtDefined z element p t is e = elim t [ ]
  number_objects AtName z element p t is e = elim t [ ]
  number_objects (FieldPlace class k) z element p t is e = elim t [ ]
  number_objects AtReference z element p t is e = let n = not_below z (length s.built.nodes) (λ j. takes_value (values.Node j) s) (NoNode z) o e in int_in AtReference AReference z element p refl refl is (λ at. subst (λ q. RefusedInt (tables_of s) at z AReference (cause_of q at)) (sym n.0) (bad_reference n.1))
  number_objects (AtType form) z element p t is e = let n = not_below z (length s.names.types) (λ j. goes_behind form (Some j) s) (NoType z) o e in int_in (AtType form) (TypeSlot (loose_form form)) z element p refl refl is (λ at. subst (λ q. RefusedInt (tables_of s) at z (TypeSlot (loose_form form)) (cause_of q at)) (sym n.0) (bad_type (loose_form form) n.1))
  number_objects (AtLength k) z element p t is e = let n = not_natural z (λ j. begins_node (Count j) (sorts.List k) s) (NoLength z) o e in int_in (AtLength k) ALength z element p refl refl is (λ at. subst (λ q. RefusedInt (tables_of s) at z ALength (cause_of q at)) (sym n.0) (bad_length n.1))
  number_objects AtClass z element p t is e = let n = not_below z (length s.names.classes) (λ j. begins_object j s) (NoClass z) o e in int_in AtClass ClassSlot z element p refl refl is (λ at. subst (λ q. RefusedInt (tables_of s) at z ClassSlot (cause_of q at)) (sym n.0) (bad_class n.1))
  number_objects (AtCount name) z element p t is e = let n = not_natural z (λ j. awaits_fields (record { name = name; fields = [] }) j s) (NoLength z) o e in count_in name z element p is (λ at. subst (λ q. RefusedInt (tables_of s) at z (ACount name) (cause_of q at)) (sym n.0) (bad_count name n.1))

  words_object : (p : Place) (text : List ℕ) → TakesText (want_at p) → words_step p text s ≡ Err o → ⊥
  words_object AtValue text t e = elim t [ ]
  words_object AtDefined text t e = elim t [ ]
  words_object AtReference text t e = elim t [ ]
  words_object (AtLength k) text t e = elim t [ ]
  words_object AtClass text t e = elim t [ ]
  words_object (AtCount name) text t e = elim t [ ]
  words_object (AtType form) text t e = cc
  words_object AtName text t e = cc
  words_object (FieldPlace class k) text t e = cc

  by_element : (w : Want) (x : Element) (element : List ℕ) → w ≡ want_at s.place → IsElement w element x → take_element s x ≡ Err o → IsObjected s element x o
  by_element w x element p (e_scalar v bytes is spelled) e = absurd (let k : ◌≡◌ {A = Outcome} (Ok (takes_value v s)) (Err o) = sym (taken_there s.place (Ok (takes_value v s)) (any_place s.place p)) ∙ e in cc)
  by_element w x element p (e_text text bytes spelled) e = absurd (let k : ◌≡◌ {A = Outcome} (Ok (takes_value (values.Text text) s)) (Err o) = sym (taken_there s.place (Ok (takes_value (values.Text text) s)) (any_place s.place p)) ∙ e in cc)
  by_element w x element p (e_binary contents bytes spelled) e = absurd (let k : ◌≡◌ {A = Outcome} (Ok (takes_value (values.Bytes contents) s)) (Err o) = sym (taken_there s.place (Ok (takes_value (values.Bytes contents) s)) (any_place s.place p)) ∙ e in cc)
  by_element w x element p (e_code h code is) e = let q = any_place s.place p in head_objects h code is q (sym (taken_there s.place (head_step h s) q) ∙ e)
  by_element w x element p (e_number w' z bytes takes spelled) e = number_objects s.place z element refl (subst TakesInt p takes) spelled e
  by_element w x element p (e_words w' text bytes takes spelled) e = absurd (words_object s.place text (subst TakesText p takes) e)

pub objected : (s : State) (x : Element) (element : List ℕ) (o : Objection) → Sound s → is_done s ≡ false → IsElement (want_at s.place) element x → take_element s x ≡ Err o → IsObjected s element x o
objected s x element o sound d is e = by_element s sound (some_lacking s sound d) o (want_at s.place) x element refl is e
