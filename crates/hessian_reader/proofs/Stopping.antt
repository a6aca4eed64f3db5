-- Where an element is refused, the bytes up to there are the shortest that stop.
use Rattle.std.proofs.Common.{◌≡◌, ◌≢◌, ℕ, zero, suc, ◌≤◌, false, List, [], ◌∷◌, ◌++◌, length, refl, ap, sym, ◌∙◌, subst, arith, append_assoc, ◌⊎◌, inl, inr}
use Rattle.std.specs.Prelude.{Err, ℤ}
use Rattle.std.proofs.lemmas.List.{append-nil}
use Rattle.hessian_graph.specs.declared.value.Value.TheVariants as values
use Rattle.hessian_graph.specs.Shape.{Text}
use Rattle.hessian_graph.specs.Reading.{Tables, no_tables, one_more, add_type}
use Rattle.hessian_graph.specs.Loose.{Slot, OneValue, AReference, AType as TypeSlot, ALength, AClass as ClassSlot, AName as NameSlot, ACount, AField, or_zero, field_number, ones, and_field, LooseRow, BeginsLoosely}
use Rattle.hessian_graph.specs.Loose.{Leads as LooseLeads}
use Rattle.hessian_graph.specs.Loose.Leads.{here as l_here, on as l_on}
use Rattle.hessian_graph.specs.Loose.ValueRow.{scalar as v_scalar, text as v_text, binary as v_binary}
use Rattle.hessian_graph.specs.Loose.LooseRow.{reference as x_reference, type_name as x_type_name, type_number as x_type_number, list_length as x_list_length, class_number as x_class_number, class_name as x_class_name, field_count as x_field_count, field_name as x_field_name}
use Rattle.hessian_graph.specs.Refusal.{Cause, RefusedInt, EndsInRefusedInt, Stops, Stopped}
use Rattle.hessian_graph.specs.Refusal.RefusedInt.{bad_length, bad_count, bad_reference, bad_type, bad_class}
use Rattle.hessian_text.specs.Spelling.{AreBytes, TextSpelling}
use Rattle.hessian_reader.specs.declared.element.Element.{Element}
use Rattle.hessian_reader.specs.declared.element.Element.TheVariants as elements
use Rattle.hessian_reader.specs.declared.element.Want.{Want}
use Rattle.hessian_reader.specs.declared.stop.Objection.{Objection}
use Rattle.hessian_reader.specs.Leaves.{hessian, scalar_bytes, node_limit}
use Rattle.hessian_reader.specs.Elements.{TakesInt, TakesText, IsElement}
use Rattle.hessian_reader.specs.Elements.TakesInt.{int as t_int, type as t_int_type}
use Rattle.hessian_reader.specs.Elements.IsElement.{scalar as e_scalar, text as e_text, binary as e_binary, code as e_code, number as e_number, words as e_words}
use Rattle.hessian_reader.specs.States.{State, Place, AtValue, AtDefined, AtReference, AtType, AtLength, AtClass, AtName, AtCount, AtField as FieldPlace, start, want_at, lacks_none, is_done}
use Rattle.hessian_reader.specs.Steps.{take_element, Leads}
use Rattle.hessian_reader.specs.Steps.Leads.{here, on}
use Rattle.hessian_reader.proofs.Slots.{open_slots, left_slots, loose_form, slots_at, slots_of, tables_of}
use Rattle.hessian_reader.specs.Faults.{faults, cause_of}
use Rattle.hessian_reader.proofs.Sound.{PlaceFits, Sound}
use Rattle.hessian_reader.proofs.Keeping.{sound_start, sound_leads}
use Rattle.hessian_reader.proofs.Outcomes.{some_lacking}
use Rattle.hessian_reader.proofs.Elements.{element_some, one_element}
use Rattle.hessian_reader.proofs.OneWay.{Fronts, fronts}
use Rattle.hessian_reader.proofs.OneWay.Fronts.{first_shorter, second_shorter}
use Rattle.hessian_reader.proofs.LexChunks.{small_more}
use Rattle.hessian_reader.proofs.LeafBytes.{no_bytes, element_bytes}
use Rattle.hessian_reader.proofs.SlotSteps.{value_slot}
use Rattle.hessian_reader.proofs.Live.{ArePlain, live, leads_more, Closed, ones_plain, left_plain, close_plain, close_behind, close_fields, close_count, live_whole}
use Rattle.hessian_reader.proofs.LooseOnce.{want_of, row_element, same_front, once}
use Rattle.hessian_reader.proofs.Dead.{no_spelling, shut_by_element}
use Rattle.hessian_reader.proofs.Objected.{open_waits, any_wanted, any_place, IsRefusedInt, LeavesNone, IsObjected, objected}
use Rattle.hessian_reader.proofs.Sync.{Reached, sync, taken_not_refused}

-- ---- a leaf that has begun

-- behind a whole leaf all slots can be filled
record Onward (s : State) (e : List ℕ) : Type 0 where
  rest : List ℕ
  last : Tables
  leads : LooseLeads hessian (tables_of s) (slots_of s) (e ++ rest) last []
  limit : last.begun ≤ node_limit

onward : (s : State) (e : List ℕ) (slot : Slot) (others after : List Slot) (u : Tables) → slots_of s ≡ slot ∷ others → LooseRow hessian (tables_of s) slot e others after u → Closed u after → Onward s e
onward s e slot others after u splits row c = record { rest = c.more; last = c.last; leads = subst (λ ss. LooseLeads hessian (tables_of s) ss (e ++ c.more) c.last []) (sym splits) (l_on e c.more (e ++ c.more) row refl c.leads); limit = c.limit }

module _ (s : State) (sound : Sound s) (some : lacks_none s.built.open_nodes s.built.wanted ≡ false) where
  abbrev left : List Slot
  left = left_slots s.built.open_nodes s.built.wanted

  plain : ArePlain (left_slots s.built.open_nodes s.built.wanted)
  plain = left_plain s.built.open_nodes s.built.wanted

  there : (p : Place) (slot : Slot) (others : List Slot) → s.place ≡ p → slots_at p (open_slots s.built.open_nodes s.built.wanted) left ≡ slot ∷ others → slots_of s ≡ slot ∷ others
  there p slot others e f = ap (λ q. slots_at q (open_slots s.built.open_nodes s.built.wanted) left) e ∙ f

  fits : (p : Place) → s.place ≡ p → PlaceFits s p
  fits p e = subst (PlaceFits s) e sound.place

  number_on : (p : Place) (z : ℤ) (e : List ℕ) → s.place ≡ p → TakesInt (want_at p) → scalar_bytes (values.Int z) e → Onward s e
  number_on AtValue z e p t is = elim t [ ]
  number_on AtDefined z e p t is = elim t [ ]
  number_on AtName z e p t is = elim t [ ]
  number_on (FieldPlace class k) z e p t is = elim t [ ]
  number_on AtReference z e p t is = onward s e AReference left left (tables_of s) (there AtReference AReference left p refl) (x_reference z e is) (close_plain (tables_of s) left sound.limit plain)
  number_on (AtType form) z e p t is = onward s e (TypeSlot (loose_form form)) left _ _ (there (AtType form) (TypeSlot (loose_form form)) left p refl) (x_type_number (loose_form form) z e is) (close_behind left plain (loose_form form) (tables_of s) (fits (AtType form) p).1)
  number_on (AtLength k) z e p t is = onward s e ALength left (ones (or_zero z) left) (one_more (tables_of s)) (there (AtLength k) ALength left p refl) (x_list_length z e is) (close_plain (one_more (tables_of s)) (ones (or_zero z) left) (fits (AtLength k) p).1 (ones_plain (or_zero z) left plain))
  number_on AtClass z e p t is = onward s e ClassSlot left (ones (field_number (tables_of s) z) left) (one_more (tables_of s)) (there AtClass ClassSlot left p refl) (x_class_number z e is) (close_plain (one_more (tables_of s)) (ones (field_number (tables_of s) z) left) (fits AtClass p).1 (ones_plain (field_number (tables_of s) z) left plain))
  number_on (AtCount name) z e p t is = onward s e (ACount name) (OneValue ∷ left) _ _ (there (AtCount name) (ACount name) (OneValue ∷ left) p refl) (x_field_count name z e is) (close_fields left plain (record { name = name; fields = [] }) (or_zero z) (tables_of s) sound.limit)

  words_on : (p : Place) (text : Text) (e : List ℕ) → s.place ≡ p → TakesText (want_at p) → TextSpelling text e → Onward s e
  words_on AtValue text e p t is = elim t [ ]
  words_on AtDefined text e p t is = elim t [ ]
  words_on AtReference text e p t is = elim t [ ]
  words_on (AtLength k) text e p t is = elim t [ ]
  words_on AtClass text e p t is = elim t [ ]
  words_on (AtCount name) text e p t is = elim t [ ]
  words_on (AtType form) text e p t is = onward s e (TypeSlot (loose_form form)) left _ _ (there (AtType form) (TypeSlot (loose_form form)) left p refl) (x_type_name (loose_form form) text e is) (close_behind left plain (loose_form form) (add_type text (tables_of s)) (fits (AtType form) p).1)
  words_on AtName text e p t is = onward s e NameSlot (OneValue ∷ left) _ _ (there AtName NameSlot (OneValue ∷ left) p refl) (x_class_name text e is) (close_count left plain text (tables_of s) sound.limit)
  words_on (FieldPlace class zero) text e p t is = absurd (let f = fits (FieldPlace class zero) p in omega (arith, f.1))
  words_on (FieldPlace class (suc k)) text e p t is = onward s e (AField class (suc k)) (OneValue ∷ left) _ _ (there (FieldPlace class (suc k)) (AField class (suc k)) (OneValue ∷ left) p refl) (x_field_name class k text e is) (close_fields left plain (and_field class text) k (tables_of s) sound.limit)

  one_byte : (c : ℕ) (f k : List ℕ) → c ∷ [] ≡ f ++ k → f ≢ [] → k ≢ [] → ⊥
  one_byte c [] k e some more = some refl
  one_byte c (b ∷ []) k e some more = more (cc)
  one_byte c (b ∷ d ∷ f) k e some more = cc

  leaf_on : (w : Want) (x : Element) (e f k : List ℕ) → w ≡ want_at s.place → e ≡ f ++ k → f ≢ [] → k ≢ [] → IsElement w e x → Onward s e
  leaf_on w x e f k p parts some' more (e_scalar v bytes is spelled) = let q = value_slot s sound some (any_place s.place p) in onward s e q.slot q.others left (tables_of s) q.splits (q.row (v_scalar v e is spelled)) (close_plain (tables_of s) left sound.limit plain)
  leaf_on w x e f k p parts some' more (e_text text bytes spelled) = let q = value_slot s sound some (any_place s.place p) in onward s e q.slot q.others left (tables_of s) q.splits (q.row (v_text text e spelled)) (close_plain (tables_of s) left sound.limit plain)
  leaf_on w x e f k p parts some' more (e_binary contents bytes spelled) = let q = value_slot s sound some (any_place s.place p) in onward s e q.slot q.others left (tables_of s) q.splits (q.row (v_binary contents e spelled)) (close_plain (tables_of s) left sound.limit plain)
  leaf_on w x e f k p parts some' more (e_code h c is) = absurd (one_byte c f k parts some' more)
  leaf_on w x e f k p parts some' more (e_number w' z bytes t is) = number_on s.place z e refl (subst TakesInt p t) is
  leaf_on w x e f k p parts some' more (e_words w' text bytes t is) = words_on s.place text e refl (subst TakesText p t) is

-- ---- fronts that go on

pub begins_front : (roots : ℕ) (a m : List ℕ) → BeginsLoosely hessian node_limit roots (a ++ m) → BeginsLoosely hessian node_limit roots a
begins_front roots a m b = record { more = m ++ b.more; spelled = record { last = b.spelled.last; leads = subst (λ x. LooseLeads hessian no_tables (ones roots []) x b.spelled.last []) (append_assoc a m b.more) b.spelled.leads; limit = b.spelled.limit } }

-- whole elements that are taken, and the beginning of one
pub leaf_goes_on : (roots : ℕ) (before f k : List ℕ) (s : State) (x : Element) → Leads (start roots) before s → is_done s ≡ false → IsElement (want_at s.place) (f ++ k) x → f ≢ [] → k ≢ [] → BeginsLoosely hessian node_limit roots (before ++ f)
leaf_goes_on roots before f k s x leads d is some more =
    let sound = sound_leads (sound_start roots) leads in
    let o = leaf_on s sound (some_lacking s sound d) (want_at s.place) x (f ++ k) f k refl refl some more is in
    begins_front roots (before ++ f) k (record {
      more = o.rest;
      spelled = record {
        last = o.last;
        leads = subst (λ y. LooseLeads hessian no_tables (ones roots []) y o.last []) (sym (ap (λ y. y ++ o.rest) (append_assoc before f k) ∙ append_assoc before (f ++ k) o.rest)) (leads_more (live (sound_start roots) leads) o.leads);
        limit = o.limit;
      };
    })

nothing_or_some : (xs : List ℕ) → (xs ≡ []) ⊎ (xs ≢ [])
nothing_or_some [] = inl refl
nothing_or_some (x ∷ xs) = inr (λ e. cc)

pub front_goes_on : (roots : ℕ) (before element front more : List ℕ) (s : State) (x : Element) → Leads (start roots) before s → is_done s ≡ false → IsElement (want_at s.place) element x → more ≢ [] → Fronts before element front more → BeginsLoosely hessian node_limit roots front
front_goes_on roots before element front more s x leads d is some (second_shorter m a b) = begins_front roots front m (subst (BeginsLoosely hessian node_limit roots) a (live_whole roots before s leads))
front_goes_on roots before element front more s x leads d is some (first_shorter m a b) = elim (nothing_or_some m) [
  | inl none ↦ subst (BeginsLoosely hessian node_limit roots) (sym (a ∙ ap (λ y. before ++ y) none ∙ append-nil before)) (live_whole roots before s leads)
  | inr begun ↦ subst (BeginsLoosely hessian node_limit roots) (sym a) (leaf_goes_on roots before m more s x leads d (subst (λ y. IsElement (want_at s.place) y x) b is) begun some)
]

-- ---- no front ends in a refused int

pub leads_bytes : {s u : State} {bytes : List ℕ} → Leads s bytes u → AreBytes bytes
leads_bytes here = no_bytes
leads_bytes {s = s} (on x element rest bytes d is took joined leads) = subst AreBytes (sym joined) (small_more element rest (element_bytes (want_at s.place) element x is) (leads_bytes leads))

-- no whole element is a shorter front of these bytes
abbrev pub IsFirst : Want → List ℕ → Type 0
IsFirst w element = (f k : List ℕ) (x : Element) → element ≡ f ++ k → k ≢ [] → IsElement w f x → ⊥

slot_same : (a b : Slot) (xs ys : List Slot) → a ∷ xs ≡ b ∷ ys → a ≡ b
slot_same a b xs ys e = cc

pub slot_wants : (s : State) (slot : Slot) (others : List Slot) → Sound s → lacks_none s.built.open_nodes s.built.wanted ≡ false → slots_of s ≡ slot ∷ others → want_of slot ≡ want_at s.place
slot_wants s slot others sound some e = by_place s.place refl
  where
    left' : List Slot
    left' = left_slots s.built.open_nodes s.built.wanted

    first : (p : Place) (a : Slot) (rest : List Slot) → s.place ≡ p → slots_at p (open_slots s.built.open_nodes s.built.wanted) (left_slots s.built.open_nodes s.built.wanted) ≡ a ∷ rest → slot ≡ a
    first p a rest place f = slot_same slot a others rest (sym e ∙ ap (λ q. slots_at q (open_slots s.built.open_nodes s.built.wanted) (left_slots s.built.open_nodes s.built.wanted)) place ∙ f)

    by_place : (p : Place) → s.place ≡ p → want_of slot ≡ want_at p
    by_place AtValue p = let v = open_waits (length s.built.nodes) s.built.open_nodes s.built.wanted sound.open_fit some in ap want_of (first AtValue v.slot v.others p v.splits) ∙ any_wanted v.slot v.wants
    by_place AtDefined p = ap want_of (first AtDefined OneValue _ p refl)
    by_place AtReference p = ap want_of (first AtReference AReference _ p refl)
    by_place (AtType form) p = ap want_of (first (AtType form) (TypeSlot (loose_form form)) _ p refl)
    by_place (AtLength k) p = ap want_of (first (AtLength k) ALength _ p refl)
    by_place AtClass p = ap want_of (first AtClass ClassSlot _ p refl)
    by_place AtName p = ap want_of (first AtName NameSlot _ p refl)
    by_place (AtCount name) p = ap want_of (first (AtCount name) (ACount name) _ p refl)
    by_place (FieldPlace class k) p = ap want_of (first (FieldPlace class k) (AField class k) _ p refl)

pub int_slot : {t : Tables} {at : ℕ} {z : ℤ} {slot : Slot} {c : Cause} → RefusedInt t at z slot c → TakesInt (want_of slot)
int_slot (bad_length n) = t_int
int_slot (bad_count name n) = t_int
int_slot (bad_reference n) = t_int
int_slot (bad_type form n) = t_int_type
int_slot (bad_class n) = t_int

pub right_some : (xs ys : List ℕ) → ys ≢ [] → xs ++ ys ≢ []
right_some [] ys some e = some e
right_some (x ∷ xs) ys some e = cc

-- the int stands behind bytes that were taken
on_path : {s s' : State} {m : List ℕ} (e k element : List ℕ) (z : ℤ) (slot : Slot) (slots : List Slot) (at : ℕ) (c : Cause) → Leads s' m s → Sound s' → is_done s ≡ false → IsFirst (want_at s.place) element → slots_of s' ≡ slot ∷ slots → scalar_bytes (values.Int z) e → RefusedInt (tables_of s') at z slot c → e ++ k ≡ m ++ element → k ≢ [] → ⊥
on_path {s = s} e k element z slot slots at c here sound d first splits is refused joined some = first e k (elements.Number z) (sym joined) some (subst (λ w. IsElement w e (elements.Number z)) (slot_wants s slot slots sound (some_lacking s sound d) splits) (e_number (want_of slot) z e (int_slot refused) is))
on_path {s' = s'} e k element z slot slots at c (on {t = t} x el rest m d' is' took joined' leads) sound d first splits is refused joined some =
    let w = slot_wants s' slot slots sound (some_lacking s' sound d') splits in
    let number : IsElement (want_at s'.place) e (elements.Number z) = subst (λ q. IsElement q e (elements.Number z)) w (e_number (want_of slot) z e (int_slot refused) is) in
    let same = same_front (want_at s'.place) e k el (rest ++ element) (elements.Number z) x (element_bytes (want_at s'.place) e (elements.Number z) number) (joined ∙ ap (λ y. y ++ element) joined' ∙ append_assoc el rest element) number is' in
    taken_not_refused s' t z at slot slots c splits (ap (take_element s') same.element ∙ took) refused

-- the int would stand inside the element
inside_element : {t0 t : Tables} {ss0 ss : List Slot} {k' : List ℕ} (s : State) (slot : Slot) (slots : List Slot) (e k element : List ℕ) (z : ℤ) → LooseLeads hessian t0 ss0 k' t ss → ss0 ≡ slots_of s → ss ≡ slot ∷ slots → Sound s → is_done s ≡ false → IsFirst (want_at s.place) element → TakesInt (want_of slot) → scalar_bytes (values.Int z) e → element ≡ k' ++ (e ++ k) → k ≢ [] → ⊥
inside_element s slot slots e k element z l_here se sl sound d first takes is joined some = first e k (elements.Number z) joined some (subst (λ w. IsElement w e (elements.Number z)) (slot_wants s slot slots sound (some_lacking s sound d) (sym se ∙ sl)) (e_number (want_of slot) z e takes is))
inside_element s slot slots e k element z (l_on {s = a} {ss = others} f rest k' row joined' leads) se sl sound d first takes is joined some =
    let q = row_element row in
    first f (rest ++ (e ++ k)) q.element (joined ∙ ap (λ y. y ++ (e ++ k)) joined' ∙ append_assoc f rest (e ++ k)) (right_some rest (e ++ k) (right_some e k some)) (subst (λ w. IsElement w f q.element) (slot_wants s a others sound (some_lacking s sound d) (sym se)) q.is)

pub no_early : (roots : ℕ) (before element front k : List ℕ) (s : State) → Leads (start roots) before s → is_done s ≡ false → IsFirst (want_at s.place) element → before ++ element ≡ front ++ k → k ≢ [] → EndsInRefusedInt hessian roots front → ⊥
no_early roots before element front k s leads d first e some ends = by_fronts (fronts before element ends.before (ends.element ++ k) (e ∙ ap (λ x. x ++ k) ends.joined ∙ append_assoc ends.before ends.element k))
  where
    sound : Sound s
    sound = sound_leads (sound_start roots) leads

    reached_by : (m : List ℕ) → ends.element ++ k ≡ m ++ element → Reached (start roots) s ends.before m ends.tables (ends.slot ∷ ends.slots) → ⊥
    reached_by m b r = on_path ends.element k element ends.number ends.slot ends.slots (length ends.before) ends.cause r.behind r.sound d first r.slots ends.is_int (subst (λ t. RefusedInt t (length ends.before) ends.number ends.slot ends.cause) (sym r.tables) ends.refused) b some

    by_fronts : Fronts before element ends.before (ends.element ++ k) → ⊥
    by_fronts (second_shorter m a b) = reached_by m b (sync m ends.reached refl refl a (sound_start roots) leads)
    by_fronts (first_shorter k' a b) = inside_element s ends.slot ends.slots ends.element k element ends.number (once k' (leads_bytes leads) a (live (sound_start roots) leads) ends.reached) refl refl sound d first (int_slot ends.refused) ends.is_int b some

-- ---- an element that a state objects to

pub first_element : (w : Want) (element : List ℕ) (x : Element) → IsElement w element x → IsFirst w element
first_element w element x is f k y joined some at = some (one_element w f k y x (element_bytes w f y at) at (subst (λ q. IsElement w q x) joined is)).0

pub objection_stops : (roots : ℕ) (bytes before element rest : List ℕ) (s : State) (x : Element) (o : Objection) → bytes ≡ (before ++ element) ++ rest → Leads (start roots) before s → is_done s ≡ false → IsElement (want_at s.place) element x → take_element s x ≡ Err o → Stopped hessian faults node_limit roots bytes (cause_of o (length before))
objection_stops roots bytes before element rest s x o joined leads d is refuses = record {
  before = before;
  element = element;
  rest = rest;
  tables = tables_of s;
  slots = q.slot ∷ q.others;
  joined = joined;
  stops = stops_by q.stops;
  shortest = λ front more e some st. shorter front more e some st;
  reached = reached;
  refused = q.refused (length before);
}
  where
    q : IsObjected s element x o
    q = objected s x element o (sound_leads (sound_start roots) leads) d is refuses

    reached : LooseLeads hessian no_tables (ones roots []) before (tables_of s) (q.slot ∷ q.others)
    reached = subst (λ ss. LooseLeads hessian no_tables (ones roots []) before (tables_of s) ss) q.splits (live (sound_start roots) leads)

    there : IsElement (want_of q.slot) element x
    there = subst (λ w. IsElement w element x) (sym q.wants) is

    stops_by : IsRefusedInt s q.slot element o ⊎ LeavesNone s q.slot q.others x → Stops hessian node_limit roots (before ++ element)
    stops_by (inl i) = inr (record { before = before; element = element; tables = tables_of s; slot = q.slot; slots = q.others; number = i.number; cause = cause_of o (length before); joined = refl; reached = reached; is_int = i.spelled; refused = i.refused (length before) })
    stops_by (inr none) = inl (no_spelling roots before element (tables_of s) q.slot q.others (leads_bytes leads) (element_some (want_at s.place) element x is) reached (shut_by_element (tables_of s) q.slot q.others element x there none))

    shorter : (front more : List ℕ) → before ++ element ≡ front ++ more → more ≢ [] → Stops hessian node_limit roots front → ⊥
    shorter front more e some (inl dead) = dead (front_goes_on roots before element front more s x leads d is some (fronts before element front more e))
    shorter front more e some (inr ends) = no_early roots before element front more s leads d (first_element (want_at s.place) element x is) e some ends
