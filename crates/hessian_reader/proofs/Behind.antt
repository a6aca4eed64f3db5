-- A byte behind the last root.
use Rattle.std.proofs.Common.{◌≡◌, ◌≢◌, ℕ, suc, ◌<◌, true, ◌&&◌, List, [], ◌∷◌, ◌++◌, length, get_or, take, drop, refl, ap, sym, ◌∙◌, subst, append_assoc, inl, inr}
use Rattle.std.specs.Prelude.{ℤ}
use Rattle.std.proofs.lemmas.Bool.{eqb-true}
use Rattle.std.proofs.lemmas.List.{append-nil, take-append-drop, length-take-le}
use Rattle.std.proofs.Math.Seq.{drop-cons}
use Rattle.hessian_graph.specs.declared.value.Value.TheVariants as values
use Rattle.hessian_graph.specs.Reading.{Tables, no_tables}
use Rattle.hessian_graph.specs.Loose.{Slot, ones, BeginsLoosely}
use Rattle.hessian_graph.specs.Loose.{Leads as LooseLeads}
use Rattle.hessian_graph.specs.Loose.Leads.{here as l_here, on as l_on}
use Rattle.hessian_graph.specs.Refusal.{Cause, Trailing, RefusedInt, Stops, Stopped}
use Rattle.hessian_graph.specs.Refusal.Refused.{trailing}
use Rattle.hessian_reader.specs.declared.element.Element.TheVariants as elements
use Rattle.hessian_reader.specs.declared.store.OpenNode.{OpenNode}
use Rattle.hessian_reader.specs.declared.fault.HessianFault.TheVariants as told
use Rattle.hessian_reader.specs.Leaves.{hessian, scalar_bytes, node_limit}
use Rattle.hessian_reader.specs.Elements.{IsElement}
use Rattle.hessian_reader.specs.Elements.IsElement.{number as e_number}
use Rattle.hessian_reader.specs.Faults.{faults}
use Rattle.hessian_reader.specs.Course.{EndsAt}
use Rattle.hessian_reader.specs.Refusing.{IsStoppedBy}
use Rattle.hessian_reader.proofs.Slots.{open_slots, left_slots, slots_at, slots_of, tables_of}
use Rattle.hessian_reader.specs.States.{State, Place, AtValue, AtDefined, AtReference, AtType, AtLength, AtClass, AtName, AtCount, AtField, start, want_at, lacks_none, is_at_value, is_done}
use Rattle.hessian_reader.specs.Steps.{take_element, Leads}
use Rattle.hessian_reader.specs.Steps.Leads.{here, on}
use Rattle.hessian_reader.proofs.Sound.{Sound}
use Rattle.hessian_reader.proofs.Keeping.{sound_start}
use Rattle.hessian_reader.proofs.Outcomes.{some_lacking}
use Rattle.hessian_reader.proofs.Elements.{element_some}
use Rattle.hessian_reader.proofs.Running.{reads}
use Rattle.hessian_reader.proofs.OneWay.{Fronts, fronts}
use Rattle.hessian_reader.proofs.OneWay.Fronts.{first_shorter, second_shorter}
use Rattle.hessian_reader.proofs.LeafBytes.{element_bytes}
use Rattle.hessian_reader.proofs.Live.{live, live_whole}
use Rattle.hessian_reader.proofs.LooseOnce.{want_of, same_front, once}
use Rattle.hessian_reader.proofs.Sync.{Reached, sync, taken_not_refused}
use Rattle.hessian_reader.proofs.Stopping.{leads_bytes, slot_wants, int_slot, begins_front}

-- ---- a state that is done waits for nothing

none_open : (os : List OpenNode) (wanted : ℕ) → lacks_none os wanted ≡ true → open_slots os wanted ≡ []
none_open [] wanted e = ap (λ n. ones n []) (eqb-true wanted 0 e)
none_open (o ∷ os) wanted e = absurd cc

none_at : (p : Place) (os : List OpenNode) (wanted : ℕ) (left : List Slot) → (is_at_value p && lacks_none os wanted) ≡ true → slots_at p (open_slots os wanted) left ≡ []
none_at AtValue os wanted left e = none_open os wanted e
none_at AtDefined os wanted left e = absurd cc
none_at AtReference os wanted left e = absurd cc
none_at (AtType form) os wanted left e = absurd cc
none_at (AtLength k) os wanted left e = absurd cc
none_at AtClass os wanted left e = absurd cc
none_at AtName os wanted left e = absurd cc
none_at (AtCount name) os wanted left e = absurd cc
none_at (AtField class k) os wanted left e = absurd cc

pub no_slots : (s : State) → is_done s ≡ true → slots_of s ≡ []
no_slots s e = none_at s.place s.built.open_nodes s.built.wanted (left_slots s.built.open_nodes s.built.wanted) e

-- ---- nothing goes on behind the last root

nothing_left : {t u : Tables} {ss xs : List Slot} {bytes : List ℕ} → LooseLeads hessian t ss bytes u xs → ss ≡ [] → bytes ≡ []
nothing_left l_here e = refl
nothing_left (l_on element rest bytes row joined leads) e = absurd cc

none_of : (xs ys : List ℕ) → xs ++ ys ≡ [] → xs ≡ []
none_of [] ys e = refl
none_of (x ∷ xs) ys e = absurd cc

-- a refused int can't stand among bytes that were taken
on_path : {s' s : State} {bytes : List ℕ} (e k : List ℕ) (z : ℤ) (slot : Slot) (slots : List Slot) (at : ℕ) (c : Cause) → Leads s' bytes s → bytes ≡ e ++ k → Sound s' → slots_of s' ≡ slot ∷ slots → scalar_bytes (values.Int z) e → RefusedInt (tables_of s') at z slot c → ⊥
on_path e k z slot slots at c here joined sound splits is refused = element_some (want_of slot) e (elements.Number z) (e_number (want_of slot) z e (int_slot refused) is) (none_of e k (sym joined))
on_path {s' = s'} e k z slot slots at c (on {t = t} x el rest bytes d' is' took joined' leads) joined sound splits is refused =
    let w = slot_wants s' slot slots sound (some_lacking s' sound d') splits in
    let number : IsElement (want_at s'.place) e (elements.Number z) = subst (λ q. IsElement q e (elements.Number z)) w (e_number (want_of slot) z e (int_slot refused) is) in
    let same = same_front (want_at s'.place) e k el rest (elements.Number z) x (element_bytes (want_at s'.place) e (elements.Number z) number) (sym joined ∙ joined') number is' in
    taken_not_refused s' t z at slot slots c splits (ap (take_element s') same.element ∙ took) refused

-- no front of bytes that were taken stops
pub taken_never_stops : (roots : ℕ) (before front m : List ℕ) (s : State) → Leads (start roots) before s → before ≡ front ++ m → Stops hessian node_limit roots front → ⊥
taken_never_stops roots before front m s leads e (inl dead) = dead (begins_front roots front m (subst (BeginsLoosely hessian node_limit roots) e (live_whole roots before s leads)))
taken_never_stops roots before front m s leads e (inr ends) = by (sync (ends.element ++ m) ends.reached refl refl (e ∙ ap (λ x. x ++ m) ends.joined ∙ append_assoc ends.before ends.element m) (sound_start roots) leads)
  where
    by : Reached (start roots) s ends.before (ends.element ++ m) ends.tables (ends.slot ∷ ends.slots) → ⊥
    by r = on_path ends.element m ends.number ends.slot ends.slots (length ends.before) ends.cause r.behind refl r.sound r.slots ends.is_int (subst (λ t. RefusedInt t (length ends.before) ends.number ends.slot ends.cause) (sym r.tables) ends.refused)

no_more : (c : ℕ) (m k : List ℕ) → c ∷ [] ≡ m ++ k → k ≢ [] → m ≡ []
no_more c [] k e some = refl
no_more c (b ∷ []) k e some = absurd (some cc)
no_more c (b ∷ d ∷ m) k e some = absurd cc

pub trailing_stops : (roots : ℕ) (bytes before rest : List ℕ) (c : ℕ) (s : State) → bytes ≡ (before ++ c ∷ []) ++ rest → Leads (start roots) before s → is_done s ≡ true → Stopped hessian faults node_limit roots bytes (Trailing (length before))
trailing_stops roots bytes before rest c s joined leads e = record {
  before = before;
  element = c ∷ [];
  rest = rest;
  tables = tables_of s;
  slots = [];
  joined = joined;
  stops = inl (λ b. dead b);
  shortest = λ front more f some st. shorter front more some st (fronts before (c ∷ []) front more f);
  reached = reached;
  refused = trailing c;
}
  where
    reached : LooseLeads hessian no_tables (ones roots []) before (tables_of s) []
    reached = subst (λ ss. LooseLeads hessian no_tables (ones roots []) before (tables_of s) ss) (no_slots s e) (live (sound_start roots) leads)

    dead : BeginsLoosely hessian node_limit roots (before ++ c ∷ []) → ⊥
    dead b = let none : c ∷ b.more ≡ [] = nothing_left (once (c ∷ b.more) (leads_bytes leads) (append_assoc before (c ∷ []) b.more) reached b.spelled.leads) refl in cc

    shorter : (front more : List ℕ) → more ≢ [] → Stops hessian node_limit roots front → Fronts before (c ∷ []) front more → ⊥
    shorter front more some st (second_shorter m a b) = taken_never_stops roots before front m s leads a st
    shorter front more some st (first_shorter m a b) = taken_never_stops roots before front [] s leads (sym (a ∙ ap (λ x. before ++ x) (no_more c m more b some) ∙ append-nil before) ∙ sym (append-nil front)) st

-- where the last root ends, the byte behind it is refused
pub trailing_refused : (roots n : ℕ) (bytes : List ℕ) → EndsAt roots bytes n → n < length bytes → IsStoppedBy roots bytes (told.Trailing n)
trailing_refused roots n bytes ends low =
    let q = reads ends.graph (take n bytes) ends.denoted in
    let leads : Leads (start roots) (take n bytes) q.to = subst (λ k. Leads (start k) (take n bytes) q.to) ends.roots_are q.leads in
    let len : length (take n bytes) ≡ n = length-take-le n bytes ends.within in
    let c = get_or bytes n 0 in
    let joined : bytes ≡ (take n bytes ++ c ∷ []) ++ drop (suc n) bytes = sym (take-append-drop n bytes) ∙ ap (λ x. take n bytes ++ x) (drop-cons bytes n 0 low) ∙ sym (append_assoc (take n bytes) (c ∷ []) (drop (suc n) bytes)) in
    (Trailing (length (take n bytes)), ap told.Trailing (sym len), trailing_stops roots bytes (take n bytes) (drop (suc n) bytes) c q.to joined leads q.is_end)
