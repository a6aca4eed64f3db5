-- Bytes at which no element stands stop, and bytes that end inside an element are cut short.
use Rattle.std.proofs.Common.{◌≡◌, ◌≢◌, ℕ, false, List, [], ◌∷◌, ◌++◌, length, refl, ap, sym, ◌∙◌, subst, append_assoc, ◌⊎◌, inl, inr}
use Rattle.std.proofs.lemmas.List.{append-nil}
use Rattle.hessian_graph.specs.Shape.{Shape}
use Rattle.hessian_graph.specs.Reading.{no_tables}
use Rattle.hessian_graph.specs.Spells.{Denotes}
use Rattle.hessian_graph.specs.Loose.{Slot, ones, BeginsLoosely}
use Rattle.hessian_graph.specs.Loose.{Leads as LooseLeads}
use Rattle.hessian_graph.specs.Refusal.{Cause, Refused, Stops, Stopped, CutShort}
use Rattle.hessian_reader.specs.declared.element.Want.{Want}
use Rattle.hessian_reader.specs.Leaves.{hessian, node_limit}
use Rattle.hessian_reader.specs.Elements.{HasNoElement}
use Rattle.hessian_reader.proofs.Elements.{BeginsElement}
use Rattle.hessian_reader.specs.States.{State, start, want_at, is_done}
use Rattle.hessian_reader.specs.Steps.{Leads}
use Rattle.hessian_reader.proofs.Slots.{slots_of, tables_of}
use Rattle.hessian_reader.specs.Faults.{faults}
use Rattle.hessian_reader.proofs.Keeping.{sound_start}
use Rattle.hessian_reader.proofs.OneWay.{Fronts, fronts}
use Rattle.hessian_reader.proofs.OneWay.Fronts.{first_shorter, second_shorter}
use Rattle.hessian_reader.proofs.LeafBytes.{no_bytes}
use Rattle.hessian_reader.proofs.Live.{live, live_whole}
use Rattle.hessian_reader.proofs.LooseOnce.{want_of}
use Rattle.hessian_reader.proofs.Dead.{no_spelling, shut_by_none}
use Rattle.hessian_reader.proofs.Stopping.{IsFirst, begins_front, leaf_goes_on, front_goes_on, right_some, first_element, no_early, leads_bytes}

-- ---- no element stands there

none_first : (w : Want) (element : List ℕ) → HasNoElement w element → IsFirst w element
none_first w element none f k x joined some is = none [] f k x no_bytes (append-nil element ∙ joined) is

-- each shorter front of these bytes is the beginning of an element
abbrev pub Begins : Want → List ℕ → Type 0
Begins w element = (f k : List ℕ) → element ≡ f ++ k → f ≢ [] → k ≢ [] → BeginsElement w f

nothing_or_some : (xs : List ℕ) → (xs ≡ []) ⊎ (xs ≢ [])
nothing_or_some [] = inl refl
nothing_or_some (x ∷ xs) = inr (λ e. cc)

begun_goes_on : (roots : ℕ) (before element front more : List ℕ) (s : State) → Leads (start roots) before s → is_done s ≡ false → Begins (want_at s.place) element → more ≢ [] → Fronts before element front more → BeginsLoosely hessian node_limit roots front
begun_goes_on roots before element front more s leads d begins some (second_shorter m a b) = begins_front roots front m (subst (BeginsLoosely hessian node_limit roots) a (live_whole roots before s leads))
begun_goes_on roots before element front more s leads d begins some (first_shorter m a b) = elim (nothing_or_some m) [
  | inl none ↦ subst (BeginsLoosely hessian node_limit roots) (sym (a ∙ ap (λ y. before ++ y) none ∙ append-nil before)) (live_whole roots before s leads)
  | inr begun ↦ let q = begins m more b begun some in subst (BeginsLoosely hessian node_limit roots) (sym a) (leaf_goes_on roots before m q.more s q.element leads d q.is begun q.lacks)
]

-- the first byte or a later one of a leaf is refused
pub none_stops : (roots : ℕ) (bytes before element rest : List ℕ) (s : State) (slot : Slot) (others : List Slot) (cause : Cause) → bytes ≡ (before ++ element) ++ rest → Leads (start roots) before s → is_done s ≡ false → slots_of s ≡ slot ∷ others → want_of slot ≡ want_at s.place → element ≢ [] → HasNoElement (want_at s.place) element → Begins (want_at s.place) element → Refused hessian faults node_limit (tables_of s) (length before) (slot ∷ others) element cause → Stopped hessian faults node_limit roots bytes cause
none_stops roots bytes before element rest s slot others cause joined leads d splits wants some none begins refused = record {
  before = before;
  element = element;
  rest = rest;
  tables = tables_of s;
  slots = slot ∷ others;
  joined = joined;
  stops = inl (no_spelling roots before element (tables_of s) slot others (leads_bytes leads) some reached (shut_by_none (tables_of s) slot others element (subst (λ w. HasNoElement w element) (sym wants) none)));
  shortest = λ front more e lacks st. shorter front more e lacks st;
  reached = reached;
  refused = refused;
}
  where
    reached : LooseLeads hessian no_tables (ones roots []) before (tables_of s) (slot ∷ others)
    reached = subst (λ ss. LooseLeads hessian no_tables (ones roots []) before (tables_of s) ss) splits (live (sound_start roots) leads)

    shorter : (front more : List ℕ) → before ++ element ≡ front ++ more → more ≢ [] → Stops hessian node_limit roots front → ⊥
    shorter front more e lacks (inl dead) = dead (begun_goes_on roots before element front more s leads d begins lacks (fronts before element front more e))
    shorter front more e lacks (inr ends) = no_early roots before element front more s leads d (none_first (want_at s.place) element none) e lacks ends

-- ---- the bytes end inside an element, or before one

pub cut_off : (roots : ℕ) (before came : List ℕ) (s : State) → Leads (start roots) before s → is_done s ≡ false → BeginsElement (want_at s.place) came → ((g : Shape) → Denotes hessian node_limit (before ++ came) g → length g.roots ≡ roots → ⊥) → CutShort hessian node_limit roots (before ++ came)
cut_off roots before came s leads d q no_graph = record { goes_on = λ front rest e st. goes front rest e st; no_graph = no_graph }
  where
    whole : (front rest : List ℕ) → before ++ came ≡ front ++ rest → before ++ (came ++ q.more) ≡ front ++ (rest ++ q.more)
    whole front rest e = sym (append_assoc before came q.more) ∙ ap (λ x. x ++ q.more) e ∙ append_assoc front rest q.more

    goes : (front rest : List ℕ) → before ++ came ≡ front ++ rest → Stops hessian node_limit roots front → ⊥
    goes front rest e (inl dead) = dead (front_goes_on roots before (came ++ q.more) front (rest ++ q.more) s q.element leads d q.is (right_some rest q.more q.lacks) (fronts before (came ++ q.more) front (rest ++ q.more) (whole front rest e)))
    goes front rest e (inr ends) = no_early roots before (came ++ q.more) front (rest ++ q.more) s leads d (first_element (want_at s.place) (came ++ q.more) q.element q.is) (whole front rest e) (right_some rest q.more q.lacks) ends
