-- The steps of a window that look at a slot and move none.
use Rattle.std.proofs.Common.{◌≡◌, ◌≢◌, ℕ, zero, suc, ◌+◌, ◌-◌, ◌*◌, ◌/◌, ◌<◌, ◌≤◌, ◌^◌, ⊎_elim, Option, Some, Bool, true, false, if◌then◌else◌, eqb, List, [], ◌∷◌, ◌++◌, length, get_or, set, slice_get, sym, refl, ap, ◌∙◌, subst, arith}
use mathlib.Core.Option as maybe
use lib.ListN.{get_elem?}
use Rattle.atomic_table.specs.Table.{State, step, keeps, Allows}
use Rattle.pending_table.specs.Seats.{one_window}
use Rattle.pending_table.specs.SharedPlays.{IsStateWord, sees_with, change_last, dated_sight, saw_one, saw_next, saw_due}
use Rattle.pending_table.specs.SharedRule.{Phase, free, waiting, claimed, done, taken, shown_word, is_open_in, IsSeen, Sits, Works, ClaimsOnce, Ledger, Shows, Kept}
use Rattle.pending_table.proofs.SharedFrame.{one_element, either_set}
use Rattle.pending_table.proofs.SharedSeats.{find_window, window_known}
use Rattle.pending_table.proofs.SharedShows.{no_element, get_there, set_same, word_kept}
use Rattle.pending_table.proofs.SharedTurns.{WindowGoes, sits_on, window_moves}
use Rattle.pending_table.proofs.Sitting.{get_snoc, get_alone, get_last, get_longer}
use Rattle.pending_table.specs.declared.answers.Taken.{Taken}
use Rattle.pending_table.specs.declared.logs.Claim.{Claim}
use Rattle.pending_table.specs.declared.logs.Sight.{Sight}
use Rattle.pending_table.specs.declared.logs.Sight.TheVariants.{Word, Due}
use Rattle.pending_table.specs.declared.shared.parts.DeskPart.{DeskPart}
use Rattle.pending_table.specs.declared.shared.parts.View.{View}
use Rattle.pending_table.specs.declared.shared.parts.WindowPart.{WindowPart}
use Rattle.pending_table.specs.declared.word.SlotState.TheVariants as state

-- the last sight of a list that was made longer
pub change_longer : (change : Sight → Sight) (sights : List Sight) (sight : Sight) → change_last change (sights ++ sight ∷ []) ≡ sights ++ change sight ∷ []
change_longer change [] sight = refl
change_longer change (x ∷ []) sight = refl
change_longer change (x ∷ y ∷ sights) sight = ap (λ (l : List Sight). x ∷ l) (change_longer change (y ∷ sights) sight)

module _ {R : Type 0} where
  -- a phase with an id shows a state of that id
  word_shown : (last id : ℕ) (p : Phase R) → last ≡ id + 1 → last ≤ 2 ^ 60 → IsStateWord (shown_word last p)
  word_shown last id free is small = (state.Free id, ap (λ (k : ℕ). 4 * k + 0) is, omega arith)
  word_shown last id waiting is small = (state.Waiting id, ap (λ (k : ℕ). 4 * k + 1) is, omega arith)
  word_shown last id (claimed number x) is small = (state.Claimed id, ap (λ (k : ℕ). 4 * k + 2) is, omega arith)
  word_shown last id (done x) is small = (state.Done id, ap (λ (k : ℕ). 4 * k + 3) is, omega arith)
  word_shown last id (taken x) is small = (state.Done id, ap (λ (k : ℕ). 4 * k + 3) is, omega arith)

  unused_shown : (p : Phase R) → (is_open_in p ≡ true → 0 < 0) → IsStateWord (shown_word 0 p)
  unused_shown free begun = (state.Unused, refl, omega arith)
  unused_shown waiting begun = absurd (let no = begun refl in omega arith)
  unused_shown (claimed number x) begun = absurd (let no = begun refl in omega arith)
  unused_shown (done x) begun = absurd (let no = begun refl in omega arith)
  unused_shown (taken x) begun = absurd (let no = begun refl in omega arith)

  state_word : (last : ℕ) (p : Phase R) → last ≤ 2 ^ 60 → (is_open_in p ≡ true → 0 < last) → IsStateWord (shown_word last p)
  state_word zero p small begun = unused_shown p begun
  state_word (suc id) p small begun = word_shown (suc id) id p (omega arith) small

  quarter_of : (last : ℕ) (p : Phase R) → shown_word last p / 4 ≡ last
  quarter_of last free = grind arith
  quarter_of last waiting = grind arith
  quarter_of last (claimed number x) = grind arith
  quarter_of last (done x) = grind arith
  quarter_of last (taken x) = grind arith

module _ {R K : Type 0} (fits : K → ℕ → R → Type 0) (key : K) (slots : ℕ) where
  -- each claim of a window was a window's before, where its claims are the same
  claims_before : (windows : List (WindowPart R)) (k : ℕ) (w v : WindowPart R) → slice_get windows k ≡ Some w → v.log.claims ≡ w.log.claims → (l : ℕ) (u : WindowPart R) → slice_get (set windows k v) l ≡ Some u
      → (t : WindowPart R) × (slice_get windows l ≡ Some t) × (u.log.claims ≡ t.log.claims)
  claims_before windows k w v here same l u at = ⊎_elim
      (λ (x : (l ≡ k) × (v ≡ u)). (w, ap (slice_get windows) x.0 ∙ here, ap (λ (y : WindowPart R). y.log.claims) (sym x.1) ∙ same))
      (λ (x : (l ≢ k) × (slice_get windows l ≡ Some u)). (u, x.1, refl)) (either_set windows k l v u at)

  pub once_still : (windows : List (WindowPart R)) (k : ℕ) (w v : WindowPart R) → slice_get windows k ≡ Some w → v.log.claims ≡ w.log.claims → ClaimsOnce fits key slots windows → ClaimsOnce fits key slots (set windows k v)
  once_still windows k w v here same old l m i j s t a b ls mt ia jb e =
      let x = claims_before windows k w v here same l s ls in
      let y = claims_before windows k w v here same m t mt in
      old l m i j x.0 y.0 a b x.1 y.1 (ap (λ (c : List (Claim R)). slice_get c i) (sym x.2) ∙ ia) (ap (λ (c : List (Claim R)). slice_get c j) (sym y.2) ∙ jb) e

  -- after a step that claims nothing and gives nothing up, in the same phases
  pub still_ledger : (desks : List (DeskPart R)) (windows : List (WindowPart R)) (phases : List (Phase R)) (lost setter : ℕ) → Ledger fits key slots desks windows phases lost setter
      → (k : ℕ) (w v : WindowPart R) → slice_get windows k ≡ Some w → k < length windows → v.log.claims ≡ w.log.claims → v.giving ≡ w.giving → Works fits key slots desks phases lost setter k v
      → Ledger fits key slots desks (set windows k v) phases lost setter
  still_ledger desks windows phases lost setter ledger k w v here inside claims giving works =
      let d = get_there desks 0 (let a = ledger.some_slot in let b = ledger.desk_count in omega arith) in
      let p = get_there phases 0 (let a = ledger.some_slot in let b = ledger.phase_count in omega arith) in
      let adds : (i : ℕ) (c : Claim R) → slice_get w.log.claims i ≡ Some c → slice_get v.log.claims i ≡ Some c = λ i c at. ap (λ (cs : List (Claim R)). slice_get cs i) claims ∙ at in
      let goes : (slot last : ℕ) → WindowGoes k slot slots last w p.0 v p.0 = λ slot last. record { adds = adds; bounds = λ id low. low; others = λ other x no is. is; waits_on = λ waits. waits; gives_on = λ id x is no. giving ∙ is } in
      subst (λ (m : List (Phase R)). Ledger fits key slots desks (set windows k v) m lost setter) (set_same phases 0 p.0 p.1)
      (window_moves fits key slots desks windows phases lost setter ledger k w v here inside 0 d.0 p.0 p.0 d.1 p.1
      (subst (λ (m : List (Phase R)). Works fits key slots desks m lost setter k v) (sym (set_same phases 0 p.0 p.1)) works)
      (sits_on fits key slots windows k w v lost 1 d.0.log.last p.0 p.0 here inside (goes 1 d.0.log.last) 0 (λ z. omega arith) d.0 p.0 (ledger.sits 0 d.0 p.0 d.1 p.1))
      (goes 0 d.0.log.last) (once_still windows k w v here claims ledger.once))

  -- the rule after a step of the window w, which leaves it as v
  pub window_keeps : (state : State (Option (Taken R)) (View R K)) (rule : Kept fits key slots state) (me : ℕ) (w v : WindowPart R) → get_elem? state.views me ≡ maybe.some (one_window (Some key) w) → v.number ≡ w.number
      → (phases : List (Phase R)) (lost setter : ℕ) → Ledger fits key slots rule.desks (set rule.windows w.number v) phases lost setter
      → (words : List ℕ) (homes : List (maybe.Option (Option (Taken R)))) → Shows fits key slots words homes rule.desks phases lost
      → Kept fits key slots (record { words = words; homes = homes; views = set state.views me (one_window (Some key) v) })
  window_keeps state rule me w v at same phases lost setter ledger words homes shows = record {
    desk_at = rule.desk_at;
    window_at = rule.window_at;
    desks = rule.desks;
    windows = set rule.windows w.number v;
    phases = phases;
    lost = lost;
    setter = setter;
    ledger = ledger;
    shows = shows;
    known = window_known fits key slots rule.desk_at rule.window_at rule.desks rule.windows state.views me w v at same rule.known;
  }

  -- the rule after a step that changes nothing but what the window saw
  pub saw_keeps : (state : State (Option (Taken R)) (View R K)) (rule : Kept fits key slots state) (me word : ℕ) (w : WindowPart R) (sights : List Sight) → get_elem? state.views me ≡ maybe.some (one_window (Some key) w)
      → ((i : ℕ) (sight : Sight) → slice_get sights i ≡ Some sight → IsSeen fits key slots rule.desks rule.phases sight)
      → Kept fits key slots (record { words = set state.words word (get_or state.words word 0); homes = state.homes; views = set state.views me (one_window (Some key) (sees_with sights w)) })
  saw_keeps state rule me word w sights at sees =
      let f = find_window fits key slots state rule me w at in
      let o = f.works in
      let v : WindowPart R = sees_with sights w in
      window_keeps state rule me w v at refl rule.phases rule.lost rule.setter
      (still_ledger rule.desks rule.windows rule.phases rule.lost rule.setter rule.ledger w.number w v f.window_at f.inside refl refl
      (record { number_is = o.number_is; fair = o.fair; older = o.older; gives = o.gives; named = o.named; sees = sees; set_is = o.set_is; kept_is = o.kept_is }))
      (set state.words word (get_or state.words word 0)) state.homes
      (subst (λ (ws : List ℕ). Shows fits key slots ws state.homes rule.desks rule.phases rule.lost) (sym (word_kept state.words word)) rule.shows)

  -- what a window finds in the state word of a slot
  pub record SlotFound (state : State (Option (Taken R)) (View R K)) (rule : Kept fits key slots state) (slot : ℕ) : Type 0 where
    pub desk : DeskPart R
    pub phase : Phase R
    pub desk_at : slice_get rule.desks slot ≡ Some desk
    pub phase_at : slice_get rule.phases slot ≡ Some phase
    pub sits : Sits fits key slots rule.windows rule.lost slot desk phase
    pub word_is : get_or state.words slot 0 ≡ shown_word desk.log.last phase
    pub shown : IsStateWord (get_or state.words slot 0)
    pub seen : IsSeen fits key slots rule.desks rule.phases (Word slot (get_or state.words slot 0))

  pub find_slot : (state : State (Option (Taken R)) (View R K)) (rule : Kept fits key slots state) (slot : ℕ) → slot < slots → SlotFound state rule slot
  find_slot state rule slot low =
      let d = get_there rule.desks slot (let a = rule.ledger.desk_count in omega arith) in
      let p = get_there rule.phases slot (let a = rule.ledger.phase_count in omega arith) in
      let sits = rule.ledger.sits slot d.0 p.0 d.1 p.1 in
      let word_is : get_or state.words slot 0 ≡ shown_word d.0.log.last p.0 = rule.shows.states slot d.0 p.0 d.1 p.1 in
      let quarter : get_or state.words slot 0 / 4 ≡ d.0.log.last = ap (λ (k : ℕ). k / 4) word_is ∙ quarter_of d.0.log.last p.0 in record {
        desk = d.0;
        phase = p.0;
        desk_at = d.1;
        phase_at = p.1;
        sits = sits;
        word_is = word_is;
        shown = subst IsStateWord (sym word_is) (state_word d.0.log.last p.0 sits.small sits.begun);
        seen = λ desk at. let same : d.0 ≡ desk = one_element d.0 desk (sym d.1 ∙ at) in let last : d.0.log.last ≡ desk.log.last = ap (λ (y : DeskPart R). y.log.last) same in omega arith;
      }

module _ {R K : Type 0} (fits : K → ℕ → R → Type 0) (key : K) (slots n me : ℕ) (c : List (ℕ × Option (Taken R))) (w : WindowPart R) where
  -- the state of the one slot of a call is loaded
  pub loads_one : (slot : ℕ) → slot < slots → Allows (Kept fits key slots) n me (one_window (Some key) w, c) slot (λ k. k) (saw_one (step n slot 0 0 maybe.none) (one_window (Some key) w, c))
  loads_one slot low state rule count at small =
      let f = find_slot fits key slots state rule slot low in
      let word : ℕ = get_or state.words slot 0 in (
        one_window (Some key) (sees_with (Word slot word ∷ []) w),
        keeps,
        tt,
        saw_keeps fits key slots state rule me slot w (Word slot word ∷ []) at (λ i sight is. subst (IsSeen fits key slots rule.desks rule.phases) (get_alone (Word slot word) sight i is) f.seen),
        (f.shown, refl),
      )

  -- the state of a scan's next slot is loaded
  pub loads_next : (slot : ℕ) → slot < slots → Allows (Kept fits key slots) n me (one_window (Some key) w, c) slot (λ k. k) (saw_next (step n slot 0 0 maybe.none) (one_window (Some key) w, c))
  loads_next slot low state rule count at small =
      let f = find_slot fits key slots state rule slot low in
      let own = find_window fits key slots state rule me w at in
      let word : ℕ = get_or state.words slot 0 in
      let before : Bool → List Sight = λ first. if first then [] else w.log.sights in
      let old : (first : Bool) (i : ℕ) (sight : Sight) → slice_get (before first) i ≡ Some sight → IsSeen fits key slots rule.desks rule.phases sight = λ first. elim first as (λ b. (i : ℕ) (sight : Sight) → slice_get (before b) i ≡ Some sight → IsSeen fits key slots rule.desks rule.phases sight) [
        | true ↦ (λ i sight is. absurd (no_element sight is))
        | false ↦ own.works.sees
      ] in (
        one_window (Some key) (sees_with (before (eqb slot 0) ++ Word slot word ∷ []) w),
        keeps,
        tt,
        saw_keeps fits key slots state rule me slot w (before (eqb slot 0) ++ Word slot word ∷ []) at (λ i sight is. ⊎_elim
            (λ was. old (eqb slot 0) i sight was)
            (λ (new : (i ≡ length (before (eqb slot 0))) × (Word slot word ≡ sight)). subst (IsSeen fits key slots rule.desks rule.phases) new.1 f.seen) (get_snoc (before (eqb slot 0)) (Word slot word) sight i is)),
        (f.shown, refl),
      )

  -- the deadline of a slot that was seen last, with an id, is loaded
  pub loads_due : (slot word : ℕ) (before : List Sight) → slot < slots → 4 ≤ word → w.log.sights ≡ before ++ Word slot word ∷ []
      → Allows (Kept fits key slots) n me (one_window (Some key) w, c) (slots + slot) (λ k. k) (saw_due (step n (slots + slot) 0 0 maybe.none) (one_window (Some key) w, c))
  loads_due slot word before low begun last_is state rule count at small =
      let own = find_window fits key slots state rule me w at in
      let deadline : ℕ = get_or state.words (slots + slot) 0 in
      let sights : List Sight = change_last (dated_sight deadline) w.log.sights in
      let sights_are : sights ≡ before ++ Due slot (word / 4 - 1) deadline ∷ [] = ap (change_last (dated_sight deadline)) last_is ∙ change_longer (dated_sight deadline) before (Word slot word) in
      let was : (i : ℕ) (sight : Sight) → slice_get (before ++ Word slot word ∷ []) i ≡ Some sight → IsSeen fits key slots rule.desks rule.phases sight = λ i sight is. own.works.sees i sight (ap (λ (l : List Sight). slice_get l i) last_is ∙ is) in
      let seen : IsSeen fits key slots rule.desks rule.phases (Word slot word) = was (length before) (Word slot word) (get_last before (Word slot word)) in
      let some : 1 ≤ word / 4 = grind arith in
      let due : IsSeen fits key slots rule.desks rule.phases (Due slot (word / 4 - 1) deadline) = λ desk phase there in_phase.
      let low : word / 4 ≤ desk.log.last = seen desk there in (omega arith, (λ _ _. sym (rule.shows.deadlines slot desk there))) in (
        one_window (Some key) (sees_with sights w),
        keeps,
        tt,
        saw_keeps fits key slots state rule me (slots + slot) w sights at (λ i sight is. ⊎_elim
            (λ old. was i sight (get_longer before (Word slot word ∷ []) i sight old))
            (λ (new : (i ≡ length before) × (Due slot (word / 4 - 1) deadline ≡ sight)). subst (IsSeen fits key slots rule.desks rule.phases) new.1 due)
            (get_snoc before (Due slot (word / 4 - 1) deadline) sight i (ap (λ (l : List Sight). slice_get l i) (sym sights_are) ∙ is))),
        refl,
      )
