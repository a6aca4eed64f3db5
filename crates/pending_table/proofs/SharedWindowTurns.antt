-- The steps by which a window claims an id, and puts its value in.
use Rattle.std.proofs.Common.{◌≡◌, ◌≢◌, ℕ, ◌+◌, ◌-◌, ◌*◌, ◌/◌, ◌<◌, ◌≤◌, ⊎_elim, Option, Some, None, Bool, true, false, MatchBool, eqb, eq-eqb, ne_eqb, List, [], ◌∷◌, ◌++◌, length, get_or, set, slice_get, sym, refl, ap, ◌∙◌, subst, arith}
use mathlib.Core.Option as maybe
use lib.ListN.{get_elem?}
use prog.Atomic.{either}
use Rattle.atomic_table.specs.Table.{State, Me, Act, step, keeps, takes, gives, Valid, stepped, carried_after, Allows}
use Rattle.pending_table.specs.DeskLogs.{opening, open_id}
use Rattle.pending_table.specs.Seats.{one_window}
use Rattle.pending_table.specs.SharedPlays.{IsStateWord, sees_with, claims_with, gives_up, change_last, claimed_sight, missed_sight, claimed_one, claimed_due, put}
use Rattle.pending_table.specs.SharedRule.{Phase, free, waiting, claimed, done, taken, tag_of, is_open_in, IsFair, IsTimely, IsSeen, Sits, Shows, Kept}
use Rattle.pending_table.specs.Taken.{IsOfferable}
use Rattle.pending_table.specs.Words.{slot_of}
use Rattle.pending_table.proofs.Scanning.{same_or}
use Rattle.pending_table.proofs.SharedClaims.{claimed_ledger, given_ledger}
use Rattle.pending_table.proofs.SharedDeskTurns.{waiting_by_tag}
use Rattle.pending_table.proofs.SharedSeats.{find_window}
use Rattle.pending_table.proofs.SharedShows.{no_element, set_same, homes_move, shows_slot, state_written}
use Rattle.pending_table.proofs.SharedWindowSteps.{change_longer, window_keeps, saw_keeps, SlotFound, find_slot}
use Rattle.pending_table.proofs.Sitting.{get_snoc, get_alone, get_last, get_longer}
use Rattle.pending_table.specs.declared.answers.Taken.{Taken}
use Rattle.pending_table.specs.declared.answers.Taken.TheVariants.{Reply, Timeout, Broken, NoMemory}
use Rattle.pending_table.specs.declared.logs.Sight.{Sight}
use Rattle.pending_table.specs.declared.logs.Sight.TheVariants.{Word, Due}
use Rattle.pending_table.specs.declared.shared.parts.DeskPart.{DeskPart}
use Rattle.pending_table.specs.declared.shared.parts.View.{View}
use Rattle.pending_table.specs.declared.shared.parts.WindowPart.{WindowPart}

module _ {R K : Type 0} (fits : K → ℕ → R → Type 0) (key : K) (slots : ℕ) where
  -- what may be offered for an id is fair, and no timeout
  pub offered_fair : (id : ℕ) (x : Taken R) → IsOfferable fits key id x → IsFair fits key slots id x
  offered_fair id (Reply reply) may = may
  offered_fair id (Timeout deadline moment) may = absurd may
  offered_fair id (Broken at) may = tt
  offered_fair id NoMemory may = tt

  pub offered_timely : (d : DeskPart R) (id : ℕ) (x : Taken R) → IsOfferable fits key id x → IsTimely fits key slots d id x
  offered_timely d id x may deadline moment is = absurd (subst (IsOfferable fits key id) is may)

  -- a moment is timely with the deadline that the open id has
  timely_open : (windows : List (WindowPart R)) (lost slot : ℕ) (d : DeskPart R) (p : Phase R) (id deadline now : ℕ) → Sits fits key slots windows lost slot d p → d.log.is_open ≡ true → d.log.last ≡ id + 1 → d.log.deadline ≡ deadline → IsTimely fits key slots d id (Timeout deadline now)
  timely_open windows lost slot d p id deadline now sits opens last same other moment is =
      let number : open_id d.log ≡ id = omega arith in
      (length d.log.ended, sits.newest opens ∙ (λ i. Some (opening (number i) (same i))) ∙ ap (λ (x : Taken R). Some (opening id (deadline_of x))) is)
    where
      deadline_of : Taken R → ℕ
      deadline_of (Reply reply) = deadline
      deadline_of (Timeout own moment) = own
      deadline_of (Broken at) = deadline
      deadline_of NoMemory = deadline

module _ {R K : Type 0} (fits : K → ℕ → R → Type 0) (key : K) (slots n me : ℕ) (c : List (ℕ × Option (Taken R))) (w : WindowPart R) where
  -- what a step at a slot's state word owes, where it leaves this word
  abbrev Owes : State (Option (Taken R)) (View R K) → ℕ → ℕ → (Me (Option (Taken R)) (View R K) → Type 0) → Type 0
  Owes state slot word told =
      (view : View R K) × (act : Act (Option (Taken R))) × Valid state.homes c act × Kept fits key slots (stepped state slot word me c view act) × told (view, carried_after c act)

  -- the claim of an id that was found waiting, with these sights
  claims : (state : State (Option (Taken R)) (View R K)) (rule : Kept fits key slots state) → get_elem? state.views me ≡ maybe.some (one_window (Some key) w) → (slot id : ℕ) (x : Taken R) (sights : List Sight) → w.giving ≡ None
      → (d : DeskPart R) → slice_get rule.desks slot ≡ Some d → slice_get rule.phases slot ≡ Some waiting → d.log.last ≡ id + 1 → IsFair fits key slots id x → IsTimely fits key slots d id x
      → ((i : ℕ) (sight : Sight) → slice_get sights i ≡ Some sight → IsSeen fits key slots rule.desks rule.phases sight)
      → Kept fits key slots (stepped state slot (4 * (id + 1) + 2) me c (one_window (Some key) (claims_with id x sights w)) (takes slot None))
  claims state rule at slot id x sights idle d there waits last fair timely sees =
      let f = find_window fits key slots state rule me w at in
      let q : Phase R = claimed w.number x in
      let word : ℕ = 4 * (id + 1) + 2 in
      let homes : List (maybe.Option (Option (Taken R))) = set state.homes slot maybe.none in
      window_keeps fits key slots state rule me w (claims_with id x sights w) at refl (set rule.phases slot q) rule.lost rule.setter
      (claimed_ledger fits key slots rule.desks rule.windows rule.phases rule.lost rule.setter rule.ledger w.number w f.window_at f.inside slot id x d there sights idle waits last fair timely sees)
      (set state.words slot word) homes
      (subst (λ (ds : List (DeskPart R)). Shows fits key slots (set state.words slot word) homes ds (set rule.phases slot q) rule.lost) (set_same rule.desks slot d there)
      (shows_slot fits key slots state.words (set state.words slot word) state.homes homes rule.desks rule.phases rule.lost slot d d q rule.shows rule.ledger.desk_count there
      (state_written fits key slots state.words state.homes rule.desks rule.phases rule.lost slot d waiting rule.shows rule.ledger.desk_count there waits d q word (omega arith) refl)
      (homes_move state.homes rule.phases slot waiting q maybe.none waits refl rule.shows.at_home)))

  -- a slot that shows the id waiting
  found_waiting : (state : State (Option (Taken R)) (View R K)) (rule : Kept fits key slots state) (slot id : ℕ) (f : SlotFound fits key slots state rule slot) → get_or state.words slot 0 ≡ 4 * (id + 1) + 1 → (f.phase ≡ waiting) × (f.desk.log.last ≡ id + 1)
  found_waiting state rule slot id f is =
      let shown : get_or state.words slot 0 ≡ 4 * f.desk.log.last + tag_of f.phase = f.word_is in
      let small = small_tag f.phase in
      let one : tag_of f.phase ≡ 1 = omega arith in
      (waiting_by_tag f.phase one, omega arith)
    where
      small_tag : (p : Phase R) → tag_of p < 4
      small_tag free = omega arith
      small_tag waiting = omega arith
      small_tag (claimed number x) = omega arith
      small_tag (done x) = omega arith
      small_tag (taken x) = omega arith

  -- an id is claimed for a value that was offered
  pub claims_offered : (slot id : ℕ) (x : Taken R) → slot < slots → w.giving ≡ None → IsOfferable fits key id x
      → Allows (Kept fits key slots) n me (one_window (Some key) w, c) slot (λ k. either (eqb k (4 * (id + 1) + 1)) (4 * (id + 1) + 2) k)
      (claimed_one (step n slot (4 * (id + 1) + 1) (4 * (id + 1) + 2) (maybe.some (Some x))) (one_window (Some key) w, c))
  claims_offered slot id x low idle may state rule count at small =
      let f = find_slot fits key slots state rule slot low in
      let word : ℕ = get_or state.words slot 0 in
      let old : ℕ = 4 * (id + 1) + 1 in
      let back : id ≡ old / 4 - 1 = grind arith in
      let Goal : Bool → Type 0 = λ hit. Owes state slot (either hit (4 * (id + 1) + 2) word) (λ after.
      MatchBool hit ((y : Taken R) × (maybe.some (Some x) ≡ maybe.some (Some y)) × (after ≡ (one_window (Some key) (claims_with (old / 4 - 1) y [] w), (slot, None) ∷ c)))
      (IsStateWord word × (after ≡ (one_window (Some key) (sees_with (Word slot word ∷ []) w), c)))) in
      let hit : word ≡ old → Goal true = λ is.
      let found = found_waiting state rule slot id f is in
      let waits : slice_get rule.phases slot ≡ Some waiting = f.phase_at ∙ ap (λ (p : Phase R). Some p) found.0 in (
        one_window (Some key) (claims_with id x [] w),
        takes slot None,
        rule.shows.at_home slot waiting waits,
        claims state rule at slot id x [] idle f.desk f.desk_at waits found.1 (offered_fair fits key slots id x may) (offered_timely fits key slots f.desk id x may) (λ i sight no_sight. absurd (no_element sight no_sight)),
        (x, refl, (λ i. (one_window (Some key) (claims_with (back i) x [] w), (slot, None) ∷ c))),
      ) in
      let miss : word ≢ old → Goal false = λ other. (
        one_window (Some key) (sees_with (Word slot word ∷ []) w),
        keeps,
        tt,
        saw_keeps fits key slots state rule me slot w (Word slot word ∷ []) at (λ i sight is. subst (IsSeen fits key slots rule.desks rule.phases) (get_alone (Word slot word) sight i is) f.seen),
        (f.shown, refl),
      ) in
      ⊎_elim (λ is. subst Goal (sym (eq-eqb word old is)) (hit is)) (λ other. subst Goal (sym (ne_eqb word old other)) (miss other)) (same_or word old)

  -- an id is claimed whose deadline was seen last, and has come
  pub claims_due : (slot id deadline now : ℕ) (before : List Sight) → n ≡ slots → slot < slots → w.giving ≡ None → deadline ≤ now → w.log.sights ≡ before ++ Due slot id deadline ∷ []
      → Allows (Kept fits key slots) n me (one_window (Some key) w, c) slot (λ k. either (eqb k (4 * (id + 1) + 1)) (4 * (id + 1) + 2) k)
      (claimed_due (step n slot (4 * (id + 1) + 1) (4 * (id + 1) + 2) (maybe.some (Some (Timeout deadline now)))) (one_window (Some key) w, c))
  claims_due slot id deadline now before same_slots low idle come last_is state rule count at small =
      let f = find_slot fits key slots state rule slot low in
      let own = find_window fits key slots state rule me w at in
      let x : Taken R = Timeout deadline now in
      let word : ℕ = get_or state.words slot 0 in
      let old : ℕ = 4 * (id + 1) + 1 in
      let back : id ≡ old / 4 - 1 = grind arith in
      let was : (i : ℕ) (sight : Sight) → slice_get (before ++ Due slot id deadline ∷ []) i ≡ Some sight → IsSeen fits key slots rule.desks rule.phases sight = λ i sight is. own.works.sees i sight (ap (λ (l : List Sight). slice_get l i) last_is ∙ is) in
      let due : IsSeen fits key slots rule.desks rule.phases (Due slot id deadline) = was (length before) (Due slot id deadline) (get_last before (Due slot id deadline)) in
      -- the last sight has become another, of the same slot and id
      let changed : (change : Sight → Sight) → IsSeen fits key slots rule.desks rule.phases (change (Due slot id deadline)) → (i : ℕ) (sight : Sight) → slice_get (change_last change w.log.sights) i ≡ Some sight → IsSeen fits key slots rule.desks rule.phases sight = λ change seen i sight is. ⊎_elim
      (λ older. was i sight (get_longer before (Due slot id deadline ∷ []) i sight older))
      (λ (new : (i ≡ length before) × (change (Due slot id deadline) ≡ sight)). subst (IsSeen fits key slots rule.desks rule.phases) new.1 seen)
      (get_snoc before (change (Due slot id deadline)) sight i (ap (λ (l : List Sight). slice_get l i) (sym (ap (change_last change) last_is ∙ change_longer change before (Due slot id deadline))) ∙ is)) in
      let above : (desk : DeskPart R) → slice_get rule.desks slot ≡ Some desk → id + 1 ≤ desk.log.last = λ desk there. (due desk f.phase there f.phase_at).0 in
      let Goal : Bool → Type 0 = λ hit. Owes state slot (either hit (4 * (id + 1) + 2) word) (λ after.
      MatchBool hit ((y : Taken R) × (maybe.some (Some x) ≡ maybe.some (Some y)) × (slot_of n (old / 4 - 1) ≡ slot) × (after ≡ (one_window (Some key) (claims_with (old / 4 - 1) y (change_last claimed_sight w.log.sights) w), (slot, None) ∷ c)))
      (IsStateWord word × (after ≡ (one_window (Some key) (sees_with (change_last (missed_sight word) w.log.sights) w), c)))) in
      let hit : word ≡ old → Goal true = λ is.
      let found = found_waiting state rule slot id f is in
      let waits : slice_get rule.phases slot ≡ Some waiting = f.phase_at ∙ ap (λ (p : Phase R). Some p) found.0 in
      let opens : f.desk.log.is_open ≡ true = f.sits.is_open ∙ ap is_open_in found.0 in
      let number : old / 4 - 1 ≡ open_id f.desk.log = let last : f.desk.log.last ≡ id + 1 = found.1 in let again : open_id f.desk.log ≡ id = omega arith in sym back ∙ sym again in
      let place : slot_of n (old / 4 - 1) ≡ slot = (λ i. slot_of (same_slots i) (number i)) ∙ (f.sits.own (length f.desk.log.ended) (opening (open_id f.desk.log) f.desk.log.deadline) (f.sits.newest opens)).1 in
      let same : f.desk.log.deadline ≡ deadline = (due f.desk f.phase f.desk_at f.phase_at).1 found.1 found.0 in (
        one_window (Some key) (claims_with id x (change_last claimed_sight w.log.sights) w),
        takes slot None,
        rule.shows.at_home slot waiting waits,
        claims state rule at slot id x (change_last claimed_sight w.log.sights) idle f.desk f.desk_at waits found.1 come (timely_open fits key slots rule.windows rule.lost slot f.desk f.phase id deadline now f.sits opens found.1 same) (changed claimed_sight above),
        (x, refl, place, (λ i. (one_window (Some key) (claims_with (back i) x (change_last claimed_sight w.log.sights) w), (slot, None) ∷ c))),
      ) in
      let miss : word ≢ old → Goal false = λ other. (
        one_window (Some key) (sees_with (change_last (missed_sight word) w.log.sights) w),
        keeps,
        tt,
        saw_keeps fits key slots state rule me slot w (change_last (missed_sight word) w.log.sights) at (changed (missed_sight word) above),
        (f.shown, refl),
      ) in
      ⊎_elim (λ is. subst Goal (sym (eq-eqb word old is)) (hit is)) (λ other. subst Goal (sym (ne_eqb word old other)) (miss other)) (same_or word old)

module _ {R K : Type 0} (fits : K → ℕ → R → Type 0) (key : K) (slots n me : ℕ) (c : List (ℕ × Option (Taken R))) (w : WindowPart R) where
  -- done is stored, after the value was put in
  pub stores_done : (slot id : ℕ) (x : Taken R) → slot < slots → slot_of slots id ≡ slot → w.giving ≡ Some (id, x)
      → Allows (Kept fits key slots) n me (one_window (Some key) w, (slot, Some x) ∷ c) slot (λ _. 4 * (id + 1) + 3) (λ _. put (step n slot (4 * (id + 1) + 3) 0 maybe.none) (one_window (Some key) w, (slot, Some x) ∷ c) (4 * (id + 1) + 3))
  stores_done slot id x low place has state rule count at small =
      let f = find_slot fits key slots state rule slot low in
      let own = find_window fits key slots state rule me w at in
      let word : ℕ = 4 * (id + 1) + 3 in
      let turn = own.works.gives id x has f.desk f.phase (ap (slice_get rule.desks) place ∙ f.desk_at) (ap (slice_get rule.phases) place ∙ f.phase_at) in
      let last : f.desk.log.last ≡ id + 1 = turn.1 in
      let there : slice_get rule.phases slot ≡ Some (claimed w.number x) = f.phase_at ∙ ap (λ (p : Phase R). Some p) turn.0 in
      let homes : List (maybe.Option (Option (Taken R))) = set state.homes slot (maybe.some (Some x)) in (
        one_window (Some key) (gives_up w),
        gives,
        tt,
        window_keeps fits key slots state rule me w (gives_up w) at refl (set rule.phases slot (done x)) rule.lost rule.setter
            (given_ledger fits key slots rule.desks rule.windows rule.phases rule.lost rule.setter rule.ledger w.number w own.window_at own.inside slot id x f.desk f.desk_at has place there)
            (set state.words slot word) homes
            (subst (λ (ds : List (DeskPart R)). Shows fits key slots (set state.words slot word) homes ds (set rule.phases slot (done x)) rule.lost) (set_same rule.desks slot f.desk f.desk_at)
            (shows_slot fits key slots state.words (set state.words slot word) state.homes homes rule.desks rule.phases rule.lost slot f.desk f.desk (done x) rule.shows rule.ledger.desk_count f.desk_at
            (state_written fits key slots state.words state.homes rule.desks rule.phases rule.lost slot f.desk (claimed w.number x) rule.shows rule.ledger.desk_count f.desk_at there f.desk (done x) word (omega arith) refl)
            (homes_move state.homes rule.phases slot (claimed w.number x) (done x) (maybe.some (Some x)) there refl rule.shows.at_home))),
        refl,
      )
