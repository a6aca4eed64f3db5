-- The steps of a desk and of a window, at the view of any seat that has one part alone.
use Rattle.std.proofs.Common.{◌≡◌, ◌≢◌, ℕ, ◌+◌, ◌*◌, ◌<◌, ◌≤◌, ◌^◌, Option, Some, None, true, false, List, [], ◌∷◌, ◌++◌, eqb, sym, refl, ap, ◌∙◌, subst}
use mathlib.Core.Option as maybe
use prog.Atomic.{either}
use Rattle.atomic_table.specs.Table.{Me, step, Allows}
use Rattle.pending_table.specs.Seats.{one_desk, one_window, IsDeskOf, IsWindowOf}
use Rattle.pending_table.specs.SharedPlays.{the_desk, the_window, dated, opened, looked, emptied, asked_lost, lost_id, left_id, saw_one, saw_next, saw_due, claimed_one, claimed_due, put, set_lost}
use Rattle.pending_table.specs.SharedRule.{Kept}
use Rattle.pending_table.specs.Taken.{IsOfferable}
use Rattle.pending_table.specs.Words.{slot_of}
use Rattle.pending_table.proofs.SharedDeskSteps.{stores_deadline, stores_waiting, stores_free, loads_lost}
use Rattle.pending_table.proofs.SharedDeskTurns.{loads_state, leaves_id, loses_id}
use Rattle.pending_table.proofs.SharedLoss.{sets_lost}
use Rattle.pending_table.proofs.SharedWindowSteps.{loads_one, loads_next, loads_due}
use Rattle.pending_table.proofs.SharedWindowTurns.{claims_offered, claims_due, stores_done}
use Rattle.pending_table.specs.declared.answers.Taken.{Taken}
use Rattle.pending_table.specs.declared.answers.Taken.TheVariants.{Timeout}
use Rattle.pending_table.specs.declared.logs.Sight.{Sight}
use Rattle.pending_table.specs.declared.logs.Sight.TheVariants.{Word, Due}
use Rattle.pending_table.specs.declared.shared.parts.View.{View}

pub some_of : {A : Type 0} (o : Option A) → o ≢ None → (x : A) × (o ≡ Some x)
some_of None some = absurd (some refl)
some_of (Some x) some = (x, refl)

module _ {R K : Type 0} (fits : K → ℕ → R → Type 0) (key : K) (slots n me : ℕ) (m : Me (Option (Taken R)) (View R K)) (slot : ℕ) (is : IsDeskOf key slot m.0) where
  desk_shape : (one_desk (Some key) (the_desk m.0), m.1) ≡ m
  desk_shape i = (sym is.0 i, m.1)

  pub deadline_at : (word deadline : ℕ) → word ≡ slots + slot → (the_desk m.0).log.is_open ≡ false → Allows (Kept fits key slots) n me m word (λ _. deadline) (λ _. dated (step n word deadline 0 maybe.none) m deadline)
  deadline_at word deadline at closed =
      subst (λ (y : Me (Option (Taken R)) (View R K) × ℕ). Allows (Kept fits key slots) n me y.0 y.1 (λ _. deadline) (λ _. dated (step n y.1 deadline 0 maybe.none) y.0 deadline)) (λ i. (desk_shape i, (ap (λ (k : ℕ). slots + k) is.1 ∙ sym at) i))
      (stores_deadline fits key slots n me m.1 (the_desk m.0) deadline closed)

  pub waiting_at : (id new : ℕ) → new ≡ 4 * (id + 1) + 1 → (the_desk m.0).log.is_open ≡ false → (the_desk m.0).log.last ≤ id → id < 2 ^ 60 → slot_of slots id ≡ slot → Allows (Kept fits key slots) n me m slot (λ _. new) (λ _. opened (step n slot new 0 maybe.none) m new)
  waiting_at id new word closed above low place =
      subst (λ (y : Me (Option (Taken R)) (View R K) × ℕ × ℕ). Allows (Kept fits key slots) n me y.0 y.1 (λ _. y.2) (λ _. opened (step n y.1 y.2 0 maybe.none) y.0 y.2)) (λ i. (desk_shape i, is.1 i, sym word i))
      (stores_waiting fits key slots n me m.1 (the_desk m.0) id closed above low (place ∙ sym is.1))

  pub state_at : (the_desk m.0).log.is_open ≡ true → (the_desk m.0).taken ≡ None → Allows (Kept fits key slots) n me m slot (λ k. k) (looked fits (step n slot 0 0 maybe.none) m)
  state_at opens none =
      subst (λ (y : Me (Option (Taken R)) (View R K) × ℕ). Allows (Kept fits key slots) n me y.0 y.1 (λ k. k) (looked fits (step n y.1 0 0 maybe.none) y.0)) (λ i. (desk_shape i, is.1 i)) (loads_state fits key slots n me m.1 (the_desk m.0) opens none)

  pub lost_at : (word : ℕ) → word ≡ 2 * slots → Allows (Kept fits key slots) n me m word (λ k. k) (asked_lost (step n word 0 0 maybe.none) m)
  lost_at word at =
      subst (λ (y : Me (Option (Taken R)) (View R K) × ℕ). Allows (Kept fits key slots) n me y.0 y.1 (λ k. k) (asked_lost (step n y.1 0 0 maybe.none) y.0)) (λ i. (desk_shape i, sym at i)) (loads_lost fits key slots n me m.1 (the_desk m.0))

  pub free_at : (new : ℕ) (x : Taken R) (c : List (ℕ × Option (Taken R))) → new ≡ 4 * (the_desk m.0).log.last → (the_desk m.0).taken ≡ Some x → m.1 ≡ (slot, None) ∷ c → Allows (Kept fits key slots) n me m slot (λ _. new) (λ _. emptied (step n slot new 0 maybe.none) m new)
  free_at new x c word has holds =
      subst (λ (y : Me (Option (Taken R)) (View R K) × ℕ × ℕ). Allows (Kept fits key slots) n me y.0 y.1 (λ _. y.2) (λ _. emptied (step n y.1 y.2 0 maybe.none) y.0 y.2)) (λ i. ((sym is.0 i, ((λ j. (is.1 j, None) ∷ c) ∙ sym holds) i), is.1 i, sym word i))
      (stores_free fits key slots n me c (the_desk m.0) x has)

  pub left_at : (old new : ℕ) → old ≡ 4 * (the_desk m.0).log.last + 1 → new ≡ 4 * (the_desk m.0).log.last → (the_desk m.0).log.is_open ≡ true → (the_desk m.0).taken ≡ None
      → Allows (Kept fits key slots) n me m slot (λ k. either (eqb k old) new k) (left_id (step n slot old new maybe.none) m)
  left_at old new a b opens none =
      subst (λ (y : Me (Option (Taken R)) (View R K) × ℕ × ℕ × ℕ). Allows (Kept fits key slots) n me y.0 y.1 (λ k. either (eqb k y.2) y.3 k) (left_id (step n y.1 y.2 y.3 maybe.none) y.0)) (λ i. (desk_shape i, is.1 i, sym a i, sym b i))
      (leaves_id fits key slots n me m.1 (the_desk m.0) opens none)

  pub loses_at : (old new : ℕ) → old ≡ 4 * (the_desk m.0).log.last + 1 → new ≡ 4 * (the_desk m.0).log.last → (the_desk m.0).log.is_open ≡ true → (the_desk m.0).taken ≡ None → (the_desk m.0).log.reads.lost ≢ 0
      → Allows (Kept fits key slots) n me m slot (λ k. either (eqb k old) new k) (lost_id fits (step n slot old new maybe.none) m)
  loses_at old new a b opens none seen =
      subst (λ (y : Me (Option (Taken R)) (View R K) × ℕ × ℕ × ℕ). Allows (Kept fits key slots) n me y.0 y.1 (λ k. either (eqb k y.2) y.3 k) (lost_id fits (step n y.1 y.2 y.3 maybe.none) y.0)) (λ i. (desk_shape i, is.1 i, sym a i, sym b i))
      (loses_id fits key slots n me m.1 (the_desk m.0) opens none seen)

module _ {R K : Type 0} (fits : K → ℕ → R → Type 0) (key : K) (slots n me : ℕ) (m : Me (Option (Taken R)) (View R K)) (is : IsWindowOf key m.0) where
  window_shape : (one_window (Some key) (the_window m.0), m.1) ≡ m
  window_shape i = (sym is i, m.1)

  pub one_at : (slot : ℕ) → slot < slots → Allows (Kept fits key slots) n me m slot (λ k. k) (saw_one (step n slot 0 0 maybe.none) m)
  one_at slot low = subst (λ (y : Me (Option (Taken R)) (View R K)). Allows (Kept fits key slots) n me y slot (λ k. k) (saw_one (step n slot 0 0 maybe.none) y)) window_shape (loads_one fits key slots n me m.1 (the_window m.0) slot low)

  pub next_at : (slot : ℕ) → slot < slots → Allows (Kept fits key slots) n me m slot (λ k. k) (saw_next (step n slot 0 0 maybe.none) m)
  next_at slot low = subst (λ (y : Me (Option (Taken R)) (View R K)). Allows (Kept fits key slots) n me y slot (λ k. k) (saw_next (step n slot 0 0 maybe.none) y)) window_shape (loads_next fits key slots n me m.1 (the_window m.0) slot low)

  pub due_at : (slot word at : ℕ) (before : List Sight) → slot < slots → 4 ≤ word → at ≡ slots + slot → (the_window m.0).log.sights ≡ before ++ Word slot word ∷ [] → Allows (Kept fits key slots) n me m at (λ k. k) (saw_due (step n at 0 0 maybe.none) m)
  due_at slot word at before low begun there last =
      subst (λ (y : Me (Option (Taken R)) (View R K) × ℕ). Allows (Kept fits key slots) n me y.0 y.1 (λ k. k) (saw_due (step n y.1 0 0 maybe.none) y.0)) (λ i. (window_shape i, sym there i)) (loads_due fits key slots n me m.1 (the_window m.0) slot word before low begun last)

  pub offered_at : (slot id old new : ℕ) (x : Taken R) → slot < slots → old ≡ 4 * (id + 1) + 1 → new ≡ 4 * (id + 1) + 2 → (the_window m.0).giving ≡ None → IsOfferable fits key id x
      → Allows (Kept fits key slots) n me m slot (λ k. either (eqb k old) new k) (claimed_one (step n slot old new (maybe.some (Some x))) m)
  offered_at slot id old new x low a b idle may =
      subst (λ (y : Me (Option (Taken R)) (View R K) × ℕ × ℕ). Allows (Kept fits key slots) n me y.0 slot (λ k. either (eqb k y.1) y.2 k) (claimed_one (step n slot y.1 y.2 (maybe.some (Some x))) y.0)) (λ i. (window_shape i, sym a i, sym b i))
      (claims_offered fits key slots n me m.1 (the_window m.0) slot id x low idle may)

  pub scanned_at : (slot id old new deadline now : ℕ) (before : List Sight) → n ≡ slots → slot < slots → old ≡ 4 * (id + 1) + 1 → new ≡ 4 * (id + 1) + 2 → (the_window m.0).giving ≡ None → deadline ≤ now → (the_window m.0).log.sights ≡ before ++ Due slot id deadline ∷ []
      → Allows (Kept fits key slots) n me m slot (λ k. either (eqb k old) new k) (claimed_due (step n slot old new (maybe.some (Some (Timeout deadline now)))) m)
  scanned_at slot id old new deadline now before same low a b idle come last =
      subst (λ (y : Me (Option (Taken R)) (View R K) × ℕ × ℕ). Allows (Kept fits key slots) n me y.0 slot (λ k. either (eqb k y.1) y.2 k) (claimed_due (step n slot y.1 y.2 (maybe.some (Some (Timeout deadline now)))) y.0)) (λ i. (window_shape i, sym a i, sym b i))
      (claims_due fits key slots n me m.1 (the_window m.0) slot id deadline now before same low idle come last)

  pub done_at : (slot id new : ℕ) (x : Taken R) (c : List (ℕ × Option (Taken R))) → slot < slots → slot_of slots id ≡ slot → new ≡ 4 * (id + 1) + 3 → (the_window m.0).giving ≡ Some (id, x) → m.1 ≡ (slot, Some x) ∷ c
      → Allows (Kept fits key slots) n me m slot (λ _. new) (λ _. put (step n slot new 0 maybe.none) m new)
  done_at slot id new x c low place a has holds =
      subst (λ (y : Me (Option (Taken R)) (View R K) × ℕ). Allows (Kept fits key slots) n me y.0 slot (λ _. y.1) (λ _. put (step n slot y.1 0 maybe.none) y.0 y.1)) (λ i. ((sym is i, sym holds i), sym a i))
      (stores_done fits key slots n me c (the_window m.0) slot id x low place has)

  pub set_at : (word number : ℕ) → word ≡ 2 * slots → number ≢ 0 → Allows (Kept fits key slots) n me m word (λ k. either (eqb k 0) number k) (set_lost (step n word 0 number maybe.none) m)
  set_at word number at some =
      subst (λ (y : Me (Option (Taken R)) (View R K) × ℕ). Allows (Kept fits key slots) n me y.0 y.1 (λ k. either (eqb k 0) number k) (set_lost (step n y.1 0 number maybe.none) y.0)) (λ i. (window_shape i, sym at i)) (sets_lost fits key slots n me m.1 (the_window m.0) number some)

  -- the same where the step is told the value
  pub offered_said : (slot id old new : ℕ) (x : Taken R) (said : Option (Taken R)) → slot < slots → old ≡ 4 * (id + 1) + 1 → new ≡ 4 * (id + 1) + 2 → (the_window m.0).giving ≡ None → said ≡ Some x → IsOfferable fits key id x
      → Allows (Kept fits key slots) n me m slot (λ k. either (eqb k old) new k) (claimed_one (step n slot old new (maybe.some said)) m)
  offered_said slot id old new x said low a b idle e may = subst (λ (y : Option (Taken R)). Allows (Kept fits key slots) n me m slot (λ k. either (eqb k old) new k) (claimed_one (step n slot old new (maybe.some y)) m)) (sym e) (offered_at slot id old new x low a b idle may)

  pub scanned_said : (slot id old new deadline now : ℕ) (before : List Sight) (said : Option (Taken R)) → n ≡ slots → slot < slots → old ≡ 4 * (id + 1) + 1 → new ≡ 4 * (id + 1) + 2 → (the_window m.0).giving ≡ None → said ≡ Some (Timeout deadline now) → deadline ≤ now → (the_window m.0).log.sights ≡ before ++ Due slot id deadline ∷ []
      → Allows (Kept fits key slots) n me m slot (λ k. either (eqb k old) new k) (claimed_due (step n slot old new (maybe.some said)) m)
  scanned_said slot id old new deadline now before said same low a b idle e come last = subst (λ (y : Option (Taken R)). Allows (Kept fits key slots) n me m slot (λ k. either (eqb k old) new k) (claimed_due (step n slot old new (maybe.some y)) m)) (sym e) (scanned_at slot id old new deadline now before same low a b idle come last)
