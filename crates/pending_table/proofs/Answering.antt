-- What a desk's calls answer, from what lies in its slot.
use Rattle.std.proofs.Common.{◌≡◌, ℕ, zero, suc, ◌+◌, ◌<◌, inr, Option, Some, None, Bool, true, true≢false, List, length, get_or, set, sym, refl, ap, ◌∙◌, subst, arith}
use Rattle.pending_table.specs.Words.{word_of, last_of}
use Rattle.pending_table.specs.Taken.{Suits}
use Rattle.pending_table.specs.DeskLogs.{open_id, state_read, lost_read}
use Rattle.pending_table.specs.DeskAnswers.{Looks, Leaves}
use Rattle.pending_table.specs.PlainSlots.{shown, is_open_of, found, looked, left, leaves}
use Rattle.pending_table.specs.PlainTables.{log_at, held_at}
use Rattle.pending_table.proofs.Slots.{held_here, log_here, log_set}
use Rattle.pending_table.specs.declared.answers.Abandoned.{Abandoned}
use Rattle.pending_table.specs.declared.answers.Look.{Look}
use Rattle.pending_table.specs.declared.answers.Taken.{Taken}
use Rattle.pending_table.specs.declared.logs.DeskLog.{DeskLog}
use Rattle.pending_table.specs.declared.plain.held.Held.{Held}
use Rattle.pending_table.specs.declared.plain.held.Held.TheVariants.{Unused, Free, Waiting, Done}
use Rattle.pending_table.specs.declared.plain.slot.PlainSlot.{PlainSlot}
use Rattle.pending_table.specs.declared.word.SlotState.TheVariants as state

module _ {R : Type 0} where
  -- the desk of a slot is open where its record says so
  pub open_here : (slots : List (PlainSlot R)) (i : ℕ) (s : PlainSlot R) (b : Bool) → i < length slots → s ≡ get_or slots i s → (log_at slots i).is_open ≡ b → s.log.value.is_open ≡ b
  open_here slots i s b inside e is = ap (λ (d : DeskLog R). d.is_open) (sym (log_here slots i s inside e)) ∙ is

  leave_by : (d : DeskLog R) (h : Held R) → is_open_of h ≡ true → Leaves d (left h) (leaves h d)
  leave_by d Unused is = absurd (true≢false (sym is))
  leave_by d (Free id) is = absurd (true≢false (sym is))
  leave_by d (Waiting id) is = (state_read (word_of (state.Waiting (open_id d))) d.reads, (omega arith, refl), refl)
  leave_by d (Done id x) is = (state_read (word_of (state.Done (open_id d))) d.reads, inr (omega arith, refl), refl)

  pub leave_at : (slots : List (PlainSlot R)) (i : ℕ) (s t : PlainSlot R) (answer : Abandoned) → i < length slots → s ≡ get_or slots i s → (log_at slots i).is_open ≡ true
      → answer ≡ left s.held → t.log.value ≡ leaves s.held s.log.value → Leaves (log_at slots i) answer (log_at (set slots i t) i)
  leave_at slots i s t answer inside e is said log =
      subst (λ (y : DeskLog R × Abandoned × DeskLog R). Leaves y.0 y.1 y.2) (λ j. (sym (log_here slots i s inside e) j, sym said j, sym (log_set slots i t inside ∙ log) j))
      (leave_by s.log.value s.held (sym s.open_is ∙ open_here slots i s true inside e is))

module _ {R K : Type 0} (fits : K → ℕ → R → Type 0) (key : K) where
  look_by : (s : PlainSlot R) (h : Held R) (lost : ℕ) → s.held ≡ h → is_open_of h ≡ true → ((id : ℕ) (x : Taken R) → s.held ≡ Done id x → Suits fits key id s.log.value.deadline x)
      → Looks fits key s.log.value (found h lost) (looked h lost s.log.value)
  look_by s Unused lost held is suit = absurd (true≢false (sym is))
  look_by s (Free id) lost held is suit = absurd (true≢false (sym is))
  look_by s (Waiting id) zero held is suit =
      let d : DeskLog R = s.log.value in (lost_read 0 (state_read (word_of (state.Waiting (open_id d))) d.reads), inr ((omega arith, refl), (omega arith, refl)), refl)
  look_by s (Waiting id) (suc n) held is suit =
      let d : DeskLog R = s.log.value in ((λ e. omega arith), (lost_read (suc n) (state_read (word_of (state.Waiting (open_id d))) d.reads), (omega arith, refl), (omega arith, refl), refl))
  look_by s (Done id x) lost held is suit =
      let d : DeskLog R = s.log.value in
      let last : d.last ≡ id + 1 = s.last_is ∙ ap (λ (h : Held R). last_of (shown h)) held in
      let own : id ≡ open_id d = omega arith in
      (subst (λ (k : ℕ). Suits fits key k d.deadline x) own (suit id x held), (state_read (word_of (state.Done (open_id d))) d.reads, (omega arith, refl), refl))

  pub look_at : (slots : List (PlainSlot R)) (i lost : ℕ) (s t : PlainSlot R) (answer : Look R) → i < length slots → s ≡ get_or slots i s → (log_at slots i).is_open ≡ true
      → ((id : ℕ) (x : Taken R) → s.held ≡ Done id x → Suits fits key id s.log.value.deadline x)
      → answer ≡ found s.held lost → t.log.value ≡ looked s.held lost s.log.value → Looks fits key (log_at slots i) answer (log_at (set slots i t) i)
  look_at slots i lost s t answer inside e is suit said log =
      subst (λ (y : DeskLog R × Look R × DeskLog R). Looks fits key y.0 y.1 y.2) (λ j. (sym (log_here slots i s inside e) j, sym said j, sym (log_set slots i t inside ∙ log) j))
      (look_by s s.held lost refl (sym s.open_is ∙ open_here slots i s true inside e is) suit)

module _ {R : Type 0} where
  -- the answer is the one that what lay there foretold
  pub look_told : (slots : List (PlainSlot R)) (i lost : ℕ) (s : PlainSlot R) (answer : Look R) → i < length slots → s ≡ get_or slots i s → answer ≡ found s.held lost
      → (told : Look R) → Some (found (held_at slots i) lost) ≡ Some told → answer ≡ told
  look_told slots i lost s answer inside e said told is =
      said ∙ (ap (λ (h : Held R). found h lost) (sym (held_here slots i s inside e)) ∙ ap (λ (o : Option (Look R)). elim o as (λ _. Look R) [ None ↦ answer | Some y ↦ y ]) is)
