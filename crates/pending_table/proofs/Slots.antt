-- The slots of a table, one of which changes.
use Rattle.std.proofs.Common.{◌≡◌, ◌≢◌, Some, ℕ, zero, suc, ◌/◌, ◌%◌, ◌<◌, List, [], ◌∷◌, ◌++◌, length, get_or, set, sym, refl, ap, ◌∙◌, subst, arith, mod-lt, true, true≢false}
use Rattle.pending_table.specs.Words.{slot_of, word_of}
use Rattle.pending_table.specs.DeskLogs.{blank_log}
use Rattle.pending_table.specs.Beside.{KeepsOthers}
use Rattle.pending_table.specs.PlainSlots.{found, shown}
use Rattle.pending_table.specs.PlainTables.{log_at, held_at, Puts, IsSameAt, AllUnused, Resolves, all_beside}
use Rattle.pending_table.specs.declared.answers.Offered.TheVariants as offered
use Rattle.pending_table.specs.declared.answers.Taken.{Taken}
use Rattle.pending_table.specs.declared.logs.WindowLog.{WindowLog}
use Rattle.pending_table.specs.declared.plain.held.Held.{Held}
use Rattle.pending_table.specs.declared.plain.held.Held.TheVariants.{Unused, Free, Waiting, Done}
use Rattle.pending_table.specs.declared.plain.slot.PlainSlot.{PlainSlot}
use Rattle.pending_table.specs.declared.word.SlotState.{SlotState}
use Rattle.pending_table.specs.declared.word.SlotState.TheVariants as state

module _ {R : Type 0} where
  pub log_here : (slots : List (PlainSlot R)) (i : ℕ) (s : PlainSlot R) → i < length slots → s ≡ get_or slots i s → log_at slots i ≡ s.log.value
  log_here [] i s inside e = absurd (omega arith)
  log_here (x ∷ xs) zero s inside e = ap (λ (y : PlainSlot R). y.log.value) (sym e)
  log_here (x ∷ xs) (suc i) s inside e = log_here xs i s (omega arith) e

  pub held_here : (slots : List (PlainSlot R)) (i : ℕ) (s : PlainSlot R) → i < length slots → s ≡ get_or slots i s → held_at slots i ≡ s.held
  held_here [] i s inside e = absurd (omega arith)
  held_here (x ∷ xs) zero s inside e = ap (λ (y : PlainSlot R). y.held) (sym e)
  held_here (x ∷ xs) (suc i) s inside e = held_here xs i s (omega arith) e

  pub log_set : (slots : List (PlainSlot R)) (i : ℕ) (s : PlainSlot R) → i < length slots → log_at (set slots i s) i ≡ s.log.value
  log_set [] i s inside = absurd (omega arith)
  log_set (x ∷ xs) zero s inside = refl
  log_set (x ∷ xs) (suc i) s inside = log_set xs i s (omega arith)

  pub held_set : (slots : List (PlainSlot R)) (i : ℕ) (s : PlainSlot R) → i < length slots → held_at (set slots i s) i ≡ s.held
  held_set [] i s inside = absurd (omega arith)
  held_set (x ∷ xs) zero s inside = refl
  held_set (x ∷ xs) (suc i) s inside = held_set xs i s (omega arith)

  pub set_others : (slots : List (PlainSlot R)) (i j : ℕ) (s : PlainSlot R) → j ≢ i → IsSameAt slots (set slots i s) j
  set_others [] i j s other = (refl, refl)
  set_others (x ∷ xs) zero zero s other = absurd (other refl)
  set_others (x ∷ xs) zero (suc j) s other = (refl, refl)
  set_others (x ∷ xs) (suc i) zero s other = (refl, refl)
  set_others (x ∷ xs) (suc i) (suc j) s other = set_others xs i j s (λ e. other (ap suc e))

  -- a slot was put back with this in it
  pub puts : (slots : List (PlainSlot R)) (i : ℕ) (s : PlainSlot R) (held : Held R) → i < length slots → s.held ≡ held → Puts i held slots (set slots i s)
  puts slots i s held inside is = record { here = held_set slots i s inside ∙ is; others = λ j other. set_others slots i j s other }

  -- only a slot that is there is open
  pub open_inside : (slots : List (PlainSlot R)) (i : ℕ) → (log_at slots i).is_open ≡ true → i < length slots
  open_inside [] i e = absurd (true≢false (sym e))
  open_inside (x ∷ xs) zero e = omega arith
  open_inside (x ∷ xs) (suc i) e = let inside = open_inside xs i e in omega arith

-- the slot of an id is there
pub placed : (slots id slot : ℕ) → 0 < slots → (id / 16) % slots ≡ slot → slot < slots
placed slots id slot some is = subst (λ (k : ℕ). k < slots) is (mod-lt (id / 16) some)

module _ {R : Type 0} where
  pub shown_waiting : (h : Held R) (id : ℕ) → shown h ≡ state.Waiting id → h ≡ Waiting id
  shown_waiting Unused id e = absurd (subst (λ (s : SlotState). word_of s ≡ 0 → ⊥) (sym e) (λ z. omega arith) refl)
  shown_waiting (Free i) id e = absurd (let w : word_of (state.Free i) ≡ word_of (state.Waiting id) = ap word_of e in omega arith)
  shown_waiting (Waiting i) id e = ap Waiting (let w : word_of (state.Waiting i) ≡ word_of (state.Waiting id) = ap word_of e in omega arith)
  shown_waiting (Done i x) id e = absurd (let w : word_of (state.Done i) ≡ word_of (state.Waiting id) = ap word_of e in omega arith)

  -- a slot was put back as it was
  pub unchanged : (slots : List (PlainSlot R)) (i : ℕ) (s : PlainSlot R) → i < length slots → s ≡ get_or slots i s → set slots i s ≡ slots
  unchanged [] i s inside e = absurd (omega arith)
  unchanged (x ∷ xs) zero s inside e = ap (λ (y : PlainSlot R). y ∷ xs) e
  unchanged (x ∷ xs) (suc i) s inside e = ap (λ (l : List (PlainSlot R)). x ∷ l) (unchanged xs i s (omega arith) e)

  pub unused_more : (slots new : List (PlainSlot R)) (s : PlainSlot R) → new ≡ slots ++ s ∷ [] → s.log.value ≡ blank_log → s.held ≡ Unused → AllUnused slots → AllUnused new
  unused_more slots new s is log held all = subst AllUnused (sym is) (more slots all)
    where
      more : (l : List (PlainSlot R)) → AllUnused l → AllUnused (l ++ s ∷ [])
      more [] all zero = (log, held)
      more [] all (suc n) = (refl, refl)
      more (x ∷ xs) all zero = all zero
      more (x ∷ xs) all (suc n) = more xs (λ k. all (suc k)) n

  -- an offer found another word in the slot of its id
  pub dropped_at : (slots : List (PlainSlot R)) (i id seen : ℕ) (s : PlainSlot R) → i ≡ slot_of (length slots) id → i < length slots → s ≡ get_or slots i s → seen ≡ word_of (shown s.held)
      → (seen ≡ word_of (shown (held_at slots (slot_of (length slots) id)))) × (set slots i s ≡ slots)
  dropped_at slots i id seen s is inside e saw =
      (subst (λ (k : ℕ). seen ≡ word_of (shown (held_at slots k))) is (saw ∙ ap (λ (h : Held R). word_of (shown h)) (sym (held_here slots i s inside e))), unchanged slots i s inside e)

  -- an offer resolved its id
  pub resolved_at : (slots : List (PlainSlot R)) (i id : ℕ) (given : Taken R) (s t : PlainSlot R) → i ≡ slot_of (length slots) id → i < length slots → s ≡ get_or slots i s
      → shown s.held ≡ state.Waiting id → t.held ≡ Done id given → t.log.value ≡ s.log.value → Resolves id given offered.Taken slots (set slots i t)
  resolved_at slots i id given s t is inside e waits held log =
      subst (λ (k : ℕ). (held_at slots k ≡ Waiting id) × Puts k (Done id given) slots (set slots i t) × (log_at (set slots i t) k ≡ log_at slots k)) is
      (held_here slots i s inside e ∙ shown_waiting s.held id waits, puts slots i t (Done id given) inside held, log_set slots i t inside ∙ (log ∙ sym (log_here slots i s inside e)))

  -- what lies beside a desk whose slot was put back
  pub keeps_others : (slots new : List (PlainSlot R)) (i lost : ℕ) (held : Held R) (window : WindowLog R) → Puts i held slots new → KeepsOthers i (all_beside slots lost window) (all_beside new lost window)
  keeps_others slots new i lost held window put = record {
    desks = λ j other. (put.others j other).0;
    nexts = λ j other. ap (λ (h : Held R). Some (found h lost)) (put.others j other).1;
    window = refl;
  }

  -- a slot whose record stays
  pub keeps_desks : (slots : List (PlainSlot R)) (i : ℕ) (s t : PlainSlot R) → i < length slots → s ≡ get_or slots i s → t.log.value ≡ s.log.value → (number : ℕ) → log_at (set slots i t) number ≡ log_at slots number
  keeps_desks [] i s t inside e log number = refl
  keeps_desks (x ∷ xs) zero s t inside e log zero = log ∙ ap (λ (y : PlainSlot R). y.log.value) e
  keeps_desks (x ∷ xs) zero s t inside e log (suc n) = refl
  keeps_desks (x ∷ xs) (suc i) s t inside e log zero = refl
  keeps_desks (x ∷ xs) (suc i) s t inside e log (suc n) = keeps_desks xs i s t (omega arith) e log n
