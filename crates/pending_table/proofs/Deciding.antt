-- Whose next look a window's call decides.
use Rattle.std.proofs.Common.{◌≡◌, ◌≢◌, ℕ, zero, suc, ◌≤◌, ◌⊎◌, ⊎_elim, Some, Bool, true, false, true≢false, if◌then◌else◌, nat_lt, List, [], ◌∷◌, length, sym, refl, ap, ◌∙◌, subst, arith}
use Rattle.std.specs.Prelude.{⊤}
use Rattle.std.proofs.lemmas.Bool.{ltb-true}
use Rattle.pending_table.specs.Beside.{IsDecided, Decides}
use Rattle.pending_table.specs.PlainSlots.{is_open_of, found, held_after_scan}
use Rattle.pending_table.specs.PlainTables.{log_at, held_at, all_beside, IsScanned, Resolves}
use Rattle.pending_table.specs.Words.{slot_of}
use Rattle.pending_table.proofs.Scanning.{same_or}
use Rattle.pending_table.specs.declared.answers.Offered.{Offered}
use Rattle.pending_table.specs.declared.answers.Offered.TheVariants as offered
use Rattle.pending_table.specs.declared.answers.Taken.{Taken}
use Rattle.pending_table.specs.declared.answers.Taken.TheVariants.{Timeout}
use Rattle.pending_table.specs.declared.logs.WindowLog.{WindowLog}
use Rattle.pending_table.specs.declared.plain.held.Held.{Held}
use Rattle.pending_table.specs.declared.plain.held.Held.TheVariants.{Unused, Free, Waiting, Done}
use Rattle.pending_table.specs.declared.plain.slot.PlainSlot.{PlainSlot}

by_scan : (R : Type 0) (now deadline lost id : ℕ) (b : Bool) → nat_lt now deadline ≡ b → IsDecided {R = R} (Some (found (Waiting id) lost)) ⊎ (deadline ≤ now)
    → IsDecided {R = R} (Some (found (if b then Waiting id else Done id (Timeout deadline now)) lost))
by_scan R now deadline zero id true is why = ⊎_elim (λ e. e) (λ le. let lt = ltb-true now deadline is in absurd (omega arith)) why
by_scan R now deadline (suc n) id true is why = tt
by_scan R now deadline lost id false is why = tt

module _ {R : Type 0} where
  open_held : (slots : List (PlainSlot R)) (number : ℕ) → (log_at slots number).is_open ≡ true → is_open_of (held_at slots number) ≡ true
  open_held [] number is = absurd (true≢false (sym is))
  open_held (x ∷ xs) zero is = sym x.open_is ∙ is
  open_held (x ∷ xs) (suc n) is = open_held xs n is

  scan_decides : (now deadline lost : ℕ) (h : Held R) → is_open_of h ≡ true → IsDecided (Some (found h lost)) ⊎ (deadline ≤ now) → IsDecided (Some (found (held_after_scan now deadline h) lost))
  scan_decides now deadline lost Unused is why = absurd (true≢false (sym is))
  scan_decides now deadline lost (Free id) is why = absurd (true≢false (sym is))
  scan_decides now deadline lost (Waiting id) is why = by_scan R now deadline lost id (nat_lt now deadline) refl why
  scan_decides now deadline lost (Done id x) is why = tt

  pub scanned_decides : (now lost : ℕ) (old new : List (PlainSlot R)) (v w : WindowLog R) → IsScanned now old new → Decides (λ number. (log_at old number).deadline ≤ now) (all_beside old lost v) (all_beside new lost w)
  scanned_decides now lost old new v w scanned number is why =
      subst (λ (h : Held R). IsDecided (Some (found h lost))) (sym (scanned number).1) (scan_decides now (log_at old number).deadline lost (held_at old number) (open_held old number is) why)

  loss_decides : (lost : ℕ) (h : Held R) → lost ≢ 0 → is_open_of h ≡ true → IsDecided (Some (found h lost))
  loss_decides lost Unused some is = absurd (true≢false (sym is))
  loss_decides lost (Free id) some is = absurd (true≢false (sym is))
  loss_decides zero (Waiting id) some is = absurd (some refl)
  loss_decides (suc n) (Waiting id) some is = tt
  loss_decides lost (Done id x) some is = tt

  pub lost_decides : (before lost : ℕ) (slots : List (PlainSlot R)) (v w : WindowLog R) → lost ≢ 0 → Decides (λ _. ⊤) (all_beside slots before v) (all_beside slots lost w)
  lost_decides before lost slots v w some number is why = loss_decides lost (held_at slots number) some (open_held slots number is)

  dropped_taken : (seen : ℕ) (back : Taken R) → offered.Dropped seen back ≡ offered.Taken → ⊥
  dropped_taken seen back e = subst (λ (o : Offered R). elim o as (λ _. Type 0) [ offered.Taken ↦ ⊥ | offered.Dropped s b ↦ Unit {0} ]) e tt

  pub offered_decides : (id lost : ℕ) (given : Taken R) (answer : Offered R) (old new : List (PlainSlot R)) (v w : WindowLog R) → Resolves id given answer old new
      → Decides (λ number. (answer ≡ offered.Taken) × (number ≡ slot_of (length old) id)) (all_beside old lost v) (all_beside new lost w)
  offered_decides id lost given offered.Taken old new v w resolved number is why =
      ⊎_elim (λ same. subst (λ (h : Held R). IsDecided (Some (found h lost))) (sym (ap (held_at new) same ∙ resolved.1.here)) tt)
      (λ other. ⊎_elim (λ decided. subst (λ (h : Held R). IsDecided (Some (found h lost))) (sym (resolved.1.others number other).1) decided) (λ named. absurd (other named.1)) why)
      (same_or number (slot_of (length old) id))
  offered_decides id lost given (offered.Dropped seen back) old new v w resolved number is why =
      ⊎_elim (λ decided. subst (λ (l : List (PlainSlot R)). IsDecided (Some (found (held_at l number) lost))) (sym resolved.1) decided) (λ named. absurd (dropped_taken seen back named.0)) why
