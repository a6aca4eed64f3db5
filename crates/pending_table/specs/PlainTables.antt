-- The table of one thread: what its desks and its window show, and what keeps it sound.
use Rattle.std.specs.Prelude.{◌≡◌, ◌≢◌, ℕ, zero, suc, Some, List, [], ◌∷◌, ◌++◌, length, slice_get}
use Rattle.pending_table.specs.Words.{slot_of, word_of}
use Rattle.pending_table.specs.Taken.{Suits}
use Rattle.pending_table.specs.Accounts.{IsClaimed, IsAccounted}
use Rattle.pending_table.specs.DeskLogs.{blank_log}
use Rattle.pending_table.specs.WindowLogs.{claimed_log, saw_log, set_log, kept_log, timeouts}
use Rattle.pending_table.specs.Beside.{Beside}
use Rattle.pending_table.specs.PlainSlots.{found, shown, held_after_scan}
use Rattle.pending_table.specs.declared.answers.Offered.{Offered}
use Rattle.pending_table.specs.declared.answers.Offered.TheVariants as offered
use Rattle.pending_table.specs.declared.answers.Taken.{Taken}
use Rattle.pending_table.specs.declared.logs.Claim.{Claim}
use Rattle.pending_table.specs.declared.logs.DeskLog.{DeskLog}
use Rattle.pending_table.specs.declared.logs.Sight.{Sight}
use Rattle.pending_table.specs.declared.logs.Sight.TheVariants as sight
use Rattle.pending_table.specs.declared.logs.WindowLog.{WindowLog}
use Rattle.pending_table.specs.declared.plain.held.Held.{Held}
use Rattle.pending_table.specs.declared.plain.held.Held.TheVariants.{Unused, Waiting, Done}
use Rattle.pending_table.specs.declared.plain.slot.PlainSlot.{PlainSlot}

module _ {R : Type 0} where
  -- what a window's record becomes at each step
  abbrev pub claims : WindowLog R → Claim R → WindowLog R
  claims log claim = claimed_log claim.id claim.given [] log

  abbrev pub drops : WindowLog R → ℕ × ℕ → WindowLog R
  drops log seen = saw_log (sight.Word seen.0 seen.1 ∷ []) log

  abbrev pub scans : WindowLog R → Unit {0} → WindowLog R
  scans log _ = saw_log [] log

  abbrev pub sees : WindowLog R → Sight × ℕ → WindowLog R
  sees log seen = record log { claims = log.claims ++ timeouts seen.1 (seen.0 ∷ []); sights = log.sights ++ seen.0 ∷ [] }

  abbrev pub sets : WindowLog R → ℕ → WindowLog R
  sets log number = set_log number log

  abbrev pub keeps : WindowLog R → ℕ → WindowLog R
  keeps log number = kept_log number log

  -- the record of the desk with this number
  abbrev pub log_at : List (PlainSlot R) → ℕ → DeskLog R
  log_at [] number = blank_log
  log_at (slot ∷ slots) zero = slot.log.value
  log_at (slot ∷ slots) (suc number) = log_at slots number

  -- what its slot holds
  abbrev pub held_at : List (PlainSlot R) → ℕ → Held R
  held_at [] number = Unused
  held_at (slot ∷ slots) zero = slot.held
  held_at (slot ∷ slots) (suc number) = held_at slots number

  -- what is told of the whole table
  abbrev pub all_beside : List (PlainSlot R) → ℕ → WindowLog R → Beside R
  all_beside slots lost window = record { desks = log_at slots; nexts = λ number. Some (found (held_at slots number) lost); window = window }

  -- no slot has been used
  abbrev pub AllUnused : List (PlainSlot R) → Type 0
  AllUnused slots = (number : ℕ) → (log_at slots number ≡ blank_log) × (held_at slots number ≡ Unused)

  -- this slot, and its desk, are as they were
  abbrev pub IsSameAt : List (PlainSlot R) → List (PlainSlot R) → ℕ → Type 0
  IsSameAt old new number = (log_at new number ≡ log_at old number) × (held_at new number ≡ held_at old number)

  -- a slot holds this now, and every other is as it was
  pub record Puts (number : ℕ) (held : Held R) (old new : List (PlainSlot R)) : Type 0 where
    pub here : held_at new number ≡ held
    pub others : (other : ℕ) → other ≢ number → IsSameAt old new other

  -- what an offer leaves in the slots
  abbrev pub Resolves : ℕ → Taken R → Offered R → List (PlainSlot R) → List (PlainSlot R) → Type 0
  Resolves id given offered.Taken old new =
      (held_at old (slot_of (length old) id) ≡ Waiting id)
      × Puts (slot_of (length old) id) (Done id given) old new
      × (log_at new (slot_of (length old) id) ≡ log_at old (slot_of (length old) id))
  Resolves id given (offered.Dropped seen back) old new =
      (seen ≡ word_of (shown (held_at old (slot_of (length old) id)))) × (new ≡ old)

  -- what a scan leaves in the slots
  abbrev pub IsScanned : ℕ → List (PlainSlot R) → List (PlainSlot R) → Type 0
  IsScanned now old new =
      (number : ℕ) → (log_at new number ≡ log_at old number)
      × (held_at new number ≡ held_after_scan now (log_at old number).deadline (held_at old number))

module _ {R K : Type 0} (fits : K → ℕ → R → Type 0) (key : K) where
  -- What lies in a slot suits the id there and was claimed by the window, and every end of the desk is backed by it.
  pub record Sits (window : WindowLog R) (slot : PlainSlot R) : Type 0 where
    pub suit : (id : ℕ) (given : Taken R) → slot.held ≡ Done id given → Suits fits key id slot.log.value.deadline given
    pub claimed : (id : ℕ) (given : Taken R) → slot.held ≡ Done id given → IsClaimed (window ∷ []) id given
    pub accounted : IsAccounted (window ∷ []) slot.log.value

  abbrev pub AllSit : WindowLog R → List (PlainSlot R) → Type 0
  AllSit window slots = (number : ℕ) (slot : PlainSlot R) → slice_get slots number ≡ Some slot → Sits window slot
