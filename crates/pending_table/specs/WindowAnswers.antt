-- What a window's calls do, by its records before and after.
use Rattle.std.specs.Prelude.{◌≡◌, ◌≢◌, ◌⊎◌, ℕ, ◌<◌, ◌≤◌, Some, List, [], ◌∷◌, length, slice_get}
use Rattle.pending_table.specs.Words.{word_of, slot_of, tag_in, WAITING_TAG}
use Rattle.pending_table.specs.WindowLogs.{saw_log, claimed_log, expired_log, set_log, kept_log}
use Rattle.pending_table.specs.declared.answers.Offered.{Offered}
use Rattle.pending_table.specs.declared.answers.Offered.TheVariants as offered
use Rattle.pending_table.specs.declared.answers.Taken.{Taken}
use Rattle.pending_table.specs.declared.logs.Sight.{Sight}
use Rattle.pending_table.specs.declared.logs.Sight.TheVariants.{Word, Due, Claimed, Missed}
use Rattle.pending_table.specs.declared.logs.WindowLog.{WindowLog}
use Rattle.pending_table.specs.declared.word.SlotState.TheVariants as state

-- What a scan at this moment has seen of a slot by its end: a word that shows no id waiting; a deadline
-- that is still to come; or one that has come, and the id was claimed or the claim found another word.
abbrev pub IsChecked : ℕ → ℕ → Sight → Type 0
IsChecked now slot (Word at word) = (at ≡ slot) × (tag_in word ≢ WAITING_TAG)
IsChecked now slot (Due at id deadline) = (at ≡ slot) × (now < deadline)
IsChecked now slot (Claimed at id deadline) = (at ≡ slot) × (deadline ≤ now)
IsChecked now slot (Missed at id deadline word) = (at ≡ slot) × (deadline ≤ now) × (word ≢ word_of (state.Waiting id))

module _ {R : Type 0} where
  -- Taken: the id was claimed with the value.
  -- Dropped: the value is back, its slot was seen with another word than that of the id waiting, and no id was claimed.
  abbrev pub Offers : ℕ → ℕ → Taken R → WindowLog R → Offered R → WindowLog R → Type 0
  Offers slots id given old offered.Taken new = (sights : List Sight) × (new ≡ claimed_log id given sights old)
  Offers slots id given old (offered.Dropped seen back) new =
      (back ≡ given) × (seen ≢ word_of (state.Waiting id)) × (new ≡ saw_log (Word (slot_of slots id) seen ∷ []) old)

  -- each slot was checked, and those ids were claimed that were seen due
  pub record Expires (slots now : ℕ) (old new : WindowLog R) : Type 0 where
    pub each : length new.sights ≡ slots
    pub checked : (slot : ℕ) (sight : Sight) → slice_get new.sights slot ≡ Some sight → IsChecked now slot sight
    pub claimed : new ≡ expired_log now new.sights old

  -- the number was set, which this window had not done before; or one was there already
  abbrev pub Loses : ℕ → WindowLog R → WindowLog R → Type 0
  Loses number old new =
      ((old.set ≡ 0) × (new ≡ set_log number old)) ⊎ ((other : ℕ) × (other ≢ 0) × (new ≡ kept_log other old))
