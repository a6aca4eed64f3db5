-- What a scan has seen by the end of each slot.
use Rattle.std.specs.Prelude.{◌≡◌, ℕ, ◌==◌, if◌then◌else◌, []}
use Rattle.pending_table.specs.PlainTables.{sees}
use Rattle.pending_table.specs.WindowAnswers.{IsChecked}
use Rattle.pending_table.specs.WindowLogs.{saw_log}
use Rattle.pending_table.specs.declared.logs.Sight.{Sight}
use Rattle.pending_table.specs.declared.logs.WindowLog.{WindowLog}

module _ {R : Type 0} where
  -- the record as a scan comes to this slot: with the slot 0 it begins
  abbrev pub as_begun : ℕ → WindowLog R → WindowLog R
  as_begun slot log = saw_log (if slot == 0 then [] else log.sights) log

  -- the slot was checked, and its id claimed where it was seen due
  abbrev pub IsScannedAt : ℕ → ℕ → WindowLog R → WindowLog R → Type 0
  IsScannedAt now slot old new = (sight : Sight) × IsChecked now slot sight × (new ≡ sees (as_begun slot old) (sight, now))
