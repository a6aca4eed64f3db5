-- How the ends at the desks of a table rest on what its windows did.
use Rattle.std.specs.Prelude.{◌≡◌, ◌≢◌, ℕ, Some, List, slice_get}
use Rattle.pending_table.specs.WindowLogs.{claim}
use Rattle.pending_table.specs.declared.answers.Taken.{Taken}
use Rattle.pending_table.specs.declared.logs.DeskLog.{DeskLog}
use Rattle.pending_table.specs.declared.logs.End.{End}
use Rattle.pending_table.specs.declared.logs.End.TheVariants.{Ready, Lost, Freed}
use Rattle.pending_table.specs.declared.logs.Ended.{Ended}
use Rattle.pending_table.specs.declared.logs.WindowLog.{WindowLog}

module _ {R : Type 0} where
  -- one of the windows claimed the id with this value
  abbrev pub IsClaimed : List (WindowLog R) → ℕ → Taken R → Type 0
  IsClaimed windows id given =
      (number : ℕ) × (window : WindowLog R) × (slice_get windows number ≡ Some window)
      × ((place : ℕ) × (slice_get window.claims place ≡ Some (claim id given)))

  -- one of the windows set this number as lost
  abbrev pub IsSet : List (WindowLog R) → ℕ → Type 0
  IsSet windows lost = (number : ℕ) × (window : WindowLog R) × (slice_get windows number ≡ Some window) × (window.set ≡ lost)

  -- a value stands among the claims of a window, and the number of a loss is that which a window set
  abbrev pub IsBacked : List (WindowLog R) → ℕ → End R → Type 0
  IsBacked windows id (Ready given) = IsClaimed windows id given
  IsBacked windows id (Lost number) = (number ≢ 0) × IsSet windows number
  IsBacked windows id Freed = Unit {0}

  -- every end of a desk is backed
  abbrev pub IsAccounted : List (WindowLog R) → DeskLog R → Type 0
  IsAccounted windows log = (place : ℕ) (end : Ended R) → slice_get log.ended place ≡ Some end → IsBacked windows end.id end.end
