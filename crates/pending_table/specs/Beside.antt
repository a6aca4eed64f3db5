-- What lies beside a desk or a window in a table that one thread holds. Among threads nothing of it is told.
use Rattle.std.specs.Prelude.{◌≡◌, ◌≢◌, ◌⊎◌, ℕ, true, Option, Some, None}
use Rattle.pending_table.specs.DeskLogs.{blank_log}
use Rattle.pending_table.specs.WindowLogs.{blank_window}
use Rattle.pending_table.specs.declared.answers.Look.{Look}
use Rattle.pending_table.specs.declared.answers.Look.TheVariants as look
use Rattle.pending_table.specs.declared.logs.DeskLog.{DeskLog}
use Rattle.pending_table.specs.declared.logs.WindowLog.{WindowLog}

-- the record of each desk by its number, what its next look answers, and the record of the window
pub record Beside (R : Type 0) : Type 0 where
  pub desks : ℕ → DeskLog R
  pub nexts : ℕ → Option (Look R)
  pub window : WindowLog R

module _ {R : Type 0} where
  -- among threads nothing is told
  abbrev pub untold : Beside R
  untold = record { desks = λ _. blank_log; nexts = λ _. None; window = blank_window }

  -- every other desk, and the window, are as they were
  pub record KeepsOthers (number : ℕ) (old new : Beside R) : Type 0 where
    pub desks : (other : ℕ) → other ≢ number → new.desks other ≡ old.desks other
    pub nexts : (other : ℕ) → other ≢ number → new.nexts other ≡ old.nexts other
    pub window : new.window ≡ old.window

  -- the next look, where it is told, isn't pending
  abbrev pub IsDecided : Option (Look R) → Type 0
  IsDecided None = Unit {0}
  IsDecided (Some (look.Ready given)) = Unit {0}
  IsDecided (Some look.Pending) = ⊥
  IsDecided (Some (look.Lost number)) = Unit {0}

  -- an open desk whose next look was decided, or whose number is named, is decided now
  abbrev pub Decides : (ℕ → Type 0) → Beside R → Beside R → Type 0
  Decides named old new =
      (number : ℕ) → (old.desks number).is_open ≡ true → IsDecided (old.nexts number) ⊎ named number → IsDecided (new.nexts number)

  -- the records of all desks are as they were
  abbrev pub KeepsDesks : Beside R → Beside R → Type 0
  KeepsDesks old new = (number : ℕ) → new.desks number ≡ old.desks number
