-- What a command reads: the whole input, or why it has none.
use Rattle.std.specs.Prelude.{◌≡◌, ℕ, ◌+◌, ◌≤◌, IsTrue, List, length}
use Rattle.dubbo_io.specs.Count.{Rose}
use Rattle.dubbo_io.specs.Source.{SourceState, GoesOn, GaveAtMost}

-- the most bytes of an input
abbrev pub input_limit : ℕ
input_limit = 4194304

-- the input gave exactly these bytes to its end, and they are no more than an input may have
pub record IsWhole {Badge : Type 0} (old new : SourceState Badge) (bytes : List ℕ) : Type 0 where
  pub goes_on : GoesOn old new bytes
  pub ended : IsTrue new.ended
  pub within : length bytes ≤ input_limit

-- the input gave one byte more than it may have, and no more
abbrev pub IsTooLong : {Badge : Type 0} → SourceState Badge → SourceState Badge → Type 0
IsTooLong old new = (bytes : List ℕ) × GoesOn old new bytes × (length bytes ≡ input_limit + 1)

-- the input failed, and this many of its faults are told
pub record InputFails {Badge : Type 0} (old new : SourceState Badge) (faults : ℕ) : Type 0 where
  pub within : GaveAtMost old new input_limit
  pub rose : Rose old.faults new.faults
  pub some : 1 ≤ faults
  pub told : faults ≤ new.faults
