-- Why a source was not read to its end.
use Rattle.std.specs.Prelude.{◌≡◌, ℕ, ◌+◌, ◌≤◌, List, length}
use Rattle.dubbo_io.specs.Count.{Rose}
use Rattle.dubbo_io.specs.Source.{SourceState, GoesOn, GaveAtMost}
use Rattle.dubbo_io.specs.declared.reading.ReadFault.{ReadFault}
use Rattle.dubbo_io.specs.declared.reading.ReadFault.TheVariants.{Fault, TooLong, OutOfMemory}

-- when each refusal comes: `TooLong` alone is behind byte number limit + 1
abbrev pub StopsReading : {Badge : Type 0} → SourceState Badge → SourceState Badge → ℕ → ReadFault → Type 0
StopsReading old new limit (Fault faults) = GaveAtMost old new limit
    × Rose old.faults new.faults × (1 ≤ faults) × (faults ≤ new.faults)
StopsReading old new limit (TooLong stated) = (stated ≡ limit)
    × ((bytes : List ℕ) × GoesOn old new bytes × (length bytes ≡ limit + 1))
StopsReading old new limit OutOfMemory = GaveAtMost old new limit
