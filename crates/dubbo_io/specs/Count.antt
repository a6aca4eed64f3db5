-- Counts that never fall: of the bytes given, and of the faults.
use Rattle.std.specs.Prelude.{ℕ, ◌+◌, ◌-◌, ◌^◌, ◌≤◌, min}

-- the last value of a count; one that stands there stays there
abbrev pub last_count : ℕ
last_count = 2 ^ 62 - 1

-- the count rose, or stands at its last value
abbrev pub Rose : ℕ → ℕ → Type 0
Rose before now = min (before + 1) last_count ≤ now
