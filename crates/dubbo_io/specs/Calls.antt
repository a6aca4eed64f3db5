-- The calls of an end in memory: which of them fail, how many were made, and how many bytes one moves at most.
use Rattle.std.specs.Prelude.{ℕ, ◌+◌, ◌-◌, ◌^◌, List, min, Contains}

pub record Calls : Type 0 where
  -- the numbers of the calls that fail, counted from 1
  pub failing : List ℕ
  -- how many calls were counted
  pub made : ℕ
  -- how many bytes a call moves at most, where this isn't 0
  pub cut : ℕ

-- no call was made yet
abbrev pub before_calls : List ℕ → ℕ → Calls
before_calls failing cut = record { failing = failing; made = 0; cut = cut }

-- the next call is one of those that fail
abbrev pub NextFails : Calls → Type 0
NextFails calls = Contains calls.failing (calls.made + 1)

-- one call more was made; the count is a 64-bit number, and stays at its last value
abbrev pub after_call : Calls → Calls
after_call calls = record {
  failing = calls.failing;
  made = min (calls.made + 1) (2 ^ 64 - 1);
  cut = calls.cut;
}
