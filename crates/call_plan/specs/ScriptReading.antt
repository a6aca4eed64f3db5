-- Which bytes are a script, what it has, and why other bytes are refused.
use Rattle.std.specs.Prelude.{◌≡◌, ℕ, suc, ◌++◌, ◌≤◌, List, ◌∷◌, length, All}
use Rattle.service_table.specs.declared.row.Row.{Row}
use Rattle.call_plan.specs.declared.calls.Call.{Call}
use Rattle.call_plan.specs.declared.fault.ScriptFault.{ScriptFault}
use Rattle.call_plan.specs.declared.fault.ScriptFault.TheVariants.{BadLine, TooManyCalls, TooLarge, OutOfMemory}
use Rattle.call_plan.specs.Size.{IsFit, IsSmall, IsFirstLarge}
use Rattle.call_plan.specs.ScriptLines.{MOST_CALLS, lines_of, HaveLines, RefusesLine}

-- a script: its services and its calls, each in the order of their lines
pub record Plan : Type 0 where
  pub services : List Row
  pub calls : List Call

-- the bytes are a script with these services and calls
pub record IsScript (bytes : List ℕ) (plan : Plan) : Type 0 where
  pub lines : HaveLines (lines_of bytes) plan.services plan.calls
  pub small : All IsSmall plan.calls

-- the first line that can't stand where it is, and why
pub record IsRefusedAtLine (bytes : List ℕ) (fault : ScriptFault) : Type 0 where
  pub before : List (List ℕ)
  pub text : List ℕ
  pub after : List (List ℕ)
  pub rows : List Row
  pub calls : List Call
  pub cut : lines_of bytes ≡ before ++ text ∷ after
  pub good : HaveLines before rows calls
  pub refused : RefusesLine rows calls (suc (length before)) text fault

-- all lines can stand where they are, and the first call whose request is too large has this line
pub record IsTooLargeAt (bytes : List ℕ) (line : ℕ) : Type 0 where
  pub rows : List Row
  pub calls : List Call
  pub lines : HaveLines (lines_of bytes) rows calls
  pub first : IsFirstLarge calls line

-- why bytes are no script; memory may be wanting at any bytes
abbrev pub Refuses : List ℕ → ScriptFault → Type 0
Refuses bytes (BadLine line) = IsRefusedAtLine bytes (BadLine line)
Refuses bytes (TooManyCalls line) = IsRefusedAtLine bytes (TooManyCalls line)
Refuses bytes (TooLarge line) = IsTooLargeAt bytes line
Refuses bytes OutOfMemory = Unit {0}

-- what holds of every script
pub record IsFitPlan (plan : Plan) : Type 0 where
  pub few : length plan.calls ≤ MOST_CALLS
  pub each : All IsFit plan.calls
