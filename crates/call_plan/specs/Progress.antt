-- How far a script has been read.
use Rattle.std.specs.Prelude.{◌≡◌, ℕ, ◌<◌, ◌≤◌, ◌++◌, List, [], ◌∷◌, length, All}
use Rattle.service_table.specs.declared.row.Row.{Row}
use Rattle.service_table.specs.Adding.{MayAdd}
use Rattle.call_plan.specs.declared.calls.Call.{Call}
use Rattle.call_plan.specs.declared.fault.ScriptFault.{ScriptFault}
use Rattle.call_plan.specs.declared.fault.ScriptFault.TheVariants.{BadLine, TooManyCalls, TooLarge, OutOfMemory}
use Rattle.call_plan.specs.LineForms.{Line, IsCallLine, IsServiceLine}
use Rattle.call_plan.specs.Size.{IsReady}
use Rattle.call_plan.specs.ScriptLines.{MOST_CALLS, lines_of, HaveLines, IsGoodLine, rows_in, calls_in}
use Rattle.call_plan.specs.ScriptReading.{IsRefusedAtLine}

-- one line more was taken: it is good, and its service or its call was added
pub record Takes (rows : List Row) (calls : List Call) (number : ℕ) (text : List ℕ) (rows_then : List Row) (calls_then : List Call) : Type 0 where
  pub line : Line
  pub good : IsGoodLine rows calls number text line
  pub rows_are : rows_then ≡ rows ++ rows_in line
  pub calls_are : calls_then ≡ calls ++ calls_in line

-- a line whose first word is `call` was taken
abbrev pub TakesCall : List Call → ℕ → List ℕ → List Call → Type 0
TakesCall calls number text calls_then = (call : Call) × IsCallLine number text call × (length calls < MOST_CALLS) × (calls_then ≡ calls ++ call ∷ [])

-- why a line whose first word is `call` wasn't taken
abbrev pub RefusesCall : List Call → ℕ → List ℕ → ScriptFault → Type 0
RefusesCall calls number text (BadLine line) = (line ≡ number) × (length calls < MOST_CALLS) × ((call : Call) → ¬ IsCallLine number text call)
RefusesCall calls number text (TooManyCalls line) = (line ≡ number) × (MOST_CALLS ≤ length calls)
RefusesCall calls number text (TooLarge line) = ⊥
RefusesCall calls number text OutOfMemory = Unit {0}

-- a line that names a service was taken
abbrev pub TakesService : List Row → List ℕ → List Row → Type 0
TakesService rows text rows_then = (row : Row) × IsServiceLine text row × MayAdd rows row × (rows_then ≡ rows ++ row ∷ [])

-- why a line that says no call and isn't skipped wasn't taken
abbrev pub RefusesService : List Row → ℕ → List ℕ → ScriptFault → Type 0
RefusesService rows number text (BadLine line) = (line ≡ number) × ((row : Row) → IsServiceLine text row → ¬ MayAdd rows row)
RefusesService rows number text (TooManyCalls line) = ⊥
RefusesService rows number text (TooLarge line) = ⊥
RefusesService rows number text OutOfMemory = Unit {0}

-- all lines have been read
pub record IsDraft (bytes : List ℕ) (rows : List Row) (calls : List Call) : Type 0 where
  pub good : HaveLines (lines_of bytes) rows calls
  pub ready : All IsReady calls

-- why the lines aren't read to their end
abbrev pub IsRefusedEarly : List ℕ → ScriptFault → Type 0
IsRefusedEarly bytes (BadLine line) = IsRefusedAtLine bytes (BadLine line)
IsRefusedEarly bytes (TooManyCalls line) = IsRefusedAtLine bytes (TooManyCalls line)
IsRefusedEarly bytes (TooLarge line) = ⊥
IsRefusedEarly bytes OutOfMemory = Unit {0}
