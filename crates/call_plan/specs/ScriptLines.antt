-- The lines of a script one behind the other: which services and calls they have, and which line can't stand where it is.
use Rattle.std.specs.Prelude.{◌≡◌, ℕ, suc, ◌<◌, ◌≤◌, ◌==◌, ◌++◌, List, [], ◌∷◌, length, cond}
use Rattle.service_table.specs.declared.row.Row.{Row}
use Rattle.service_table.specs.Adding.{MayAdd}
use Rattle.call_plan.specs.declared.calls.Call.{Call}
use Rattle.call_plan.specs.declared.fault.ScriptFault.{ScriptFault}
use Rattle.call_plan.specs.declared.fault.ScriptFault.TheVariants.{BadLine, TooManyCalls, TooLarge, OutOfMemory}
use Rattle.call_plan.specs.LineForms.{Line, nothing, offer, ask, Says, BeginsCall}

-- the most calls of a script
abbrev pub MOST_CALLS : ℕ
MOST_CALLS = 4096

-- the lines with one byte more at the front of the first
abbrev pub onto_first : ℕ → List (List ℕ) → List (List ℕ)
onto_first byte [] = (byte ∷ []) ∷ []
onto_first byte (line ∷ lines) = (byte ∷ line) ∷ lines

-- the lines, each ended by a line feed, which the last may lack
abbrev pub lines_of : List ℕ → List (List ℕ)
lines_of [] = []
lines_of (byte ∷ bytes) = cond (byte == 10) ([] ∷ lines_of bytes) (onto_first byte (lines_of bytes))

-- A line that says this may stand behind lines with these services and calls: a service that may be added to the rows, and a
-- call behind at most 4,095 others. Services may stand behind the calls that use them.
abbrev pub MayFollow : List Row → List Call → Line → Type 0
MayFollow rows calls nothing = Unit {0}
MayFollow rows calls (offer row) = MayAdd rows row
MayFollow rows calls (ask call) = length calls < MOST_CALLS

-- the line of this number says this, and may stand there
pub record IsGoodLine (rows : List Row) (calls : List Call) (number : ℕ) (text : List ℕ) (line : Line) : Type 0 where
  pub says : Says number text line
  pub placed : MayFollow rows calls line

-- the service and the call of a line
abbrev pub rows_in : Line → List Row
rows_in nothing = []
rows_in (offer row) = row ∷ []
rows_in (ask call) = []

abbrev pub calls_in : Line → List Call
calls_in nothing = []
calls_in (offer row) = []
calls_in (ask call) = call ∷ []

-- each line is good behind those before it, its number counted from 1, and these are their services and calls in order
pub data HaveLines : List (List ℕ) → List Row → List Call → Type 0 where
  none : HaveLines [] [] []
  more : (before : List (List ℕ)) (rows : List Row) (calls : List Call) (text : List ℕ) (line : Line) → HaveLines before rows calls
      → IsGoodLine rows calls (suc (length before)) text line → HaveLines (before ++ text ∷ []) (rows ++ rows_in line) (calls ++ calls_in line)

-- the line's first word is `call`, and as many calls stand before it as a script may have
pub record IsCallTooMany (calls : List Call) (text : List ℕ) : Type 0 where
  pub begins : BeginsCall text
  pub full : MOST_CALLS ≤ length calls

-- no line that says something may be like this, and it is no call too many
pub record IsBadLine (rows : List Row) (calls : List Call) (number : ℕ) (text : List ℕ) : Type 0 where
  pub never_good : (line : Line) → ¬ IsGoodLine rows calls number text line
  pub another : ¬ IsCallTooMany calls text

-- Why a line of this number can't stand behind lines with these services and calls. Want of memory may come at any line.
abbrev pub RefusesLine : List Row → List Call → ℕ → List ℕ → ScriptFault → Type 0
RefusesLine rows calls number text (BadLine line) = (line ≡ number) × IsBadLine rows calls number text
RefusesLine rows calls number text (TooManyCalls line) = (line ≡ number) × IsCallTooMany calls text
RefusesLine rows calls number text (TooLarge line) = ⊥
RefusesLine rows calls number text OutOfMemory = Unit {0}
