-- Which bytes are a script of the first form, which calls it has, and where other bytes leave the form.
use Rattle.std.specs.Prelude.{◌≡◌, ℕ, ◌≤◌, ◌+◌, ◌==◌, ◌++◌, List, [], ◌∷◌, length, cond}
use Rattle.std.specs.List.{Contains}
use Rattle.dubbo_play.specs.FirstForm.{Call, Line, Says, service_line, calls_in}
use Rattle.dubbo_play.specs.FirstForm.Line.{nothing, service, call}
use Rattle.dubbo_play.specs.declared.first_script.FirstFault.{FirstFault}
use Rattle.dubbo_play.specs.declared.first_script.FirstFault.TheVariants.{NotBuilt, OutOfMemory}

-- the lines with one byte more at the front of the first
abbrev pub onto_first : ℕ → List (List ℕ) → List (List ℕ)
onto_first byte [] = (byte ∷ []) ∷ []
onto_first byte (line ∷ lines) = (byte ∷ line) ∷ lines

-- the lines, each ended by a line feed, which the last may lack
abbrev pub lines_of : List ℕ → List (List ℕ)
lines_of [] = []
lines_of (byte ∷ bytes) = cond (byte == 10) ([] ∷ lines_of bytes) (onto_first byte (lines_of bytes))

-- a line that says this may stand behind these lines, which have so many calls:
-- a service is named once, and a call follows its service and at most 4,095 other calls
abbrev pub MayFollow : List (List ℕ) → ℕ → Line → Type 0
MayFollow before count nothing = Unit {0}
MayFollow before count (service path method) = ¬ Contains before (service_line path method)
MayFollow before count (call c) = Contains before (service_line c.path c.method) × (count ≤ 4095)

-- the line is of the first form behind these lines, and says this
pub record IsOfFirstForm (before : List (List ℕ)) (count : ℕ) (line : List ℕ) (says : Line) : Type 0 where
  pub written : Says line says
  pub placed : MayFollow before count says

-- each of the lines is of the first form behind those before it, and these are their calls in order
pub data HaveCalls : List (List ℕ) → List Call → Type 0 where
  none : HaveCalls [] []
  more : (before : List (List ℕ)) (calls : List Call) (line : List ℕ) (says : Line) → HaveCalls before calls
      → IsOfFirstForm before (length calls) line says → HaveCalls (before ++ line ∷ []) (calls ++ calls_in says)

-- the bytes are a script of the first form with these calls in order
abbrev pub Reads : List ℕ → List Call → Type 0
Reads bytes calls = HaveCalls (lines_of bytes) calls

-- line `number`, counted from 1, is the first that isn't of the first form
pub record IsFirstOther (bytes : List ℕ) (number : ℕ) : Type 0 where
  pub before : List (List ℕ)
  pub line : List ℕ
  pub after : List (List ℕ)
  pub calls : List Call
  pub cut : lines_of bytes ≡ before ++ line ∷ after
  pub counted : number ≡ length before + 1
  pub good : HaveCalls before calls
  pub other : (says : Line) → ¬ IsOfFirstForm before (length calls) line says

-- why bytes are refused; memory may be wanting at any bytes
abbrev pub Refuses : List ℕ → FirstFault → Type 0
Refuses bytes (NotBuilt line) = IsFirstOther bytes line
Refuses bytes OutOfMemory = Unit {0}
