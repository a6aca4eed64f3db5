-- What the command `play` makes of its input, and why it makes nothing.
use Rattle.std.specs.Prelude.{◌≡◌, ℕ, List}
use Rattle.dubbo_io.specs.Source.{SourceState, GaveAtMost}
use Rattle.dubbo_play.specs.FirstForm.{Call}
use Rattle.dubbo_play.specs.FirstScript.{Reads, IsFirstOther}
use Rattle.dubbo_play.specs.FirstTranscript.{transcript}
use Rattle.dubbo_main.specs.Input.{input_limit, IsWhole, IsTooLong, InputFails}
use Rattle.dubbo_main.specs.declared.commands.play.PlayFault.{PlayFault}
use Rattle.dubbo_main.specs.declared.commands.play.PlayFault.TheVariants.{Input, TooLong, NotBuilt, OutOfMemory}

-- the bytes are a script, and this text is printed of its calls
abbrev pub IsTranscript : List ℕ → List ℕ → Type 0
IsTranscript bytes text = (calls : List Call) × Reads bytes calls × (text ≡ transcript calls)

-- the whole input is a script, and this text is printed of its calls
abbrev pub Transcribes : {Badge : Type 0} → SourceState Badge → SourceState Badge → List ℕ → Type 0
Transcribes old new text = (bytes : List ℕ) × IsWhole old new bytes × IsTranscript bytes text

-- the whole input is no script: this line is the first that is of no form that is built
abbrev pub IsRefused : {Badge : Type 0} → SourceState Badge → SourceState Badge → ℕ → Type 0
IsRefused old new line = (bytes : List ℕ) × IsWhole old new bytes × IsFirstOther bytes line

-- why nothing is played
abbrev pub StopsPlaying : {Badge : Type 0} → SourceState Badge → SourceState Badge → PlayFault → Type 0
StopsPlaying old new (Input faults) = InputFails old new faults
StopsPlaying old new TooLong = IsTooLong old new
StopsPlaying old new (NotBuilt line) = IsRefused old new line
StopsPlaying old new OutOfMemory = GaveAtMost old new input_limit

-- why these bytes are not played
abbrev pub RefusesScript : List ℕ → PlayFault → Type 0
RefusesScript bytes (Input faults) = ⊥
RefusesScript bytes TooLong = ⊥
RefusesScript bytes (NotBuilt line) = IsFirstOther bytes line
RefusesScript bytes OutOfMemory = Unit {0}
