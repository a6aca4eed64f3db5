-- The statuses of the commands that wait for nobody: when each comes, and what is printed with it.
use Rattle.std.specs.Prelude.{◌≡◌, ℕ, ◌⊎◌, List}
use Rattle.dubbo_io.specs.Source.{SourceState, GaveAtMost}
use Rattle.dubbo_io.specs.Sink.{SinkState, Sends}
use Rattle.dubbo_main.specs.Words.{Names, HasNoReading}
use Rattle.dubbo_main.specs.FaultLines.{words_line, input_line, too_long_line, memory_line}
use Rattle.dubbo_main.specs.Input.{input_limit, IsWhole, IsTooLong, InputFails}
use Rattle.dubbo_main.specs.Generating.{IsGenerated}
use Rattle.dubbo_main.specs.PlainCommands.{Answers, ReadsInput}
use Rattle.dubbo_main.specs.declared.words.PlainCommand.{PlainCommand}
use Rattle.dubbo_main.specs.declared.words.PlainCommand.TheVariants.{Gen}
use Rattle.dubbo_main.specs.declared.words.Show.{Show}

-- these words and this input call for this status and this text. The status of an answer is 0, or 2 where the input is a
-- script that is refused, or 8 where it is damaged
pub data PlainCallsFor {Badge : Type 0} (words : List (List ℕ)) (old new : SourceState Badge) : ℕ → List ℕ → Type 0 where
  answered : (command : PlainCommand) (bytes : List ℕ) (status : ℕ) (text : List ℕ) → Names words command
      → IsWhole old new bytes → Answers command bytes status text → PlainCallsFor words old new status text
  generated : (calls : ℕ) (show : Show) (text : List ℕ) → Names words (Gen calls show)
      → new ≡ old → IsGenerated calls show text → PlainCallsFor words old new 0 text
  no_reading : HasNoReading words → new ≡ old → PlainCallsFor words old new 1 words_line
  input_failed : (command : PlainCommand) (faults : ℕ) → Names words command → ReadsInput command
      → InputFails old new faults → PlainCallsFor words old new 3 (input_line faults)
  no_memory : (command : PlainCommand) → Names words command → ReadsInput command
      → GaveAtMost old new input_limit → PlainCallsFor words old new 6 memory_line
  no_memory_made : (calls : ℕ) (show : Show) → Names words (Gen calls show)
      → new ≡ old → PlainCallsFor words old new 6 memory_line
  too_long : (command : PlainCommand) → Names words command → ReadsInput command
      → IsTooLong old new → PlainCallsFor words old new 7 too_long_line

-- at status 0, 2 and 8 the input gave bytes to its end, and exactly what a command answers to them was written
abbrev pub WritesAnswer : {B C : Type 0} → (List ℕ → ℕ → List ℕ → Type 0)
    → SourceState B → SourceState B → SinkState C → SinkState C → ℕ → Type 0
WritesAnswer Answered old new before now result = (result ≡ 0) ⊎ (result ≡ 2) ⊎ (result ≡ 8) → (bytes : List ℕ) × (text : List ℕ)
    × IsWhole old new bytes × Answered bytes result text × Sends before now text

-- at status 0 nothing of the input was read, and exactly what is generated was written
abbrev pub WritesGenerated : {B C : Type 0} → (List ℕ → Type 0)
    → SourceState B → SourceState B → SinkState C → SinkState C → ℕ → Type 0
WritesGenerated Generated old new before now result = result ≡ 0 → (text : List ℕ) × (new ≡ old) × Generated text × Sends before now text
