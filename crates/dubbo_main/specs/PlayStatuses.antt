-- The statuses of the command `play`: when each comes, and what is printed with it.
use Rattle.std.specs.Prelude.{◌≡◌, ℕ, List}
use Rattle.dubbo_io.specs.Source.{SourceState, GaveAtMost}
use Rattle.dubbo_io.specs.Sink.{SinkState, Sends}
use Rattle.dubbo_play.specs.FirstForm.{Call}
use Rattle.dubbo_play.specs.FirstScript.{Reads}
use Rattle.dubbo_play.specs.FirstTranscript.{transcript}
use Rattle.dubbo_main.specs.Words.{IsPlay}
use Rattle.dubbo_main.specs.FaultLines.{words_line, not_built_line, input_line, too_long_line, memory_line}
use Rattle.dubbo_main.specs.Input.{input_limit, IsWhole, IsTooLong, InputFails}
use Rattle.dubbo_main.specs.Play.{IsRefused}

-- these words and this input call for this status and this text: a row for each status
pub data CallsFor {Badge : Type 0} (words : List (List ℕ)) (old new : SourceState Badge) : ℕ → List ℕ → Type 0 where
  played : (bytes : List ℕ) (calls : List Call) → IsPlay words → IsWhole old new bytes → Reads bytes calls
      → CallsFor words old new 0 (transcript calls)
  other_words : ¬ IsPlay words → new ≡ old → CallsFor words old new 1 words_line
  refused : (line : ℕ) → IsPlay words → IsRefused old new line → CallsFor words old new 2 (not_built_line line)
  input_failed : (faults : ℕ) → IsPlay words → InputFails old new faults → CallsFor words old new 3 (input_line faults)
  no_memory : IsPlay words → GaveAtMost old new input_limit → CallsFor words old new 6 memory_line
  too_long : IsPlay words → IsTooLong old new → CallsFor words old new 7 too_long_line

-- the whole input is a script, and exactly the transcript of its calls was written: a line `k ok INT` for
-- each call in order with that call's own argument, and the summary
abbrev pub Plays : {B C : Type 0} → SourceState B → SourceState B → SinkState C → SinkState C → Type 0
Plays old new before now = (bytes : List ℕ) × (calls : List Call)
    × IsWhole old new bytes × Reads bytes calls × Sends before now (transcript calls)
