-- What a command that waits for nobody answers to its whole input.
use Rattle.std.specs.Prelude.{ℕ, List}
use Rattle.dubbo_main.specs.Decoding.{DecodeAnswers}
use Rattle.dubbo_main.specs.Directing.{DirectAnswers}
use Rattle.dubbo_main.specs.Encoding.{EncodeAnswers}
use Rattle.dubbo_main.specs.Framing.{FramesAnswers}
use Rattle.dubbo_main.specs.RingLines.{RingAnswers}
use Rattle.dubbo_main.specs.declared.words.PlainCommand.{PlainCommand}
use Rattle.dubbo_main.specs.declared.words.PlainCommand.TheVariants.{Decode, Direct, Encode, Frames, Gen, Ring}
use Rattle.dubbo_main.specs.declared.commands.answer.Answer.{Answer}
use Rattle.dubbo_main.specs.declared.commands.answer.Answer.TheVariants.{Done, Refused, Damaged}

-- to these bytes the command answers this status and this text; `gen` reads no input
abbrev pub Answers : PlainCommand → List ℕ → ℕ → List ℕ → Type 0
Answers (Decode roots) bytes status text = DecodeAnswers roots bytes status text
Answers Direct bytes status text = DirectAnswers bytes status text
Answers Encode bytes status text = EncodeAnswers bytes status text
Answers Frames bytes status text = FramesAnswers bytes status text
Answers (Gen calls show) bytes status text = ⊥
Answers Ring bytes status text = RingAnswers bytes status text

-- the command reads its input
abbrev pub ReadsInput : PlainCommand → Type 0
ReadsInput (Decode roots) = Unit {0}
ReadsInput Direct = Unit {0}
ReadsInput Encode = Unit {0}
ReadsInput Frames = Unit {0}
ReadsInput (Gen calls show) = ⊥
ReadsInput Ring = Unit {0}

-- the status of an answer, and what is printed
abbrev pub status_of : Answer → ℕ
status_of (Done text) = 0
status_of (Refused text) = 2
status_of (Damaged text) = 8

abbrev pub text_of : Answer → List ℕ
text_of (Done text) = text.items
text_of (Refused text) = text.items
text_of (Damaged text) = text.items
