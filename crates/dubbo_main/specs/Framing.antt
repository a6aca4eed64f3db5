-- What the command `frames` answers to its input.
use Rattle.std.specs.Prelude.{◌≡◌, ◌≢◌, ℕ, ◌+◌, ◌≤◌, List, [], ◌++◌, length, take, codes, decimal}
use Rattle.dubbo_header.specs.Header.{MAGIC, IsTooLong}
use Rattle.link_frames.specs.Frames.{Placed, FramesOf}
use Rattle.dubbo_main.specs.FaultTexts.{damage_line}
use Rattle.dubbo_main.specs.FrameLines.{AreLinesOf}
use Rattle.dubbo_main.specs.declared.commands.frames.rest.RestFault.{RestFault}
use Rattle.dubbo_main.specs.declared.commands.frames.rest.RestFault.TheVariants.{OtherMagic, TooLong, Short}

-- the first two bytes, or the one that there is, don't go on as the magic
abbrev pub HasOtherMagic : List ℕ → Type 0
HasOtherMagic bytes = (more : List ℕ) → take 2 bytes ++ more ≢ MAGIC

-- sixteen bytes behind the right magic state this length of a body, which is more than a body may have
abbrev pub StatesTooMuch : List ℕ → ℕ → Type 0
StatesTooMuch bytes count = (16 ≤ length bytes) × IsTooLong (take 16 bytes) count

-- why bytes behind the last whole frame begin none
abbrev pub IsDamagedBy : List ℕ → RestFault → Type 0
IsDamagedBy rest OtherMagic = HasOtherMagic rest
IsDamagedBy rest (TooLong count) = StatesTooMuch rest count
IsDamagedBy rest Short = ¬ HasOtherMagic rest × ((count : ℕ) → ¬ StatesTooMuch rest count)

-- the place of the rest, and why it begins no frame
abbrev pub rest_text : ℕ → RestFault → List ℕ
rest_text at OtherMagic = decimal at ++ codes " magic"
rest_text at (TooLong count) = decimal at ++ codes " length " ++ decimal count
rest_text at Short = decimal at ++ codes " short"

-- what `frames` answers to its whole input: a line for each whole frame in order, and at status 8 a line more, of
-- the rest behind the last of them, which isn't empty
pub data FramesAnswers (input : List ℕ) : ℕ → List ℕ → Type 0 where
  whole : (frames : List Placed) (lines : List ℕ) → FramesOf input frames [] → AreLinesOf frames lines
      → FramesAnswers input 0 lines
  damaged : (frames : List Placed) (rest lines : List ℕ) (at : ℕ) (fault : RestFault) → FramesOf input frames rest
      → rest ≢ [] → at + length rest ≡ length input → AreLinesOf frames lines → IsDamagedBy rest fault
      → FramesAnswers input 8 (lines ++ damage_line (rest_text at fault))
