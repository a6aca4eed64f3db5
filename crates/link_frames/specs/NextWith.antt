-- The answers of a reader whose bodies are fed as they come, seen as the answers of one that keeps them.
use Rattle.std.specs.Prelude.{◌≡◌, ℕ, ◌+◌, List, [], ◌++◌, length, Option, None, Some}
use Rattle.dubbo_header.specs.declared.header.Header.{Header}
use Rattle.dubbo_header.specs.Header.{header_bytes}
use Rattle.dubbo_io.specs.Source.{SourceState, GoesOn}
use Rattle.link_frames.specs.Begun.{header_of, left_of}
use Rattle.link_frames.specs.declared.begun.Begun.{Begun}
use Rattle.link_frames.specs.Paused.{Advances}
use Rattle.link_frames.specs.Steps.{StepAnswers}
use Rattle.link_frames.specs.declared.next.Next.{Next}
use Rattle.link_frames.specs.declared.next.Next.TheVariants as next
use Rattle.link_frames.specs.declared.next.Ending.{Ending}
use Rattle.link_frames.specs.declared.next.Ending.TheVariants as ending
use Rattle.link_frames.specs.declared.next_with.NextWith.{NextWith}
use Rattle.link_frames.specs.declared.next_with.NextWith.TheVariants as outcome
use Rattle.link_frames.specs.declared.paused.Part.{Part}
use Rattle.link_frames.specs.declared.paused.Part.TheVariants as part
use Rattle.link_frames.specs.declared.paused.Paused.{Paused}

-- the same answer, the body being the bytes fed
abbrev pub next_fed : List ℕ → NextWith → Next
next_fed fed (outcome.Frame header) = next.Frame header fed
next_fed fed outcome.End = next.End
next_fed fed (outcome.Lost faults) = next.Lost faults
next_fed fed (outcome.Broken at head) = next.Broken at head
next_fed fed (outcome.CutShort at) = next.CutShort at

abbrev pub answer_fed : List ℕ → Option NextWith → Option Next
answer_fed fed None = None
answer_fed fed (Some answer) = Some (next_fed fed answer)

-- the answer that an ended reader stays with
abbrev pub with_of : Ending → NextWith
with_of ending.End = outcome.End
with_of (ending.Lost faults) = outcome.Lost faults
with_of (ending.Broken at head) = outcome.Broken at head
with_of (ending.CutShort at) = outcome.CutShort at

-- these bytes of a frame were taken up, those of its body being fed
abbrev pub HoldsPartFed : Part → List ℕ → List ℕ → Type 0
HoldsPartFed (part.Head head) fed taken = taken ≡ head
HoldsPartFed (part.Begun begun) fed taken = (length fed + left_of begun ≡ (header_of begun).length)
    × (taken ≡ header_bytes (header_of begun) ++ fed)
HoldsPartFed (part.Ended ending) fed taken = ⊥

-- an open reader holds these bytes of the stream, or has fed them
pub record HoldsFed (paused : Paused) (fed held : List ℕ) : Type 0 where
  pub taken : List ℕ
  pub part : HoldsPartFed paused.part fed taken
  pub split : held ≡ taken ++ paused.window

-- where a body is unfinished, it was started with its header and fed what was taken up of it
pub record StandsFed (paused : Paused) (started : Option Header) (fed : List ℕ) : Type 0 where
  pub header : (begun : Begun) → paused.part ≡ part.Begun begun → started ≡ Some (header_of begun)
  pub count : (begun : Begun) → paused.part ≡ part.Begun begun → length fed + left_of begun ≡ (header_of begun).length

-- no body is unfinished, so any may be fed next
abbrev pub TakesAny : Paused → Type 0
TakesAny paused = (started : Option Header) (fed : List ℕ) → StandsFed paused started fed

-- what the bytes that are held or fed answer with no read
pub record AdvancesFed (place : ℕ) (held : List ℕ) (after : Paused) (started : Option Header) (fed : List ℕ) (answer : Option NextWith) : Type 0 where
  pub plain : Advances place held after (answer_fed fed answer)
  pub holding : answer ≡ None → HoldsFed after fed held
  pub stands : StandsFed after started fed
  pub frame : (header : Header) → answer ≡ Some (outcome.Frame header) → started ≡ Some header
  pub between : (header : Header) → answer ≡ Some (outcome.Frame header) → after.part ≡ part.Head []

-- what one step did to a reader that held these bytes, or had fed them
pub record StepsFed {Badge : Type 0} (old new : SourceState Badge) (place : ℕ) (held : List ℕ) (after : Paused) (started : Option Header) (fed : List ℕ) (answer : Option NextWith) : Type 0 where
  pub came : List ℕ
  pub goes_on : GoesOn old new came
  pub answers : StepAnswers old new place (held ++ came) came after (answer_fed fed answer)
  pub holding : answer ≡ None → HoldsFed after fed (held ++ came)
  pub frame : (header : Header) → answer ≡ Some (outcome.Frame header) → started ≡ Some header
  pub between : (header : Header) → answer ≡ Some (outcome.Frame header) → after.part ≡ part.Head []
