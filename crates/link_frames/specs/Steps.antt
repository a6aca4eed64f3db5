-- What one step of a reader does over its source.
use Rattle.std.specs.Prelude.{◌≡◌, ◌≢◌, ℕ, ◌+◌, ◌<◌, ◌≤◌, ◌⊎◌, List, [], ◌++◌, length, Option, None, Some, IsTrue}
use Rattle.dubbo_io.specs.Count.{Rose}
use Rattle.dubbo_io.specs.Source.{SourceState, GoesOn}
use Rattle.link_frames.specs.declared.next.Next.{Next}
use Rattle.link_frames.specs.declared.next.Next.TheVariants as next
use Rattle.link_frames.specs.declared.next.Ending.{Ending}
use Rattle.link_frames.specs.declared.next.Ending.TheVariants as ending
use Rattle.link_frames.specs.declared.paused.Paused.{Paused}
use Rattle.link_frames.specs.Paused.{Holds, HasEnded, IsUnfinished, Passes, Breaks, held_count}

-- the reader may go on over this source
pub record GoesWith {Badge : Type 0} (paused : Paused) (now : SourceState Badge) : Type 0 where
  -- all that it passed and holds, the source gave
  pub count : paused.place + held_count paused ≤ now.count
  pub over : HasEnded paused ending.End → IsTrue now.ended
  pub cut : (at : ℕ) → HasEnded paused (ending.CutShort at) → IsTrue now.ended
  pub lost : (faults : ℕ) → HasEnded paused (ending.Lost faults) → (1 ≤ faults) × (faults ≤ now.faults)

-- the next step makes no read: the reader has ended, or what it holds is no unfinished frame
abbrev pub IsReady : Paused → Type 0
IsReady paused = ((ending : Ending) × HasEnded paused ending)
    ⊎ ((held : List ℕ) × Holds paused held × (IsUnfinished held → ⊥))

-- the end came between two frames, or inside the one that stands at `place`
abbrev pub EndsAt : ℕ → List ℕ → Ending → Type 0
EndsAt place held ending.End = held ≡ []
EndsAt place held (ending.Lost faults) = ⊥
EndsAt place held (ending.Broken at head) = ⊥
EndsAt place held (ending.CutShort at) = (at ≡ place) × (held ≢ [])

-- when each answer of a step comes: `bytes` are those held and then those that came, the first standing at `place`
abbrev pub StepAnswers : {Badge : Type 0} → SourceState Badge → SourceState Badge → ℕ → List ℕ → List ℕ → Paused → Option Next → Type 0
StepAnswers old new place bytes came after None =
    (0 < length came) × IsUnfinished bytes × Holds after bytes × (after.place ≡ place)
StepAnswers old new place bytes came after (Some (next.Frame header body)) =
    Passes place bytes after (record { header = header; body = body })
StepAnswers old new place bytes came after (Some (next.NoMemory header)) =
    (body : List ℕ) × Passes place bytes after (record { header = header; body = body })
StepAnswers old new place bytes came after (Some next.End) =
    (bytes ≡ []) × IsTrue new.ended × HasEnded after ending.End
StepAnswers old new place bytes came after (Some (next.Lost faults)) =
    Rose old.faults new.faults × (1 ≤ faults) × (faults ≤ new.faults) × HasEnded after (ending.Lost faults)
StepAnswers old new place bytes came after (Some (next.Broken at head)) =
    Breaks place bytes after at head
StepAnswers old new place bytes came after (Some (next.CutShort at)) =
    (at ≡ place) × (bytes ≢ []) × IsUnfinished bytes × IsTrue new.ended × HasEnded after (ending.CutShort at)

-- what one step did to a reader that held these bytes
pub record Steps {Badge : Type 0} (old new : SourceState Badge) (place : ℕ) (held : List ℕ) (after : Paused) (answer : Option Next) : Type 0 where
  pub came : List ℕ
  pub goes_on : GoesOn old new came
  pub answers : StepAnswers old new place (held ++ came) came after answer
