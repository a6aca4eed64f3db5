-- What a reader holds of a stream, and what its next answer is.
use Rattle.std.specs.Prelude.{◌≡◌, ℕ, ◌+◌, ◌-◌, ◌<◌, ◌⊎◌, List, [], ◌++◌, length, take, Option, None, Some}
use Rattle.dubbo_header.specs.declared.header.Header.{Header}
use Rattle.dubbo_header.specs.Header.{header_bytes, Spells, SpellsNone}
use Rattle.link_frames.specs.Frames.{Frame, IsFrame, frame_bytes}
use Rattle.link_frames.specs.Begun.{header_of, left_of, Took}
use Rattle.link_frames.specs.declared.next.Next.{Next}
use Rattle.link_frames.specs.declared.next.Next.TheVariants as next
use Rattle.link_frames.specs.declared.next.Ending.{Ending}
use Rattle.link_frames.specs.declared.next.Ending.TheVariants as ending
use Rattle.link_frames.specs.declared.paused.Part.{Part}
use Rattle.link_frames.specs.declared.paused.Part.TheVariants as part
use Rattle.link_frames.specs.declared.paused.Paused.{Paused}

-- these bytes of a frame were taken up before it was whole
abbrev pub HoldsPart : Part → List ℕ → Type 0
HoldsPart (part.Head head) taken = taken ≡ head
HoldsPart (part.Begun begun) taken = (body : List ℕ) × Took begun body × (taken ≡ header_bytes (header_of begun) ++ body)
HoldsPart (part.Ended ending) taken = ⊥

-- an open reader holds these bytes of the stream, those behind the last frame that it answered
pub record Holds (paused : Paused) (held : List ℕ) : Type 0 where
  pub taken : List ℕ
  pub part : HoldsPart paused.part taken
  pub split : held ≡ taken ++ paused.window

-- how many bytes these are, where so many were not taken up; an ended reader holds none
abbrev pub count_at : Part → ℕ → ℕ
count_at (part.Head head) behind = length head + behind
count_at (part.Begun begun) behind = 16 + ((header_of begun).length - left_of begun) + behind
count_at (part.Ended ending) behind = 0

abbrev pub held_count : Paused → ℕ
held_count paused = count_at paused.part (length paused.window)

-- these bytes may go on as a frame, and end inside it
abbrev pub IsUnfinished : List ℕ → Type 0
IsUnfinished bytes = (length bytes < 16)
    ⊎ ((header : Header) × Spells (take 16 bytes) header × (length bytes < 16 + header.length))

-- no frame has begun
abbrev pub IsBetween : Paused → Type 0
IsBetween paused = paused.part ≡ part.Head []

-- the frame stands at the front of these bytes, and the reader goes on behind it
pub record Passes (place : ℕ) (held : List ℕ) (after : Paused) (frame : Frame) : Type 0 where
  pub whole : IsFrame frame
  pub rest : List ℕ
  pub split : held ≡ frame_bytes frame ++ rest
  pub holds : Holds after rest
  pub moved : after.place ≡ place + length (frame_bytes frame)
  pub between : IsBetween after

-- the reader stays with this answer
abbrev pub HasEnded : Paused → Ending → Type 0
HasEnded paused ending = paused.part ≡ part.Ended ending

-- sixteen bytes at the front of these are no header
pub record Breaks (place : ℕ) (held : List ℕ) (after : Paused) (at : ℕ) (head : List ℕ) : Type 0 where
  pub here : at ≡ place
  pub front : take 16 held ≡ head
  pub sixteen : length head ≡ 16
  pub none : SpellsNone head
  pub ended : HasEnded after (ending.Broken at head)
  pub stays : after.place ≡ place

-- what the bytes that are held answer with no read, the first of them standing at `place`
abbrev pub Advances : ℕ → List ℕ → Paused → Option Next → Type 0
Advances place held after None = IsUnfinished held × Holds after held × (after.place ≡ place) × (after.window ≡ [])
Advances place held after (Some (next.Frame header body)) = Passes place held after (record { header = header; body = body })
Advances place held after (Some (next.NoMemory header)) = (body : List ℕ) × Passes place held after (record { header = header; body = body })
Advances place held after (Some next.End) = ⊥
Advances place held after (Some (next.Lost faults)) = ⊥
Advances place held after (Some (next.Broken at head)) = Breaks place held after at head
Advances place held after (Some (next.CutShort at)) = ⊥
