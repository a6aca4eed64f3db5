-- The frames of a stream, by the layout of the Dubbo protocol: a header, then as many bytes as it states.
use Rattle.std.specs.Prelude.{◌≡◌, ℕ, ◌+◌, List, [], ◌∷◌, ◌++◌, length}
use Rattle.std.specs.List.{AllByRecursion}
use Rattle.dubbo_header.specs.declared.header.Header.{Header}
use Rattle.dubbo_header.specs.Header.{IsHeader, header_bytes}

-- a header and a body
pub record Frame : Type 0 where
  pub header : Header
  pub body : List ℕ

-- the one spelling of a frame
abbrev pub frame_bytes : Frame → List ℕ
frame_bytes frame = header_bytes frame.header ++ frame.body

-- a header may have these values, and the body is as long as it states
pub record IsFrame (frame : Frame) : Type 0 where
  pub header : IsHeader frame.header
  pub length : length frame.body ≡ frame.header.length

-- frames one behind another
abbrev pub joined : List Frame → List ℕ
joined [] = []
joined (frame ∷ frames) = frame_bytes frame ++ joined frames

-- no whole frame stands at the front of these bytes
abbrev pub BeginsNoFrame : List ℕ → Type 0
BeginsNoFrame bytes = (frame : Frame) (more : List ℕ) → IsFrame frame → bytes ≡ frame_bytes frame ++ more → ⊥

-- a stream is whole frames, one behind another, and a rest that begins no whole frame
pub record HasFrames (bytes : List ℕ) (frames : List Frame) (rest : List ℕ) : Type 0 where
  pub whole : AllByRecursion IsFrame frames
  pub split : bytes ≡ joined frames ++ rest
  pub none : BeginsNoFrame rest

-- a frame and how many bytes of the stream stand before it
pub record Placed : Type 0 where
  pub at : ℕ
  pub frame : Frame

-- frames one behind another, each with its place, the first standing at `at`
abbrev pub placed : ℕ → List Frame → List Placed
placed at [] = []
placed at (frame ∷ frames) = record { at = at; frame = frame } ∷ placed (at + length (frame_bytes frame)) frames

-- a stream's frames, each with its place, and the rest
abbrev pub FramesOf : List ℕ → List Placed → List ℕ → Type 0
FramesOf bytes found rest = (frames : List Frame) × HasFrames bytes frames rest × (found ≡ placed 0 frames)
