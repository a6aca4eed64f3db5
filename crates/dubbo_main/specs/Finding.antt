-- The frame at the front of some bytes.
use Rattle.std.specs.Prelude.{◌≡◌, ℕ, List, ◌++◌}
use Rattle.dubbo_header.specs.declared.header.Header.{Header}
use Rattle.link_frames.specs.Frames.{Frame, IsFrame, frame_bytes}

abbrev pub frame_of : Header → List ℕ → Frame
frame_of header body = record { header = header; body = body }

-- the bytes are this frame and what stands behind it
pub record IsFirst (bytes : List ℕ) (header : Header) (body behind : List ℕ) : Type 0 where
  pub whole : IsFrame (frame_of header body)
  pub split : bytes ≡ frame_bytes (frame_of header body) ++ behind
