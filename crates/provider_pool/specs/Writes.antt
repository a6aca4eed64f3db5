-- What became of the frames of answers that were to be written.
use Rattle.std.specs.Prelude.{◌≡◌, ℕ, ◌+◌, ◌<◌, ◌≤◌, List, [], ◌∷◌, length, Some, if◌then◌else◌, nat_eq}
use Rattle.std.specs.List.{AllByRecursion}
use Rattle.dubbo_header.specs.declared.header.Header.{Header}
use Rattle.dubbo_io.specs.Sink.{SinkState, Sends}
use Rattle.link_frames.specs.Frames.{Frame as AFrame, IsFrame, HasFrames, joined}
use Rattle.hessian_writer.specs.Leaves.{hessian, hessian_forms}
use Rattle.dubbo_bodies.specs.FedBody.{FedBody}
use Rattle.dubbo_bodies.specs.declared.message.Reply.{Reply}
use Rattle.dubbo_bodies.specs.WrittenBody.{LIMIT, WrittenReply}
use Rattle.service_table.specs.declared.row.Row.{Row}
use Rattle.service_table.specs.Endings.{status_of}
use Rattle.provider_pool.specs.Replies.{Replies}
use Rattle.provider_pool.specs.declared.sending.Outcome.{Outcome}
use Rattle.provider_pool.specs.declared.sending.Outcome.TheVariants.{Answered, Lost, OutOfMemory}
use Rattle.provider_pool.specs.Answers.{Answers, RepliesTo}
use Rattle.provider_pool.specs.Serving.{CountRose, IsPaidInPart}

abbrev pub frame_of : Header → List ℕ → AFrame
frame_of header body = record { header = header; body = body }

-- the sink failed when a front of the frames had gone, so many of them whole
pub record WritesPart {Badge : Type 0} (sink sink' : SinkState Badge) (owed : List AFrame) (faults count : ℕ) : Type 0 where
  pub gone : List ℕ
  pub front : IsPaidInPart (joined owed) gone
  pub sends : Sends sink sink' gone
  pub written : List AFrame
  pub part : List ℕ
  pub went : HasFrames gone written part
  pub wrote : count ≡ length written
  pub rose : CountRose sink.faults sink'.faults faults

-- what became of frames that were to be written
abbrev pub Writes : {Badge : Type 0} → SinkState Badge → SinkState Badge → List AFrame → Outcome → Type 0
Writes sink sink' owed (Answered count) = Sends sink sink' (joined owed) × (count ≡ length owed)
Writes sink sink' owed (Lost faults count) = WritesPart sink sink' owed faults count
Writes sink sink' owed OutOfMemory = Sends sink sink' [] × (owed ≡ [])

-- what became of the answers to a frame
pub record WritesAnswers {Badge : Type 0} (sink sink' : SinkState Badge) (services : List Row) (frame : AFrame) (outcome : Outcome) : Type 0 where
  pub owed : List AFrame
  pub whole : AllByRecursion IsFrame owed
  pub are : Answers services frame owed
  pub writes : Writes sink sink' owed outcome

-- one frame went whole exactly where all its bytes are gone
abbrev pub whole_of : (gone size : ℕ) → ℕ
whole_of gone size = if nat_eq gone (16 + size) then 1 else 0

-- how many answers went whole
abbrev pub answers_of : Outcome → ℕ
answers_of (Answered count) = count
answers_of (Lost faults count) = count
answers_of OutOfMemory = 0

-- a request's reader holds a whole frame with this header
pub record HoldsFrame (body : FedBody) (header : Header) : Type 0 where
  pub started : body.started ≡ Some header
  pub whole : IsFrame (frame_of header body.fed)

-- this status and this body are those of a reply to the frame
pub record RepliesWith (services : List Row) (frame : AFrame) (status : ℕ) (body : List ℕ) : Type 0 where
  pub reply : Reply
  pub is : Replies services frame reply
  pub written : WrittenReply hessian hessian_forms reply body
  pub status_is : status ≡ status_of reply
  pub small : status < 256
  pub short : length body ≤ LIMIT

-- what became of the reply to a frame
pub record WritesReply {Badge : Type 0} (sink sink' : SinkState Badge) (services : List Row) (frame : AFrame) (outcome : Outcome) : Type 0 where
  pub answer : AFrame
  pub whole : IsFrame answer
  pub is : RepliesTo services frame answer
  pub writes : Writes sink sink' (answer ∷ []) outcome
