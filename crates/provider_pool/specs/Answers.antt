-- The frames with which a provider answers frames. (Dubbo protocol, headers and heartbeats)
use Rattle.std.specs.Prelude.{◌≡◌, ℕ, Bool, true, false, not, ◌&&◌, if◌then◌else◌, suc, List, [], ◌∷◌, ◌++◌, length}
use Rattle.hessian_writer.specs.Leaves.{hessian, hessian_forms}
use Rattle.dubbo_header.specs.declared.header.Header.{Header}
use Rattle.link_frames.specs.Frames.{Frame}
use Rattle.dubbo_bodies.specs.declared.message.Reply.{Reply as AReply}
use Rattle.dubbo_bodies.specs.Fields.{HESSIAN, NULL}
use Rattle.dubbo_bodies.specs.ReplyBody.{OK_STATUS}
use Rattle.dubbo_bodies.specs.WrittenBody.{WrittenReply}
use Rattle.service_table.specs.declared.row.Row.{Row}
use Rattle.service_table.specs.Endings.{status_of}
use Rattle.provider_pool.specs.declared.asked.Asked.{Asked}
use Rattle.provider_pool.specs.declared.asked.Asked.TheVariants.{Sign, Reply, Call, Nothing}
use Rattle.provider_pool.specs.Asked.{asked_by}
use Rattle.provider_pool.specs.Replies.{Replies}

-- the header of an answer to the request or the event of this id
abbrev pub answer_header : (event : Bool) (status id size : ℕ) → Header
answer_header event status id size = record {
  request = false;
  two_way = false;
  event = event;
  serial = HESSIAN;
  status = status;
  id = id;
  length = size;
}

-- the sign of life under this id: an event whose body is null
abbrev pub sign_of_life : ℕ → Frame
sign_of_life id = record { header = answer_header true OK_STATUS id 1; body = NULL ∷ [] }

-- the answer is a frame of a reply to this frame
pub record RepliesTo (services : List Row) (frame answer : Frame) : Type 0 where
  pub reply : AReply
  pub is : Replies services frame reply
  pub written : WrittenReply hessian hessian_forms reply answer.body
  pub header : answer.header ≡ answer_header false (status_of reply) frame.header.id (length answer.body)

-- the answers to a frame that asks for this
abbrev pub AnswersAsked : Asked → List Row → Frame → List Frame → Type 0
AnswersAsked Sign services frame answers = answers ≡ sign_of_life frame.header.id ∷ []
AnswersAsked Reply services frame answers = (answer : Frame) × RepliesTo services frame answer × (answers ≡ answer ∷ [])
AnswersAsked Call services frame answers = answers ≡ []
AnswersAsked Nothing services frame answers = answers ≡ []

-- the answers to a frame, at most one
abbrev pub Answers : List Row → Frame → List Frame → Type 0
Answers services frame answers = AnswersAsked (asked_by frame.header) services frame answers

-- the answers to frames, in their order
pub data AllAnswers (services : List Row) : List Frame → List Frame → Type 0 where
  none : AllAnswers services [] []
  more : (frame : Frame) (frames first rest : List Frame) → Answers services frame first → AllAnswers services frames rest → AllAnswers services (frame ∷ frames) (first ++ rest)

-- the header is that of a request, and of no event
abbrev pub is_request : Header → Bool
is_request header = header.request && not header.event

-- how many of these are requests, and no events
abbrev pub requests_among : List Frame → ℕ
requests_among [] = 0
requests_among (frame ∷ frames) = if is_request frame.header then suc (requests_among frames) else requests_among frames
