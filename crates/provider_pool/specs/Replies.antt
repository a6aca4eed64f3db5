-- The reply to a request: the direct call's, or that of a request that can't be read, or of one for which there was no
-- memory. (Dubbo protocol, statuses of a response)
use Rattle.std.specs.Prelude.{◌≡◌, ℕ, List, ◌++◌, codes}
use Rattle.hessian_reader.specs.Leaves.{hessian, node_limit}
use Rattle.link_frames.specs.Frames.{Frame}
use Rattle.dubbo_bodies.specs.declared.message.Request.{Request}
use Rattle.dubbo_bodies.specs.declared.message.Reply.{Reply}
use Rattle.dubbo_bodies.specs.declared.message.Reply.TheVariants.{Status}
use Rattle.dubbo_bodies.specs.declared.fault.RequestFault.{RequestFault}
use Rattle.dubbo_bodies.specs.RequestBody.{RequestOf}
use Rattle.dubbo_bodies.specs.RequestReading.{IsRefusedRequest}
use Rattle.dubbo_bodies.specs.FaultTexts.{request_words}
use Rattle.service_table.specs.declared.row.Row.{Row}
use Rattle.service_table.specs.Direct.{IsDirect}

-- the statuses of a request that can't be read, and of a provider that failed
abbrev pub BAD_REQUEST : ℕ
BAD_REQUEST = 40

abbrev pub SERVER_ERROR : ℕ
SERVER_ERROR = 80

-- the reply to a body that is refused for this fault
abbrev pub bad_request : RequestFault → Reply
bad_request fault = Status BAD_REQUEST (codes "bad request: " ++ request_words fault)

-- the reply for want of memory
abbrev pub no_memory : Reply
no_memory = Status SERVER_ERROR (codes "out of memory")

-- the frame has this request for its reading
abbrev pub HasReading : Frame → Request → Type 0
HasReading frame request = RequestOf hessian node_limit frame.header frame.body request

-- a reply to a frame that wants one
pub data Replies (services : List Row) (frame : Frame) (reply : Reply) : Type 0 where
  direct : (request : Request) → HasReading frame request → IsDirect services request reply → Replies services frame reply
  unread : (fault : RequestFault) → IsRefusedRequest frame.header frame.body fault → reply ≡ bad_request fault → Replies services frame reply
  starved : reply ≡ no_memory → Replies services frame reply
