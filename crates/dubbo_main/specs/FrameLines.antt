-- The line that the command `frames` prints of a frame: where it stands, what its header says, and what its body does.
use Rattle.std.specs.Prelude.{◌≡◌, ℕ, true, false, List, [], ◌∷◌, ◌++◌, codes, decimal, if◌then◌else◌}
use Rattle.hessian_graph.specs.Shape.{shape_of}
use Rattle.hessian_reader.specs.Leaves.{hessian, node_limit}
use Rattle.graph_notation.specs.Elements.{quoted}
use Rattle.graph_notation.specs.Notation.{PrintsForm}
use Rattle.dubbo_header.specs.declared.header.Header.{Header}
use Rattle.dubbo_bodies.specs.RequestBody.{RequestOf}
use Rattle.dubbo_bodies.specs.ReplyBody.{ReplyOf}
use Rattle.dubbo_bodies.specs.RequestReading.{IsRefusedRequest}
use Rattle.dubbo_bodies.specs.RefusedReply.{IsOfReply, IsRefusedReply}
use Rattle.dubbo_bodies.specs.FaultTexts.{request_words, reply_words}
use Rattle.dubbo_bodies.specs.declared.message.Request.{Request}
use Rattle.dubbo_bodies.specs.declared.message.Reply.{Reply}
use Rattle.dubbo_bodies.specs.declared.message.Reply.TheVariants.{Value, Threw, Status}
use Rattle.dubbo_bodies.specs.declared.fault.RequestFault.{RequestFault}
use Rattle.dubbo_bodies.specs.declared.reply_fault.ReplyFault.{ReplyFault}
use Rattle.link_frames.specs.Frames.{Placed}

-- what a header begins: an event, whatever else it marks; else a request that wants a reply, one that wants none, or a reply
abbrev pub kind_word : Header → List ℕ
kind_word header =
    if header.event then codes "event" else
    (if header.request then (if header.two_way then codes "request" else codes "oneway") else codes "reply")

abbrev pub IsEvent : Header → Type 0
IsEvent header = header.event ≡ true

abbrev pub IsRequest : Header → Type 0
IsRequest header = (header.event ≡ false) × (header.request ≡ true)

-- the place of a frame's first byte, its kind, and its id, status and length
abbrev pub frame_head : ℕ → Header → List ℕ
frame_head at header = decimal at ++ codes " " ++ kind_word header ++ codes " " ++ decimal header.id
    ++ codes " " ++ decimal header.status ++ codes " " ++ decimal header.length

-- the path, the version, the method and the descriptor of a request as texts, and the notation of its arguments
abbrev pub ShowsRequest : Request → List ℕ → Type 0
ShowsRequest request text = (args : List ℕ) × PrintsForm (shape_of request.args) args
    × (text ≡ quoted request.path ++ codes " " ++ quoted request.version ++ codes " " ++ quoted request.method
    ++ codes " " ++ quoted request.desc ++ codes " (" ++ args ++ codes ")")

-- how a call ended: the notation of its value or of its exception, or the status and its text
abbrev pub ShowsReply : Reply → List ℕ → Type 0
ShowsReply (Value graph) text = (value : List ℕ) × PrintsForm (shape_of graph) value × (text ≡ codes "ok " ++ value)
ShowsReply (Threw graph) text = (value : List ℕ) × PrintsForm (shape_of graph) value × (text ≡ codes "threw " ++ value)
ShowsReply (Status code words) text = text ≡ codes "status " ++ decimal code ++ codes " " ++ quoted words

-- no request is read from the header and the body, and the fault tells why
pub record UnreadRequest (header : Header) (body : List ℕ) (fault : RequestFault) : Type 0 where
  pub none : (request : Request) → RequestOf hessian node_limit header body request → ⊥
  pub refused : IsRefusedRequest header body fault

-- no reply is read from the header and the body, and the fault tells why
pub record UnreadReply (header : Header) (body : List ℕ) (fault : ReplyFault) : Type 0 where
  pub none : (reply : Reply) → ReplyOf hessian node_limit header body reply → ⊥
  pub refused : IsRefusedReply header body fault

-- what is shown of a frame's body: nothing in an event, else what it says, or why it isn't read
pub data Shows (header : Header) (body : List ℕ) : List ℕ → Type 0 where
  event : IsEvent header → Shows header body []
  request : (request : Request) (text : List ℕ) → IsRequest header → RequestOf hessian node_limit header body request
      → ShowsRequest request text → Shows header body (codes " " ++ text)
  no_request : (fault : RequestFault) → IsRequest header → UnreadRequest header body fault
      → Shows header body (codes " unread " ++ request_words fault)
  reply : (reply : Reply) (text : List ℕ) → IsOfReply header → ReplyOf hessian node_limit header body reply
      → ShowsReply reply text → Shows header body (codes " " ++ text)
  no_reply : (fault : ReplyFault) → IsOfReply header → UnreadReply header body fault
      → Shows header body (codes " unread " ++ reply_words fault)

-- the line of a frame at its place
abbrev pub IsLineOf : Placed → List ℕ → Type 0
IsLineOf placed line = (shown : List ℕ) × Shows placed.frame.header placed.frame.body shown
    × (line ≡ frame_head placed.at placed.frame.header ++ shown ++ codes "\n")

-- a line for each frame, one after another in the order of the frames
pub data AreLinesOf : List Placed → List ℕ → Type 0 where
  none : AreLinesOf [] []
  more : (first : Placed) (frames : List Placed) (line lines : List ℕ) → IsLineOf first line → AreLinesOf frames lines
      → AreLinesOf (first ∷ frames) (line ++ lines)
