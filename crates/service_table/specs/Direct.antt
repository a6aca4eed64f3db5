-- The direct call: how the call of a request ends, with no frame, no link and no other call.
use Rattle.std.specs.Prelude.{ℕ, ◌<◌, ◌≤◌, List, length, codes}
use Rattle.hessian_graph.specs.Shape.{Text, Shape, shape_of}
use Rattle.dubbo_bodies.specs.declared.message.Request.{Request}
use Rattle.dubbo_bodies.specs.declared.message.Reply.{Reply}
use Rattle.dubbo_bodies.specs.WrittenBody.{LIMIT, IsWritableReply}
use Rattle.dubbo_bodies.specs.CanonBody.{GoesWith}
use Rattle.service_table.specs.declared.kind.Kind.{Kind}
use Rattle.service_table.specs.declared.row.Row.{Row}
use Rattle.service_table.specs.Rows.{Serves, NoneServes}
use Rattle.service_table.specs.Endings.{Ending, Stated, IsCanonEnding, BodyOf, IsShort, ending_of, status_of}
use Rattle.service_table.specs.Replies.{answer}

-- the status and the text of a call that no row serves: SERVICE_NOT_FOUND
abbrev pub NOT_FOUND : ℕ
NOT_FOUND = 60

abbrev pub not_found : Text
not_found = codes "service not found"

-- the status and the text of a reply that no frame has room for: BAD_RESPONSE
abbrev pub BAD_RESPONSE : ℕ
BAD_RESPONSE = 50

abbrev pub too_long : Text
too_long = codes "reply too long"

-- a body that is written for this ending has so many bytes as this says
pub record HasBody (ending : Ending) (Long : ℕ → Type 0) : Type 0 where
  pub body : List ℕ
  pub is : BodyOf ending body
  pub long : Long (length body)

-- How a call of this kind ends with these arguments, in canonical form: as the kind says, where the body has room in a
-- frame, and else with a status.
pub data Outcome (kind : Kind) (args : Shape) : Ending → Type 0 where
  answered : (ending : Ending) → IsCanonEnding (answer kind args) ending → HasBody ending (λ count. count ≤ LIMIT) → Outcome kind args ending
  exceeded : (ending : Ending) → IsCanonEnding (answer kind args) ending → HasBody ending (λ count. LIMIT < count) → Outcome kind args (Stated BAD_RESPONSE too_long)

-- how the call of a request ends over these rows
pub data Direct (rows : List Row) (r : Request) : Ending → Type 0 where
  unknown : NoneServes rows r → Direct rows r (Stated NOT_FOUND not_found)
  served : (row : Row) (ending : Ending) → Serves rows r row → Outcome row.kind (shape_of r.args) ending → Direct rows r ending

-- the reply has this ending, with the canonical form taken of its graph
pub record EndsIn (Is : Ending → Type 0) (reply : Reply) : Type 0 where
  pub ending : Ending
  pub canonical : IsCanonEnding (ending_of reply) ending
  pub is : Is ending

-- the reply is that of the direct call
abbrev pub IsDirect : List Row → Request → Reply → Type 0
IsDirect rows r reply = EndsIn (Direct rows r) reply

-- what a reply is that can be sent: it can be written, its body has room in a frame, a value or an exception is one root,
-- and no status is that of a value
pub record IsSendable (reply : Reply) : Type 0 where
  pub writable : IsWritableReply reply
  pub short : IsShort reply
  pub goes : GoesWith reply (status_of reply)
