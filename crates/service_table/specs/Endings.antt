-- How a call ends, as contracts see it: the names of types and classes are put into its graph.
use Rattle.std.specs.Prelude.{ℕ, ◌≤◌, List, length}
use Rattle.hessian_graph.specs.Shape.{Text, Shape, shape_of}
use Rattle.hessian_graph.specs.Canon.{IsCanon}
use Rattle.hessian_writer.specs.Leaves.{hessian, hessian_forms}
use Rattle.dubbo_bodies.specs.declared.message.Reply.{Reply}
use Rattle.dubbo_bodies.specs.declared.message.Reply.TheVariants.{Value, Threw, Status}
use Rattle.dubbo_bodies.specs.ReplyBody.{OK_STATUS}
use Rattle.dubbo_bodies.specs.WrittenBody.{LIMIT, WrittenReply}

-- a value or an exception is given, the one root of a graph, or a status with a text is stated
pub data Ending : Type 0 where
  Given : Shape → Ending
  Thrown : Shape → Ending
  Stated : ℕ → Text → Ending

-- how a reply says that the call ended
abbrev pub ending_of : Reply → Ending
ending_of (Value g) = Given (shape_of g)
ending_of (Threw g) = Thrown (shape_of g)
ending_of (Status code text) = Stated code text

-- the second ending is the first, with the canonical form of its graph
pub data IsCanonEnding : Ending → Ending → Type 0 where
  given : (g h : Shape) → IsCanon g h → IsCanonEnding (Given g) (Given h)
  thrown : (g h : Shape) → IsCanon g h → IsCanonEnding (Thrown g) (Thrown h)
  stated : (code : ℕ) (text : Text) → IsCanonEnding (Stated code text) (Stated code text)

-- the status that goes into the header of a reply
abbrev pub status_of : Reply → ℕ
status_of (Value g) = OK_STATUS
status_of (Threw g) = OK_STATUS
status_of (Status code text) = code

-- a reply that ends so is written with this body
pub record BodyOf (ending : Ending) (body : List ℕ) : Type 0 where
  pub reply : Reply
  pub canonical : IsCanonEnding (ending_of reply) ending
  pub written : WrittenReply hessian hessian_forms reply body

-- the body of the reply has a place in a frame
abbrev pub IsShort : Reply → Type 0
IsShort reply = (body : List ℕ) → WrittenReply hessian hessian_forms reply body → length body ≤ LIMIT
