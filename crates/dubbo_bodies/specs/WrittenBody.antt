-- The one body that is written for a request, and for a reply.
use Rattle.std.specs.Prelude.{◌≡◌, ◌≢◌, ◌<◌, ℕ, ℤ, pos, List, [], ◌∷◌, ◌++◌, length}
use Rattle.hessian_graph.specs.declared.value.Value.TheVariants.{Null}
use Rattle.hessian_graph.specs.declared.parts.Parts.{Parts}
use Rattle.hessian_graph.specs.Shape.{Text, shape_of}
use Rattle.hessian_graph.specs.Reading.{Leaves, IntSpelling}
use Rattle.hessian_graph.specs.Spells.{TextsSpelling}
use Rattle.hessian_graph.specs.Forms.{Written}
use Rattle.hessian_writer.specs.Writable.{IsWritable}
use Rattle.dubbo_bodies.specs.declared.message.Request.{Request}
use Rattle.dubbo_bodies.specs.declared.message.Reply.{Reply}
use Rattle.dubbo_bodies.specs.declared.message.Reply.TheVariants.{Value, Threw, Status}
use Rattle.dubbo_bodies.specs.Attachments.{with_attachments, texts_of}
use Rattle.dubbo_bodies.specs.declared.attachment.Attachment.{Attachment}
use Rattle.dubbo_bodies.specs.Fields.{fields_of}

-- The five texts, and behind them the arguments and an untyped map of the attachments, which are the roots of one graph
-- and share its tables. Each form is the writer's.
pub record WrittenRequest (l w : Leaves) (r : Request) (body : List ℕ) : Type 0 where
  pub front : List ℕ
  pub values : List ℕ
  pub texts : TextsSpelling w (fields_of r) front
  pub written : Written l w (with_attachments (shape_of r.args) r.attachments) values
  pub joined : body ≡ front ++ values

-- A kind and, but for the value null, the value or the exception; or the text of a status. Each form is the writer's.
pub data WrittenReply (l w : Leaves) : Reply → List ℕ → Type 0 where
  exception : (g : Parts) (kind values : List ℕ) → IntSpelling w (pos 0) kind → Written l w (shape_of g) values → WrittenReply l w (Threw g) (kind ++ values)
  value : (g : Parts) (kind values : List ℕ) → g.roots ≢ Null ∷ [] → IntSpelling w (pos 1) kind → Written l w (shape_of g) values → WrittenReply l w (Value g) (kind ++ values)
  null : (g : Parts) (kind : List ℕ) → g.roots ≡ Null ∷ [] → IntSpelling w (pos 2) kind → WrittenReply l w (Value g) kind
  status : (code : ℕ) (text : Text) (bytes : List ℕ) → w.text text bytes → WrittenReply l w (Status code text) bytes

-- the most bytes of a body
abbrev pub LIMIT : ℕ
LIMIT = 8388608

-- there is such a body, and it has so many bytes, more than a body may have
pub record IsTooLong (Is : List ℕ → Type 0) (count : ℕ) : Type 0 where
  pub body : List ℕ
  pub is : Is body
  pub counted : count ≡ length body
  pub above : LIMIT < count

-- the graph of a value or an exception can be written
abbrev pub IsWritableReply : Reply → Type 0
IsWritableReply (Value g) = IsWritable (shape_of g)
IsWritableReply (Threw g) = IsWritable (shape_of g)
IsWritableReply (Status code text) = Unit {0}

-- a kind and behind it a graph
pub record KindAndGraph (l w : Leaves) (number : ℤ) (g : Parts) (bytes : List ℕ) : Type 0 where
  pub kind : List ℕ
  pub values : List ℕ
  pub is_kind : IntSpelling w number kind
  pub written : Written l w (shape_of g) values
  pub joined : bytes ≡ kind ++ values

-- an untyped map of attachments, by itself
pub record MapForm (w : Leaves) (attachments : List Attachment) (bytes : List ℕ) : Type 0 where
  pub items : List ℕ
  pub texts : TextsSpelling w (texts_of attachments) items
  pub joined : bytes ≡ 0x48 ∷ (items ++ 0x5a ∷ [])
