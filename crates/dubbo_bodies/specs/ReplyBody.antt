-- The reply that a header and a body are.
use Rattle.std.specs.Prelude.{◌≡◌, ◌≢◌, ℕ, ℤ, pos, List, [], ◌∷◌, ◌++◌, length}
use Rattle.hessian_graph.specs.declared.value.Value.{Value}
use Rattle.hessian_graph.specs.declared.value.Value.TheVariants.{Null}
use Rattle.hessian_graph.specs.declared.parts.Parts.{Parts}
use Rattle.hessian_graph.specs.Shape.{Text, Shape, shape_of}
use Rattle.hessian_graph.specs.Canon.{IsCanon}
use Rattle.hessian_graph.specs.Reading.{Leaves, IntSpelling}
use Rattle.hessian_graph.specs.Spells.{Denotes}
use Rattle.dubbo_header.specs.declared.header.Header.{Header}
use Rattle.dubbo_bodies.specs.declared.message.Reply.{Reply}
use Rattle.dubbo_bodies.specs.declared.message.Reply.TheVariants.{Value as AValue, Threw, Status}
use Rattle.dubbo_bodies.specs.declared.attachment.Attachment.{Attachment}
use Rattle.dubbo_bodies.specs.Attachments.{AttachmentsOf}
use Rattle.dubbo_bodies.specs.Fields.{HESSIAN, OptionalText}
use Rattle.dubbo_bodies.specs.RequestBody.{with_roots}

-- the status of a call that ended with a value or an exception
abbrev pub OK_STATUS : ℕ
OK_STATUS = 20

-- how many values stand behind the number of a kind
pub data HasRoots : ℤ → ℕ → Type 0 where
  exception : HasRoots (pos 0) 1
  value : HasRoots (pos 1) 1
  null : HasRoots (pos 2) 0
  exception_beside : HasRoots (pos 3) 2
  value_beside : HasRoots (pos 4) 2
  null_beside : HasRoots (pos 5) 1

-- the kinds that have attachments behind their value, and how many values stand before them
pub data HasBeside : ℤ → ℕ → Type 0 where
  exception : HasBeside (pos 3) 1
  value : HasBeside (pos 4) 1
  null : HasBeside (pos 5) 0

abbrev pub null_alone : Shape
null_alone = record { roots = Null ∷ []; nodes = [] }

-- the attachments of a reply, which are dropped
abbrev pub AreSome : Shape → Value → Type 0
AreSome g v = (attachments : List Attachment) × AttachmentsOf g v attachments

-- What a kind makes of the graph of the values behind it: an exception, a value, or the value null; and the same with
-- attachments behind it. What is answered is canonical, its one root alone.
pub data Outcome (g : Shape) : ℤ → Reply → Type 0 where
  exception : (root : Value) (h : Parts) → g.roots ≡ root ∷ [] → IsCanon g (shape_of h) → Outcome g (pos 0) (Threw h)
  value : (root : Value) (h : Parts) → g.roots ≡ root ∷ [] → IsCanon g (shape_of h) → Outcome g (pos 1) (AValue h)
  null : (h : Parts) → g.roots ≡ [] → shape_of h ≡ null_alone → Outcome g (pos 2) (AValue h)
  exception_beside : (root last : Value) (h : Parts) → g.roots ≡ root ∷ last ∷ [] → AreSome g last → IsCanon (with_roots (root ∷ []) g) (shape_of h) → Outcome g (pos 3) (Threw h)
  value_beside : (root last : Value) (h : Parts) → g.roots ≡ root ∷ last ∷ [] → AreSome g last → IsCanon (with_roots (root ∷ []) g) (shape_of h) → Outcome g (pos 4) (AValue h)
  null_beside : (last : Value) (h : Parts) → g.roots ≡ last ∷ [] → AreSome g last → shape_of h ≡ null_alone → Outcome g (pos 5) (AValue h)

-- a body in Hessian 2 whose status is that of a value or an exception begins with this kind, in so many bytes
pub record BeginsWithKind (l : Leaves) (header : Header) (body : List ℕ) (kind : ℤ) (at : ℕ) (rest : List ℕ) : Type 0 where
  pub serial : header.serial ≡ HESSIAN
  pub status : header.status ≡ OK_STATUS
  pub front : List ℕ
  pub is_kind : IntSpelling l kind front
  pub place : at ≡ length front
  pub joined : body ≡ front ++ rest

-- This reply is read from the header and the body. With a status that tells of no value the body is one text.
pub data ReplyOf (l : Leaves) (bound : ℕ) (header : Header) (body : List ℕ) : Reply → Type 0 where
  outcome : (kind : ℤ) (at : ℕ) (rest : List ℕ) (g : Shape) (reply : Reply) → BeginsWithKind l header body kind at rest → Denotes l bound rest g → Outcome g kind reply → ReplyOf l bound header body reply
  status : (text : Text) → header.serial ≡ HESSIAN → header.status ≢ OK_STATUS → OptionalText l text body → ReplyOf l bound header body (Status header.status text)
