-- Why a reader answers no reply, and which replies it takes for one.
use Rattle.std.specs.Prelude.{◌≡◌, ℕ, List, false}
use Rattle.hessian_graph.specs.declared.parts.Parts.{Parts}
use Rattle.hessian_graph.specs.Shape.{Text, shape_of}
use Rattle.hessian_reader.specs.Leaves.{hessian, node_limit}
use Rattle.hessian_reader.specs.Faults.{faults}
use Rattle.hessian_reader.specs.Refusing.{fault_of}
use Rattle.dubbo_header.specs.declared.header.Header.{Header}
use Rattle.dubbo_bodies.specs.declared.message.Reply.{Reply}
use Rattle.dubbo_bodies.specs.declared.message.Reply.TheVariants.{Value, Threw, Status}
use Rattle.dubbo_bodies.specs.declared.reply_fault.ReplyFault.{ReplyFault}
use Rattle.dubbo_bodies.specs.declared.reply_fault.ReplyFault.TheVariants as told
use Rattle.dubbo_bodies.specs.Refusals.{BodyCause, BadSerial, Hessian, NotText, Descriptor, BadKind, BadAttachments, ReplyRefusal}

-- a header of a reply that is no event
pub record IsOfReply (header : Header) : Type 0 where
  pub no_request : header.request ≡ false
  pub no_event : header.event ≡ false

-- the fault of a reply that tells the cause; a reply's body has no fields and no descriptor
abbrev pub TellsReply : BodyCause → ReplyFault → Type 0
TellsReply (BadSerial number) fault = fault ≡ told.BadSerial number
TellsReply (Hessian cause) fault = fault ≡ told.Hessian (fault_of cause)
TellsReply (NotText field) fault = ⊥
TellsReply (Descriptor why) fault = ⊥
TellsReply (BadKind number) fault = fault ≡ told.BadKind number
TellsReply BadAttachments fault = fault ≡ told.BadAttachments

-- the fault tells why the header and the body are no reply
abbrev pub IsRefusedReply : Header → List ℕ → ReplyFault → Type 0
IsRefusedReply header body fault = (cause : BodyCause) × TellsReply cause fault × ReplyRefusal hessian faults node_limit header body cause

-- the same reply: graphs are compared with their names put in
pub data IsSameReply : Reply → Reply → Type 0 where
  value : (g h : Parts) → shape_of g ≡ shape_of h → IsSameReply (Value g) (Value h)
  exception : (g h : Parts) → shape_of g ≡ shape_of h → IsSameReply (Threw g) (Threw h)
  status : (code : ℕ) (text : Text) → IsSameReply (Status code text) (Status code text)
