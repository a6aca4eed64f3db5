-- What is read of a reply is bytes, so its laws need not say so.
use Rattle.std.proofs.Common.{ℕ, List, [], sym, subst, arith}
use Rattle.hessian_graph.specs.declared.value.Value.TheVariants as values
use Rattle.hessian_graph.specs.Shape.{Text}
use Rattle.hessian_graph.specs.Reading.IsScalar.{int as an_int}
use Rattle.hessian_text.specs.Spelling.{AreBytes}
use Rattle.hessian_reader.specs.declared.element.Element.TheVariants as elements
use Rattle.hessian_reader.specs.declared.element.Want.TheVariants as wants
use Rattle.hessian_reader.specs.Elements.IsElement.{text as e_text, scalar as e_scalar}
use Rattle.hessian_reader.specs.Faults.{faults}
use Rattle.hessian_reader.specs.Leaves.{hessian, node_limit}
use Rattle.hessian_reader.proofs.LeafBytes.{no_bytes, cons_bytes, element_bytes}
use Rattle.hessian_reader.proofs.OneWay.{bytes_both}
use Rattle.hessian_reader.proofs.Running.{reads}
use Rattle.hessian_reader.proofs.Stopping.{leads_bytes}
use Rattle.dubbo_header.specs.declared.header.Header.{Header}
use Rattle.dubbo_bodies.specs.declared.message.Reply.{Reply}
use Rattle.dubbo_bodies.specs.Fields.{OptionalText, NULL}
use Rattle.dubbo_bodies.specs.Fields.OptionalText.{text as a_text, null as a_null}
use Rattle.dubbo_bodies.specs.Refusals.{BodyCause, ReplyRefusal}
use Rattle.dubbo_bodies.specs.RefusedReply.{IsSameReply}
use Rattle.dubbo_bodies.specs.ReplyBody.{ReplyOf}
use Rattle.dubbo_bodies.specs.ReplyBody.ReplyOf.{outcome, status}
use Rattle.dubbo_bodies.proofs.OneReply.{one_reply, no_reply_refused}

text_bytes : (text : Text) (bytes : List ℕ) → OptionalText hessian text bytes → AreBytes bytes
text_bytes text bytes (a_text t b s) = element_bytes wants.AnyValue bytes (elements.Plain (values.Text text)) (e_text text bytes s)
text_bytes text bytes a_null = cons_bytes NULL [] (omega arith) no_bytes

pub reply_bytes : (header : Header) (body : List ℕ) (reply : Reply) → ReplyOf hessian node_limit header body reply → AreBytes body
reply_bytes header body reply (outcome z at rest g reply' b d o) =
    let read = reads g rest d in
    subst AreBytes (sym b.joined) (bytes_both b.front rest (element_bytes wants.AnyValue b.front (elements.Plain (values.Int z)) (e_scalar (values.Int z) b.front (an_int z) b.is_kind)) (leads_bytes read.leads))
reply_bytes header body reply (status text serial other t) = text_bytes text body t

pub one_reading : (header : Header) (body : List ℕ) (a b : Reply) → ReplyOf hessian node_limit header body a → ReplyOf hessian node_limit header body b → IsSameReply a b
one_reading header body a b p q = one_reply header body a b (reply_bytes header body a p) p q

pub never_refused : (header : Header) (body : List ℕ) (reply : Reply) (cause : BodyCause) → ReplyOf hessian node_limit header body reply → ReplyRefusal hessian faults node_limit header body cause → ⊥
never_refused header body reply cause p r = no_reply_refused header body reply cause (reply_bytes header body reply p) p r
