-- Whole bodies of the pieces that are written.
use Rattle.std.proofs.Common.{◌≡◌, ◌≢◌, List, [], ◌∷◌, ◌++◌, Bool, false, ℕ, sym, ◌∙◌, ap, subst, append_assoc}
use Rattle.std.specs.Prelude.{pos, Result, Ok, Err, IfOk, IsTrue}
use Rattle.hessian_graph.specs.declared.value.Value.{Value as GraphValue}
use Rattle.hessian_graph.specs.declared.value.Value.TheVariants.{Null}
use Rattle.hessian_graph.specs.declared.parts.Parts.{Parts}
use Rattle.hessian_graph.specs.Shape.{shape_of}
use Rattle.hessian_graph.specs.Spells.{TextsSpelling}
use Rattle.hessian_graph.specs.Forms.{Written}
use Rattle.hessian_graph.specs.Work.{IsClosed}
use Rattle.hessian_writer.specs.Leaves.{hessian, hessian_forms}
use Rattle.hessian_writer.specs.Appending.{Appends}
use Rattle.hessian_writer.proofs.LeafLaws.{forms_are_spellings}
use Rattle.dubbo_bodies.specs.declared.message.Request.{Request}
use Rattle.dubbo_bodies.specs.declared.message.Reply.TheVariants.{Value, Threw}
use Rattle.dubbo_bodies.specs.Fields.{fields_of}
use Rattle.dubbo_bodies.specs.WrittenBody.{MapForm, WrittenRequest, WrittenReply, KindAndGraph}
use Rattle.dubbo_bodies.specs.WrittenBody.WrittenReply.{exception, value}
use Rattle.dubbo_bodies.proofs.Together.{written_request}

-- what holds of an answer's value
pub if_ok : {V E : Type 0} (r : Result V E) (P Q : V → Type 0) → ((v : V) → P v → Q v) → IfOk r P → IfOk r Q
if_ok (Ok v) P Q f p = f v p
if_ok (Err e) P Q f p = p

pub request_written : (r : Request) (texts body all : List ℕ) → IsClosed (shape_of r.args) → TextsSpelling hessian_forms (fields_of r) texts → Appends (Written hessian hessian_forms (shape_of r.args)) texts body → Appends (MapForm hessian_forms r.attachments) body all → WrittenRequest hessian hessian_forms r all
request_written r texts body all closed fields values map =
    let joined : all ≡ texts ++ (values.bytes ++ map.bytes) = map.joined ∙ ap (λ xs. xs ++ map.bytes) values.joined ∙ append_assoc texts values.bytes map.bytes in
    subst (WrittenRequest hessian hessian_forms r) (sym joined) (written_request hessian hessian_forms r texts values.bytes map.bytes forms_are_spellings.text closed fields values.is map.is)

pub value_written : (g : Parts) (bytes : List ℕ) → g.roots ≢ Null ∷ [] → KindAndGraph hessian hessian_forms (pos 1) g bytes → WrittenReply hessian hessian_forms (Value g) bytes
value_written g bytes some k = subst (WrittenReply hessian hessian_forms (Value g)) (sym k.joined) (value g k.kind k.values some k.is_kind k.written)

pub exception_written : (g : Parts) (bytes : List ℕ) → KindAndGraph hessian hessian_forms (pos 0) g bytes → WrittenReply hessian hessian_forms (Threw g) bytes
exception_written g bytes k = subst (WrittenReply hessian hessian_forms (Threw g)) (sym k.joined) (exception g k.kind k.values k.is_kind k.written)

-- roots that are not told to be null alone
pub some_roots : (told : Bool) (roots : List GraphValue) → told ≡ false → (roots ≡ Null ∷ [] → IsTrue told) → roots ≢ Null ∷ []
some_roots told roots e h is = let k : IsTrue false = subst IsTrue e (h is) in cc
