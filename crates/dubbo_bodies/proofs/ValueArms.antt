-- What each answer of the values' reading makes of the reading of a request.
use Rattle.std.proofs.Common.{◌≡◌, ◌≢◌, ℕ, suc, ◌+◌, ◌<◌, ◌≤◌, List, [], ◌∷◌, ◌++◌, length, take, sym, ap, ◌∙◌, subst, arith, length-append}
use Rattle.std.specs.Prelude.{None, Result, Ok, Err, IfErr}
use Rattle.hessian_graph.specs.declared.parts.Parts.{Parts}
use Rattle.hessian_graph.specs.Shape.{Text, shape_of}
use Rattle.hessian_reader.specs.declared.fault.HessianFault.{HessianFault}
use Rattle.hessian_reader.specs.declared.fault.HessianFault.TheVariants as told
use Rattle.hessian_reader.specs.declared.reader.Fed.{Fed}
use Rattle.hessian_reader.specs.declared.reader.Fed.TheVariants as done
use Rattle.hessian_reader.specs.declared.reader.GraphReader.{GraphReader}
use Rattle.hessian_reader.specs.Leaves.{hessian, node_limit, IsDenoted}
use Rattle.hessian_reader.specs.Reading.{HasRead, Tells, refusal_of}
use Rattle.hessian_reader.specs.Refusing.{IsStoppedBy, IsRefusedBy}
use Rattle.dubbo_header.specs.declared.header.Header.{Header}
use Rattle.dubbo_bodies.specs.declared.fault.RequestFault.{RequestFault}
use Rattle.dubbo_bodies.specs.declared.fault.RequestFault.TheVariants as faulty
use Rattle.dubbo_bodies.specs.declared.message.Request.{Request}
use Rattle.dubbo_bodies.specs.declared.request_reader.values.ValuePart.{ValuePart}
use Rattle.dubbo_bodies.specs.Descriptor.{HasArgs}
use Rattle.dubbo_bodies.specs.Fields.{DESCRIPTOR, BeginsWith, fields_of}
use Rattle.dubbo_bodies.specs.Refusals.{LacksAttachments}
use Rattle.dubbo_bodies.specs.RequestBody.{ValuesOf, RequestOf}
use Rattle.dubbo_bodies.specs.RequestReading.{IsRefusedRequest}
use Rattle.dubbo_bodies.specs.RequestStages.{InValues, StaysRefused}
use Rattle.dubbo_bodies.proofs.AttachmentsOnce.{same_last}
use Rattle.dubbo_bodies.proofs.FieldSteps.{begins_more, came_at}
use Rattle.dubbo_bodies.proofs.ValueSteps.{Behind, Moves, behind_more, done_at, stays_whole, values_stay, values_refused, trailing_stays, attachments_refused, all_denoted}

pub behind_texts : (p : ValuePart) (header : Header) (fed : List ℕ) (i : InValues p header fed) → Behind header fed p.from i.came i.count
behind_texts p header fed i = record { texts = i.texts; desc = i.desc; begins = subst (λ (ts : List Text). BeginsWith hessian header fed ts p.from i.came) i.texts_are i.begins; place = i.place; counted = i.counted }

-- ---- a piece

pub values_go_on : (p q : ValuePart) (fed_as : Fed) (header : Header) (fed piece : List ℕ) → q.texts ≡ p.texts → q.from ≡ p.from → ((roots : ℕ) (came : List ℕ) → HasRead p.values roots came → Tells roots came piece fed_as × HasRead q.values roots (came ++ piece)) → refusal_of q.values ≡ None → ((used : ℕ) → fed_as ≡ done.Done used → length piece ≤ used) → InValues p header fed → InValues q header (fed ++ piece)
values_go_on p q fed_as header fed piece e f tells serves all i =
    let (told, read) = tells (suc i.count) i.came i.read in
    record {
      texts = i.texts;
      desc = i.desc;
      came = i.came ++ piece;
      count = i.count;
      texts_are = ap (λ t. t.items) e ∙ i.texts_are;
      place = i.place;
      begins = subst (λ n. BeginsWith hessian header (fed ++ piece) q.texts.items n (i.came ++ piece)) (sym f) (subst (λ t. BeginsWith hessian header (fed ++ piece) t.items p.from (i.came ++ piece)) (sym e) (begins_more header piece i.begins));
      counted = i.counted;
      read = read;
      serves = serves;
      whole = stays_whole (suc i.count) i.came piece fed_as read.bytes i.whole told all;
    }

pub values_stop : (most : ℕ) (p : ValuePart) (header : Header) (fed piece : List ℕ) (fault : HessianFault) (result : RequestFault) → length (fed ++ piece) ≤ most → ((roots : ℕ) (came : List ℕ) → HasRead p.values roots came → fault ≢ told.OutOfMemory → IsStoppedBy roots (came ++ piece) fault) → (result ≢ faulty.OutOfMemory → fault ≢ told.OutOfMemory) → Moves most p.from fault result → InValues p header fed → StaysRefused result header (fed ++ piece)
values_stop most p header fed piece fault result room why some moves i =
    values_stay most header (fed ++ piece) p.from (i.came ++ piece) i.count fault result room (behind_more header fed p.from i.came i.count piece (behind_texts p header fed i)) (λ s. why (suc i.count) i.came i.read (some s)) moves

pub values_trail : (p : ValuePart) (values : GraphReader) (header : Header) (fed piece : List ℕ) (used at place : ℕ) → at ≡ length fed → place ≡ at + used → used < length piece → ((roots : ℕ) (came : List ℕ) → HasRead p.values roots came → Tells roots came piece (done.Done used) × HasRead values roots (came ++ piece)) → InValues p header fed → StaysRefused (faulty.Hessian (told.Trailing place)) header (fed ++ piece)
values_trail p values header fed piece used at place here there low tells i =
    let (n, ends, is, within) = (tells (suc i.count) i.came i.read).0 in
    let end = done_at (suc i.count) i.came piece used n i.whole ends is in
    let long = came_at header i.begins in
    let both = length-append i.came piece in
    trailing_stays header (fed ++ piece) p.from (i.came ++ piece) i.count n place (behind_more header fed p.from i.came i.count piece (behind_texts p header fed i)) ends (omega (arith, end, both, low)) (omega (arith, end, long, here, there))

-- ---- the end

pub values_fail : (most : ℕ) (p : ValuePart) (header : Header) (fed : List ℕ) (fault : HessianFault) (result : RequestFault) → length fed ≤ most → ((roots : ℕ) (came : List ℕ) → HasRead p.values roots came → fault ≢ told.OutOfMemory → IsRefusedBy roots came fault) → (result ≢ faulty.OutOfMemory → fault ≢ told.OutOfMemory) → Moves most p.from fault result → InValues p header fed → result ≢ faulty.OutOfMemory → IsRefusedRequest header fed result
values_fail most p header fed fault result room why some moves i s =
    values_refused most header fed p.from i.came i.count fault result room (behind_texts p header fed i) (why (suc i.count) i.came i.read (some s)) moves

-- the graph of the values that were read
pub record HasGraph (p : ValuePart) (header : Header) (fed : List ℕ) (g : Parts) (i : InValues p header fed) : Type 0 where
  pub denoted : IsDenoted i.came (shape_of g)
  pub roots : length g.roots ≡ suc i.count

pub graph_read : (p : ValuePart) (header : Header) (fed : List ℕ) (g : Parts) (i : InValues p header fed) → ((roots : ℕ) (came : List ℕ) → HasRead p.values roots came → (n : ℕ) × (n ≤ length came) × IsDenoted (take n came) (shape_of g) × (length g.roots ≡ roots)) → HasGraph p header fed g i
graph_read p header fed g i ok =
    let all = ok (suc i.count) i.came i.read in
    record { denoted = all_denoted (suc i.count) i.came g i.whole all; roots = all.3 }

fifth : (texts : List Text) (desc : Text) (r : Request) → fields_of r ≡ texts ++ desc ∷ [] → length texts ≡ DESCRIPTOR → desc ≡ r.desc
fifth texts desc r e place = sym (same_last (r.dubbo ∷ r.path ∷ r.version ∷ r.method ∷ []) texts r.desc desc e (sym place)).last

pub request_read : (p : ValuePart) (header : Header) (fed : List ℕ) (g : Parts) (r : Request) (i : InValues p header fed) → HasGraph p header fed g i → fields_of r ≡ p.texts.items → ValuesOf (shape_of g) i.count r → RequestOf hessian node_limit header fed r
request_read p header fed g r i h texts are = record {
  at = p.from;
  values = i.came;
  begins = subst (λ (ts : List Text). BeginsWith hessian header fed ts p.from i.came) (sym texts) i.begins;
  count = i.count;
  counted = subst (λ d. HasArgs d i.count) (fifth i.texts i.desc r (texts ∙ i.texts_are) i.place) i.counted;
  graph = shape_of g;
  denotes = h.denoted;
  are = are;
}

pub no_attachments : (p : ValuePart) (header : Header) (fed : List ℕ) (g : Parts) (result : RequestFault) (i : InValues p header fed) → HasGraph p header fed g i → result ≡ faulty.BadAttachments → LacksAttachments (shape_of g) i.count → IsRefusedRequest header fed result
no_attachments p header fed g result i h e lacks = attachments_refused header fed p.from i.came i.count (shape_of g) result (behind_texts p header fed i) h.denoted lacks e

-- what holds of an answer's fault
pub if_err : {V E : Type 0} (result : Result V E) (P Q : E → Type 0) → ((e : E) → P e → Q e) → IfErr result P → IfErr result Q
if_err (Ok v) P Q f p = p
if_err (Err e) P Q f p = f e p
