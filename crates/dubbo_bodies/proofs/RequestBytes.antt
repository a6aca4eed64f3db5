-- What is read of a request is bytes, and what its readers answer.
use Rattle.std.proofs.Common.{◌≡◌, ◌≢◌, ℕ, List, refl, sym, subst}
use Rattle.std.specs.Prelude.{Result, Ok, Err, IfOk, IfErr, MatchResult}
use Rattle.hessian_graph.specs.Shape.{Text}
use Rattle.hessian_text.specs.Spelling.{AreBytes}
use Rattle.hessian_reader.specs.Faults.{faults}
use Rattle.hessian_reader.specs.Leaves.{hessian, node_limit}
use Rattle.hessian_reader.proofs.LeafBytes.{no_bytes}
use Rattle.hessian_reader.proofs.OneWay.{bytes_both}
use Rattle.hessian_reader.proofs.Running.{reads}
use Rattle.hessian_reader.proofs.Stopping.{leads_bytes}
use Rattle.dubbo_header.specs.declared.header.Header.{Header}
use Rattle.dubbo_bodies.specs.declared.fault.RequestFault.{RequestFault}
use Rattle.dubbo_bodies.specs.declared.fault.RequestFault.TheVariants.{BadSerial, Hessian, NotText, Descriptor, BadAttachments, OutOfMemory}
use Rattle.dubbo_bodies.specs.declared.message.Request.{Request}
use Rattle.dubbo_bodies.specs.Fields.{FieldsSpelling}
use Rattle.dubbo_bodies.specs.Fields.FieldsSpelling.{none as no_fields, one as one_field}
use Rattle.dubbo_bodies.specs.Refusals.{BodyCause, RequestRefusal}
use Rattle.dubbo_bodies.specs.RequestBody.{RequestOf}
use Rattle.dubbo_bodies.specs.RequestReading.{SaysTheSame, IsRefusedRequest}
use Rattle.dubbo_bodies.proofs.FieldsOnce.{form_of, field_bytes}
use Rattle.dubbo_bodies.proofs.OneReading.{one_request, none_refused}

-- ---- bytes

fields_bytes : {place : ℕ} {texts : List Text} {bytes : List ℕ} → FieldsSpelling hessian place texts bytes → AreBytes bytes
fields_bytes (no_fields place) = no_bytes
fields_bytes (one_field place text texts f r is more) = bytes_both f r (field_bytes (form_of is)) (fields_bytes more)

-- a body that is a request is bytes
pub request_bytes : (header : Header) (body : List ℕ) (r : Request) → RequestOf hessian node_limit header body r → AreBytes body
request_bytes header body r q =
    let read = reads q.graph q.values q.denotes in
    subst AreBytes (sym q.begins.joined) (bytes_both q.begins.front q.values (fields_bytes q.begins.fields) (leads_bytes read.leads))

-- ---- laws

pub one_reading : (header : Header) (body : List ℕ) (r s : Request) → RequestOf hessian node_limit header body r → RequestOf hessian node_limit header body s → SaysTheSame r s
one_reading header body r s p q = one_request header body r s (request_bytes header body r p) p q

pub never_refused : (header : Header) (body : List ℕ) (r : Request) (cause : BodyCause) → RequestOf hessian node_limit header body r → RequestRefusal hessian faults node_limit header body cause → ⊥
never_refused header body r cause q = none_refused header body r cause (request_bytes header body r q) q

-- ---- answers

is_memory : (fault : RequestFault) → (fault ≢ OutOfMemory → ⊥) → fault ≡ OutOfMemory
is_memory (BadSerial n) h = absurd (h (λ e. cc))
is_memory (Hessian f) h = absurd (h (λ e. cc))
is_memory (NotText k) h = absurd (h (λ e. cc))
is_memory (Descriptor d) h = absurd (h (λ e. cc))
is_memory BadAttachments h = absurd (h (λ e. cc))
is_memory OutOfMemory h = refl

-- where a header and a body are a request, it is read, or memory is wanted
abbrev pub Completes : Header → List ℕ → Result Request RequestFault → Type 0
Completes header body result = (r : Request) → RequestOf hessian node_limit header body r → MatchResult result (λ read. SaysTheSame read r) (λ fault. fault ≡ OutOfMemory)

pub completes : (header : Header) (body : List ℕ) (result : Result Request RequestFault) → IfOk result (RequestOf hessian node_limit header body) → IfErr result (λ fault. fault ≢ OutOfMemory → IsRefusedRequest header body fault) → Completes header body result
completes header body (Ok read) ok why = λ r q. one_reading header body read r ok q
completes header body (Err fault) ok why = λ r q. is_memory fault (λ some. let w = why some in never_refused header body r w.0 q w.2)

pub refuses : (header : Header) (body : List ℕ) (result : Result Request RequestFault) → Completes header body result → IfErr result (λ fault. fault ≢ OutOfMemory → (r : Request) → RequestOf hessian node_limit header body r → ⊥)
refuses header body (Ok read) h = tt
refuses header body (Err fault) h = λ some r q. some (h r q)
