-- What the readers of replies answer, from what their stages say.
use Rattle.std.proofs.Common.{◌≡◌, ◌≢◌, ℕ, zero, suc, ◌<◌, true, false, arith, List, [], ◌∷◌, ◌++◌, length, refl, ap, sym, ◌∙◌, subst, append_assoc}
use Rattle.std.specs.Prelude.{◌==◌, Option, Some, Result, Ok, Err, IfOk, IfErr, MatchResult}
use Rattle.std.proofs.lemmas.Bool.Decides.{nat_tests}
use Rattle.std.proofs.lemmas.List.{append-nil}
use Rattle.hessian_graph.specs.Refusal.{Short}
use Rattle.hessian_text.specs.Spelling.{AreBytes}
use Rattle.hessian_reader.specs.declared.fault.HessianFault.TheVariants as told
use Rattle.hessian_reader.specs.Leaves.{hessian, node_limit}
use Rattle.dubbo_header.specs.declared.header.Header.{Header}
use Rattle.dubbo_bodies.specs.declared.message.Reply.{Reply}
use Rattle.dubbo_bodies.specs.declared.reply_fault.ReplyFault.{ReplyFault}
use Rattle.dubbo_bodies.specs.declared.reply_fault.ReplyFault.TheVariants as answers
use Rattle.dubbo_bodies.specs.declared.reply_reader.stage.Stage.{Stage}
use Rattle.dubbo_bodies.specs.Fields.{HESSIAN}
use Rattle.dubbo_bodies.specs.Refusals.{BadSerial, Hessian, EndsInside, IsInt}
use Rattle.dubbo_bodies.specs.Refusals.ReplyRefusal.{serial as refusal_serial, short_kind as refusal_short_kind}
use Rattle.dubbo_bodies.specs.RefusedReply.{IsRefusedReply, IsSameReply}
use Rattle.dubbo_bodies.specs.ReplyBody.{ReplyOf}
use Rattle.dubbo_bodies.specs.FedBody.{FedBody}
use Rattle.dubbo_bodies.specs.declared.reply_reader.reading.Reading.{Reading}
use Rattle.dubbo_bodies.specs.ReplyStages.{AtKind, StaysRefused, Stands, fed_body, HasStage}
use Rattle.dubbo_bodies.proofs.OneReply.{one_reply, no_reply_refused}

pub is_memory : (fault : ReplyFault) → (fault ≢ answers.OutOfMemory → ⊥) → fault ≡ answers.OutOfMemory
is_memory (answers.BadSerial n) h = absurd (h (λ e. cc))
is_memory (answers.Hessian f) h = absurd (h (λ e. cc))
is_memory (answers.BadKind z) h = absurd (h (λ e. cc))
is_memory answers.BadAttachments h = absurd (h (λ e. cc))
is_memory answers.OutOfMemory h = refl

-- what is a reply is answered, and not refused
pub completes : (header : Header) (body : List ℕ) (result : Result Reply ReplyFault) → AreBytes body → IfOk result (ReplyOf hessian node_limit header body) → IfErr result (λ fault. fault ≢ answers.OutOfMemory → IsRefusedReply header body fault) → (reply : Reply) → ReplyOf hessian node_limit header body reply → MatchResult result (λ read. IsSameReply read reply) (λ fault. fault ≡ answers.OutOfMemory)
completes header body (Ok read) small ok why reply is = one_reply header body read reply small ok is
completes header body (Err fault) small ok why reply is = is_memory fault (λ some. let (cause, tells, r) = why some in no_reply_refused header body reply cause small is r)

pub refuses : (header : Header) (body : List ℕ) (result : Result Reply ReplyFault) → AreBytes body → IfErr result (λ fault. fault ≢ answers.OutOfMemory → IsRefusedReply header body fault) → IfErr result (λ fault. fault ≢ answers.OutOfMemory → (reply : Reply) → ReplyOf hessian node_limit header body reply → ⊥)
refuses header body (Ok read) small why = tt
refuses header body (Err fault) small why = λ some reply is. let (cause, tells, r) = why some in no_reply_refused header body reply cause small is r

-- the same of what a reading holds
pub answered : (header seen : Header) (body fed : List ℕ) (result : Result Reply ReplyFault) → seen ≡ header → fed ≡ body → AreBytes body → IfOk result (ReplyOf hessian node_limit seen fed) → IfErr result (λ fault. fault ≢ answers.OutOfMemory → IsRefusedReply seen fed fault) → (reply : Reply) → ReplyOf hessian node_limit header body reply → MatchResult result (λ read. IsSameReply read reply) (λ fault. fault ≡ answers.OutOfMemory)
answered header seen body fed result e f small ok why =
    completes header body result small (subst (λ h. IfOk result (ReplyOf hessian node_limit h body)) e (subst (λ b. IfOk result (ReplyOf hessian node_limit seen b)) f ok))
    (subst (λ h. IfErr result (λ fault. fault ≢ answers.OutOfMemory → IsRefusedReply h body fault)) e (subst (λ b. IfErr result (λ fault. fault ≢ answers.OutOfMemory → IsRefusedReply seen b fault)) f why))

pub refused : (header seen : Header) (body fed : List ℕ) (result : Result Reply ReplyFault) → seen ≡ header → fed ≡ body → AreBytes body → IfErr result (λ fault. fault ≢ answers.OutOfMemory → IsRefusedReply seen fed fault) → IfErr result (λ fault. fault ≢ answers.OutOfMemory → (reply : Reply) → ReplyOf hessian node_limit header body reply → ⊥)
refused header seen body fed result e f small why =
    refuses header body result small (subst (λ h. IfErr result (λ fault. fault ≢ answers.OutOfMemory → IsRefusedReply h body fault)) e (subst (λ b. IfErr result (λ fault. fault ≢ answers.OutOfMemory → IsRefusedReply seen b fault)) f why))

-- what contracts see of a reader with a reading
pub record Seen (self : FedBody) (reading : Reading) (header : Header) : Type 0 where
  pub header_is : reading.came.header ≡ header
  pub bytes_are : reading.came.fed.bytes ≡ self.fed
  pub small : AreBytes self.fed

same_header : (a b : Header) → Some a ≡ Some b → a ≡ b
same_header a b e = cc

pub seen_of : (self : FedBody) (inside : Option Reading) (reading : Reading) (header : Header) → fed_body inside ≡ self → inside ≡ Some reading → HasStage inside → self.started ≡ Some header → Seen self reading header
seen_of self inside reading header view is has started =
    let shown : fed_body (Some reading) ≡ self = ap fed_body (sym is) ∙ view in
    let bytes : reading.came.fed.bytes ≡ self.fed = ap (λ (s : FedBody). s.fed) shown in
    let reads : HasStage (Some reading) = subst HasStage is has in
    record { header_is = same_header reading.came.header header (ap (λ (s : FedBody). s.started) shown ∙ started); bytes_are = bytes; small = subst AreBytes bytes reads.small }

-- ---- stages

pub serial_refused : (header : Header) (bytes : List ℕ) → header.serial ≢ HESSIAN → StaysRefused header bytes (answers.BadSerial header.serial)
serial_refused header bytes ne = λ some more. (BadSerial header.serial, refl, refusal_serial ne)

pub refused_now : (header : Header) (bytes : List ℕ) (fault : ReplyFault) → StaysRefused header bytes fault → fault ≢ answers.OutOfMemory → IsRefusedReply header bytes fault
refused_now header bytes fault stays some = subst (λ b. IsRefusedReply header b fault) (append-nil bytes) (stays some [])

pub stays_later : (header : Header) (bytes piece : List ℕ) (fault : ReplyFault) → StaysRefused header bytes fault → StaysRefused header (bytes ++ piece) fault
stays_later header bytes piece fault stays some more = subst (λ b. IsRefusedReply header b fault) (sym (append_assoc bytes piece more)) (stays some (piece ++ more))

pub stands_still : (header : Header) (bytes piece : List ℕ) (stage : Stage) → length piece ≡ 0 → Stands header bytes stage → Stands header (bytes ++ piece) stage
stands_still header bytes [] stage e s = subst (λ b. Stands header b stage) (sym (append-nil bytes)) s
stands_still header bytes (c ∷ piece) stage e s = absurd cc

pub kind_cut_short : (header : Header) (bytes came : List ℕ) (count : ℕ) → AtKind header bytes came → count ≡ length bytes → EndsInside (IsInt hessian) bytes → IsRefusedReply header bytes (answers.Hessian (told.Short count))
kind_cut_short header bytes came count a counted ends = (Hessian (Short (length bytes)), ap (λ n. answers.Hessian (told.Short n)) counted, refusal_short_kind a.outcome.serial a.outcome.status ends)

pub is_none : (n : ℕ) → (n == 0) ≡ true → n ≡ 0
is_none zero e = refl
is_none (suc n) e = grind (arith, nat_tests)

pub is_some : (n : ℕ) → (n == 0) ≡ false → 0 < n
is_some zero e = absurd cc
is_some (suc n) e = omega arith
