use Rattle.std.proofs.Common.{◌≡◌, ◌≢◌, ℕ, ◌<◌, ◌≤◌, length, sym, ap, subst}
use Rattle.std.proofs.Common.{Vec, Global}
use Rattle.std.specs.Prelude.{Err, Result, ◌↔◌}
use Rattle.hessian_graph.specs.Shape.{shape_of}
use Rattle.hessian_writer.specs.Leaves.{hessian, hessian_forms}
use Rattle.dubbo_bodies.specs.declared.fault.WriteBodyFault.{WriteBodyFault}
use Rattle.dubbo_bodies.specs.declared.fault.WriteBodyFault.TheVariants.{TooLong, OutOfMemory}
use Rattle.dubbo_bodies.specs.declared.message.Reply.{Reply}
use Rattle.dubbo_bodies.specs.WrittenBody.{LIMIT, IsTooLong, WrittenReply}
use Rattle.service_table.specs.Direct.{EndsIn, Outcome, IsSendable, BAD_RESPONSE, too_long}
use Rattle.service_table.specs.Direct.Outcome.{answered, exceeded}
use Rattle.service_table.specs.Endings.{Stated}
use Rattle.service_table.specs.Endings.IsCanonEnding.{stated}
use Rattle.service_table.proofs.Outcomes.{has_body, is_short, then_ok}
use Rattle.service_table.proofs.Statuses.{too_long_sendable}
use Rattle.service_table.proofs.direct.answered.Goals as goal

abbrev Answer : Type 0
Answer = Result (Vec ℕ Global) WriteBodyFault

pub returns-in-Ok-clause-ends : goal.returns-in-Ok-clause-ends
returns-in-Ok-clause-ends c =
    let x = c.in_ok-reply.ensures.ends in
    record {
      ending = x.ending;
      canonical = x.canonical;
      is = answered x.ending x.is (has_body (λ count. count ≤ LIMIT) c.in_ok-reply.reply x.ending c.in-Ok._body.items x.canonical c.in-Ok.ensures.body c.in-Ok.ensures.short);
    }

pub returns-in-Ok-clause-sendable : goal.returns-in-Ok-clause-sendable
returns-in-Ok-clause-sendable c = record {
  writable = c.in_ok-reply.ensures.writable;
  short = is_short c.in_ok-reply.reply c.in-Ok._body.items c.in-Ok.ensures.body c.in-Ok.ensures.short;
  goes = c.in_ok-reply.ensures.goes;
}

-- the one body of a reply that is too long
exceeds : (reply : Reply) (fault : WriteBodyFault) (count : ℕ) → fault ≡ TooLong count → ((number : ℕ) → ◌≢◌ {A = Answer} (Err fault) (Err OutOfMemory) → ◌≡◌ {A = Answer} (Err fault) (Err (TooLong number)) ↔ IsTooLong (WrittenReply hessian hessian_forms reply) number) → IsTooLong (WrittenReply hessian hessian_forms reply) count
exceeds reply fault count is long =
    (long count (λ e. let other : ◌≡◌ {A = WriteBodyFault} (TooLong count) OutOfMemory = cc in cc)).0 (ap Err is)

above : (reply : Reply) (count : ℕ) (x : IsTooLong (WrittenReply hessian hessian_forms reply) count) → LIMIT < length x.body
above reply count x = subst (λ n. LIMIT < n) x.counted x.above

pub returns-in-Err-TooLong-clause-ends : goal.returns-in-Err-TooLong-clause-ends
returns-in-Err-TooLong-clause-ends c =
    let reply : Reply = c.in_ok-reply.reply in
    let x = c.in_ok-reply.ensures.ends in
    let y : IsTooLong (WrittenReply hessian hessian_forms reply) c.in-Err-TooLong.field-0-0 = exceeds reply c.in-Err-TooLong.field-0 c.in-Err-TooLong.field-0-0 c.in-Err-TooLong.field-0-is c.in-Err-TooLong.ensures.long in
    let o : Outcome c.args.kind (shape_of c.args.args.now) (Stated BAD_RESPONSE too_long) =
    exceeded x.ending x.is (has_body (λ count. LIMIT < count) reply x.ending y.body x.canonical y.is (above reply c.in-Err-TooLong.field-0-0 y)) in
    then_ok c.too_long.result (λ r e. subst (EndsIn (Outcome c.args.kind (shape_of c.args.args.now))) (sym e) (record { ending = Stated BAD_RESPONSE too_long; canonical = stated BAD_RESPONSE too_long; is = o })) c.too_long.ensures

pub returns-in-Err-TooLong-clause-sendable : goal.returns-in-Err-TooLong-clause-sendable
returns-in-Err-TooLong-clause-sendable c = then_ok c.too_long.result (λ reply e. subst IsSendable (sym e) too_long_sendable) c.too_long.ensures
