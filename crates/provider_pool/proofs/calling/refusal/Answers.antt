use Rattle.std.proofs.Common.{◌≡◌, ℕ, List, ◌++◌, ◌≤◌, length, ap, sym, subst, ◌∙◌, arith}
use Rattle.std.specs.Prelude.{codes}
use Rattle.dubbo_bodies.specs.declared.message.Reply.TheVariants.{Status}
use Rattle.dubbo_bodies.specs.FaultTexts.{request_words}
use Rattle.service_table.specs.Direct.{IsSendable}
use Rattle.provider_pool.proofs.Replied.{refusal_sendable}
use Rattle.provider_pool.proofs.calling.refusal.Goals as goal

pub returns-clause-reply : goal.returns-clause-reply
returns-clause-reply c =
    let begun = c.in_ok-text.ensures.ok in
    let added = c.in_ok-push_str.ensures.bytes in
    let seen = c.as_str.ensures.value in
    let words = c.request_text-why.ensures in
    let kept = c.from.ensures in
    let text : c.from.result ≡ codes "bad request: " ++ request_words c.args.fault = cc in
    ap (Status 40) text

pub returns-clause-sendable : goal.returns-clause-sendable
returns-clause-sendable c =
    let begun = c.in_ok-text.ensures.ok in
    let added = c.in_ok-push_str.ensures.bytes in
    let seen = c.as_str.ensures.value in
    let words = c.request_text-why.ensures in
    let kept = c.from.ensures in
    let text : c.from.result ≡ codes "bad request: " ++ request_words c.args.fault = cc in
    let few : length (request_words c.args.fault) ≤ 48 = omega (arith, c.as_str.ensures.fits, ap length (seen ∙ words)) in
    subst (λ (words : List ℕ). IsSendable (Status 40 words)) (sym text) (refusal_sendable c.args.fault few)
