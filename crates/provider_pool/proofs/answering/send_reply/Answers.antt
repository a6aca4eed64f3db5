use Rattle.std.proofs.Common.{◌≡◌, ℕ, List, ◌∷◌, length, refl, ap, sym, subst, ◌∙◌, arith, lit<}
use Rattle.std.specs.Prelude.{codes}
use Rattle.provider_pool.specs.Writes.{RepliesWith, frame_of}
use Rattle.provider_pool.proofs.Replied.{answer_whole, sends_reply, starved_with}
use Rattle.provider_pool.proofs.answering.send_reply.Goals as goal

pub send-requires-clause-whole : goal.send-requires-clause-whole
send-requires-clause-whole g c =
    let r = c.in-Ok.ensures c.requires.held.0 c.requires.held.1 in
    let long : c.len.result ≡ length c.deref.result.now = c.len.ensures ∙ sym c.deref.ensures.len in
    answer_whole c.header_of_answer-header.result c.deref.result.now c.in-Ok.written.status c.args.id c.len.result r.small (omega (arith, c.ranges.id)) c.header_of_answer-header.ensures long (omega (arith, r.short, ap length c.deref.ensures.value))

pub returns-in-Ok-clause-writes : goal.returns-in-Ok-clause-writes
returns-in-Ok-clause-writes g c header held same =
    let r = c.in-Ok.ensures header held in
    let frame = frame_of header c.args.body.fed in
    let status = c.in-Ok.written.status in
    let bytes = c.deref.result.now in
    let long : c.len.result ≡ length bytes = c.len.ensures ∙ sym c.deref.ensures.len in
    let whole = answer_whole c.header_of_answer-header.result bytes status c.args.id c.len.result r.small (omega (arith, c.ranges.id)) c.header_of_answer-header.ensures long (omega (arith, r.short, ap length c.deref.ensures.value)) in
    let replies : RepliesWith c.args.services.now frame status bytes = subst (λ (b : List ℕ). RepliesWith c.args.services.now frame status b) (sym c.deref.ensures.value) r in
    sends_reply _ _ c.args.services.now frame c.header_of_answer-header.result bytes status c.args.id c.len.result c.send.result replies same c.header_of_answer-header.ensures long whole c.send.ensures.writes

pub returns-in-Err-clause-writes : goal.returns-in-Err-clause-writes
returns-in-Err-clause-writes g c header held same =
    let frame = frame_of header c.args.body.fed in
    let bytes : List ℕ = 0x0d ∷ codes "out of memory" in
    let whole = answer_whole c.header_of_answer-header-in-Err.result bytes 80 c.args.id 14 (lit< tt) (omega (arith, c.ranges.id)) c.header_of_answer-header-in-Err.ensures refl (omega arith) in
    sends_reply _ _ c.args.services.now frame c.header_of_answer-header-in-Err.result bytes 80 c.args.id 14 c.send-in-Err.result (starved_with c.args.services.now frame) same c.header_of_answer-header-in-Err.ensures refl whole c.send-in-Err.ensures.writes
