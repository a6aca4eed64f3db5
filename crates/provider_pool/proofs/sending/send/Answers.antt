use Rattle.std.proofs.Common.{[], ◌∷◌, sym, subst}
use Rattle.provider_pool.specs.declared.sending.Outcome.{Outcome}
use Rattle.provider_pool.specs.Writes.{Writes, frame_of}
use Rattle.provider_pool.proofs.SendLemmas.{sent_in_part}
use Rattle.provider_pool.proofs.sending.send.Goals as goal

pub returns-in-Err-clause-writes : goal.returns-in-Err-clause-writes
returns-in-Err-clause-writes g c =
    let frame = frame_of c.args.header.now c.args.body.now in
    let before = g.K.Sink.state c.args.sink.now in
    let after = g.K.Sink.state c.send_frame.new.sink in
    subst (λ (o : Outcome). Writes before after (frame ∷ []) o) (sym c.lost.ensures) (sent_in_part before after frame c.in-Err.fault c.requires.whole c.in-Err.ensures.fault)
