use Rattle.std.proofs.Common.{refl, sym, ◌∙◌}
use Rattle.provider_pool.specs.Writes.{frame_of}
use Rattle.provider_pool.proofs.Replied.{owes_reply, owes_sign}
use Rattle.provider_pool.proofs.answering.answer.Goals as goal

pub returns-in-Sign-clause-answers : goal.returns-in-Sign-clause-answers
returns-in-Sign-clause-answers g c = owes_sign _ _ c.args.services.now (frame_of c.args.header.now c.args.body.fed) c.send_sign.result (sym c.in-Sign.is ∙ c.what_is_asked.ensures) c.requires.held.whole c.send_sign.ensures.writes

pub returns-in-Reply-clause-answers : goal.returns-in-Reply-clause-answers
returns-in-Reply-clause-answers g c = owes_reply _ _ c.args.services.now (frame_of c.args.header.now c.args.body.fed) c.send_reply.result (sym c.in-Reply.is ∙ c.what_is_asked.ensures) (c.send_reply.ensures.writes c.args.header.now c.requires.held refl)
