use Rattle.provider_pool.specs.Writes.{frame_of}
use Rattle.provider_pool.proofs.Replied.{called, refused}
use Rattle.provider_pool.proofs.MayCall.{read_may_call}
use Rattle.provider_pool.proofs.calling.reply_to.Goals as goal

pub call-requires-clause-args : goal.call-requires-clause-args
call-requires-clause-args c = (read_may_call c.args.body c.requires.0 c.requires.1 c.in-Ok.request (c.in-Ok.ensures.ok c.requires.0 c.requires.1.started)).args

pub call-requires-clause-writable : goal.call-requires-clause-writable
call-requires-clause-writable c = (read_may_call c.args.body c.requires.0 c.requires.1 c.in-Ok.request (c.in-Ok.ensures.ok c.requires.0 c.requires.1.started)).writable

pub call-requires-clause-few : goal.call-requires-clause-few
call-requires-clause-few c = (read_may_call c.args.body c.requires.0 c.requires.1 c.in-Ok.request (c.in-Ok.ensures.ok c.requires.0 c.requires.1.started)).few

pub returns-in-Ok-clause-replies : goal.returns-in-Ok-clause-replies
returns-in-Ok-clause-replies c = λ header held. called c.args.services.now (frame_of header c.args.body.fed) c.in-Ok.request c.call.result (c.in-Ok.ensures.ok header held.started) c.call.ensures.direct

pub returns-in_default : goal.returns-in_default
returns-in_default c = record {
  replies = λ header held. refused c.args.services.now (frame_of header c.args.body.fed) c.in-Err.fault c.refusal.result (c.in-Err.ensures.why header held.started c.in_default.not-OutOfMemory) c.refusal.ensures.reply;
  sendable = c.refusal.ensures.sendable;
}
