use Rattle.provider_pool.proofs.MayCall.{read_may_call}
use Rattle.provider_pool.proofs.calling.call_alone.Goals as goal

pub call-requires-clause-args : goal.call-requires-clause-args
call-requires-clause-args c = (read_may_call c.args.body c.requires.0 c.requires.1 c.in-Ok.request (c.in-Ok.ensures.ok c.requires.0 c.requires.1.started)).args

pub call-requires-clause-writable : goal.call-requires-clause-writable
call-requires-clause-writable c = (read_may_call c.args.body c.requires.0 c.requires.1 c.in-Ok.request (c.in-Ok.ensures.ok c.requires.0 c.requires.1.started)).writable

pub call-requires-clause-few : goal.call-requires-clause-few
call-requires-clause-few c = (read_may_call c.args.body c.requires.0 c.requires.1 c.in-Ok.request (c.in-Ok.ensures.ok c.requires.0 c.requires.1.started)).few
