use Rattle.std.proofs.Common.{[], refl}
use Rattle.dubbo_bodies.proofs.RequestBytes.{completes, refuses}
use Rattle.dubbo_bodies.proofs.reading.read_request.Goals as goal

pub returns-clause-complete : goal.returns-clause-complete
returns-clause-complete c =
    let header = c.args.header.now in
    let body = c.args.body.now in
    let stands = c.fed-progress.ensures.stands header [] refl c.begin.ensures.stands in
    completes header body c.finish.result (c.finish.ensures.ok header body refl stands) (c.finish.ensures.why header body refl stands)

pub returns-clause-refused : goal.returns-clause-refused
returns-clause-refused c =
    let header = c.args.header.now in
    let body = c.args.body.now in
    let stands = c.fed-progress.ensures.stands header [] refl c.begin.ensures.stands in
    refuses header body c.finish.result (completes header body c.finish.result (c.finish.ensures.ok header body refl stands) (c.finish.ensures.why header body refl stands))
