use Rattle.call_plan.proofs.Scripting.{begun, one_more_read}
use Rattle.call_plan.proofs.scripts.read_lines.Goals as goal

pub loop-rest-init : goal.loop-rest-init
loop-rest-init c = rw (c.new-calls.ensures.items, c.new-services.ensures) (begun c.args.bytes.now)

pub loop-rest-preserved : goal.loop-rest-preserved
loop-rest-preserved c =
    let took = c.in-Ok.ensures {u = tt} in
    one_more_read c.args.bytes.now c.loop-rest.rest.now c.first_line.result.0.now c.first_line.result.1.now c.loop-rest.number c.loop-rest.services c.take_line.new.services
    c.loop-rest.calls.items c.take_line.new.calls.items c.loop-rest.invariant c.first_line.ensures.cut c.first_line.ensures.less took.taken took.ready
