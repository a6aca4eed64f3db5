use Rattle.call_plan.proofs.Scripting.{on_ok, takes_call, takes_service}
use Rattle.call_plan.proofs.scripts.line_reading.take_line.Goals as goal

pub returns-then-begins_call-clause-taken : goal.returns-then-begins_call-clause-taken
returns-then-begins_call-clause-taken c = on_ok c.take_call.result _ _ (takes_call c.args.services.now c.args.calls.now.items c.args.number c.args.line.now _) c.take_call.ensures.taken

pub returns-else-begins_call-clause-taken : goal.returns-else-begins_call-clause-taken
returns-else-begins_call-clause-taken c = on_ok c.take_service.result _ _ (takes_service c.args.services.now c.args.calls.now.items c.args.number c.args.line.now _) c.take_service.ensures.taken
