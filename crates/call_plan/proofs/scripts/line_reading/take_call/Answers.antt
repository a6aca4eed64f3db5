use Rattle.std.proofs.Common.{sym, subst}
use Rattle.std.specs.Prelude.{All}
use Rattle.std.proofs.lemmas.List.Elements.{All-push}
use Rattle.call_plan.specs.Size.{IsReady}
use Rattle.call_plan.proofs.scripts.line_reading.take_call.Goals as goal

pub returns-in_ok-push-in-Some-clause-ready : goal.returns-in_ok-push-in-Some-clause-ready
returns-in_ok-push-in-Some-clause-ready c = λ before.
    let ready = rw c.in-Some.is at ((c.in_ok-call.ensures {u = tt}).ready) in
    subst (All IsReady) (sym (c.in_ok-push-in-Some.ensures {u = tt}).items) (All-push IsReady c.args.calls.now.items c.in-Some.call before ready)
