use Rattle.std.proofs.Common.{ℤ, List, sym, subst, ◌∙◌, take_all, FitsSigned, to_z, of_z, w32}
use Rattle.std.proofs.lemmas.Int.{to_z-of_z}
use Rattle.dubbo_play.specs.FirstForm.{Call, IsCall}
use Rattle.dubbo_play.specs.FirstFrames.{IsRequestFrame, AreRequests}
use Rattle.dubbo_play.specs.FirstRun.{Adds}
use Rattle.dubbo_play.proofs.Runs.{on_err, adds_none, adds_grows, grows_more, asked_more}
use Rattle.dubbo_play.proofs.first_run.ask_all.Goals as goal

pub loop-number-init : goal.loop-number-init
loop-number-init c = adds_none IsRequestFrame c.args.asks.now.items

pub returns-in_err-write_request-clause-err : goal.returns-in_err-write_request-clause-err
returns-in_err-write_request-clause-err c = on_err c.from_residual.result
    (grows_more _ _ _ (adds_grows _ _ c.loop-number.invariant) (c.in_err-write_request.ensures {u = tt}).err)

pub loop-number-preserved : goal.loop-number-preserved
loop-number-preserved c =
    let here : IsCall c.index-calls-number.result = subst (λ (x : Call). IsCall x) (sym c.index-calls-number.is) (c.requires.each c.loop-number.number c.index-calls-number.result c.loop-number-test.true) in
    let fits : FitsSigned w32 c.argument.result = subst (λ (z : ℤ). FitsSigned w32 z) (sym c.argument.ensures) here.argument in
    asked_more c.args.calls.now c.loop-number.number c.index-calls-number.result c.path.result.now c.method.result.now (to_z w32 (of_z w32 c.argument.result)) _ _ _
    c.loop-number-test.true c.index-calls-number.is c.path.ensures c.method.ensures (to_z-of_z w32 c.argument.result fits ∙ c.argument.ensures) c.loop-number.invariant (c.in_ok-write_request.ensures {u = tt}).ok

pub returns-clause-ok : goal.returns-clause-ok
returns-clause-ok c =
    subst (λ (x : List Call). Adds (AreRequests x) c.args.asks.now.items c.loop-number.asks.items) (take_all c.loop-number.number c.args.calls.now c.loop-number-test.false) c.loop-number.invariant
