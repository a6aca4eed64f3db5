use Rattle.std.proofs.Common.{Option, Some, None, subst, arith}
use Rattle.dubbo_play.specs.FirstRun.{RequestAt, FindsFrame, EndsIn}
use Rattle.dubbo_play.specs.declared.first_frames.Found.{Found}
use Rattle.dubbo_play.proofs.Runs.{on_err, grows_same, grows_more, adds_grows}
use Rattle.dubbo_play.proofs.Provided.{none_answered, answered_more, all_answered}
use Rattle.dubbo_play.proofs.first_run.answer_all.Goals as goal

pub loop-request-init : goal.loop-request-init
loop-request-init c = record {
  inside = omega arith;
  grown = grows_same c.args.answers.now.items;
  answered = λ calls fit js. none_answered calls c.args.asks.now c.args.answers.now.items js;
}

pub read_request-requires : goal.read_request-requires
read_request-requires c = c.loop-request.invariant.inside

pub returns-in_err-request-clause-err : goal.returns-in_err-request-clause-err
returns-in_err-request-clause-err c = on_err c.from_residual.result c.loop-request.invariant.grown

pub returns-in_err-write_reply-clause-err : goal.returns-in_err-write_reply-clause-err
returns-in_err-write_reply-clause-err c =
    on_err c.from_residual-in_err-write_reply.result (grows_more _ _ _ c.loop-request.invariant.grown (c.in_err-write_reply.ensures {u = tt}).err)

pub loop-request-smaller : goal.loop-request-smaller
loop-request-smaller c =
    let e : EndsIn c.args.asks.now c.loop-request.at c.in-Some.request = rw c.in-Some.is at (c.in_ok-request.ensures {u = tt}).end in
    omega (arith, e.forward, e.within)

pub loop-request-preserved : goal.loop-request-preserved
loop-request-preserved c =
    let e : EndsIn c.args.asks.now c.loop-request.at c.in-Some.request = rw c.in-Some.is at (c.in_ok-request.ensures {u = tt}).end in
    let found : FindsFrame (RequestAt c.args.asks.now c.loop-request.at) (Some c.in-Some.request) =
    subst (λ (o : Option Found). FindsFrame (RequestAt c.args.asks.now c.loop-request.at) o) c.in-Some.is (c.in_ok-request.ensures {u = tt}).request in
    let one = (c.in_ok-write_reply.ensures {u = tt}).ok in
    record {
      inside = e.within;
      grown = grows_more _ _ _ c.loop-request.invariant.grown (adds_grows _ _ one);
      answered = λ calls fit js. answered_more calls c.args.asks.now c.loop-request.at c.in-Some.request _ _ _ fit e.forward e.within
          found (c.loop-request.invariant.answered calls fit js) one;
    }

pub returns-clause-ok : goal.returns-clause-ok
returns-clause-ok c = λ calls fit js.
    let found : FindsFrame (RequestAt c.args.asks.now c.loop-request.at) None =
    subst (λ (o : Option Found). FindsFrame (RequestAt c.args.asks.now c.loop-request.at) o) c.in_default.is (c.in_ok-request.ensures {u = tt}).request in
    all_answered calls c.args.asks.now c.loop-request.at _ _ fit found (c.loop-request.invariant.answered calls fit js)
