use Rattle.std.proofs.Common.{arith}
use Rattle.dubbo_play.proofs.Provided.{none_printed, printed_more, all_printed}
use Rattle.dubbo_play.proofs.first_run.print_all.Goals as goal

pub loop-reply-init : goal.loop-reply-init
loop-reply-init c = record {
  inside = omega arith;
  counted = omega arith;
  lines = λ calls fit js. none_printed calls c.args.answers.now c.new-printed.result.items c.new-printed.ensures.items js;
}

pub read_reply-requires : goal.read_reply-requires
read_reply-requires c = c.loop-reply.invariant.inside

pub loop-reply-smaller : goal.loop-reply-smaller
loop-reply-smaller c =
    let e = (c.in-Some.ensures {u = tt}).end in
    omega (arith, e.forward, e.within)

pub loop-reply-preserved : goal.loop-reply-preserved
loop-reply-preserved c =
    let e = (c.in-Some.ensures {u = tt}).end in
    record {
      inside = e.within;
      counted = omega (arith, e.forward, c.loop-reply.invariant.counted);
      lines = λ calls fit js. printed_more calls c.args.answers.now c.loop-reply.at c.in-Some.reply _ _ _ fit e.forward e.within
          (c.in-Some.ensures {u = tt}).reply (c.loop-reply.invariant.lines calls fit js) (c.in_ok-print_ok.ensures {u = tt});
    }

pub returns : goal.returns
returns c = λ calls fit js.
    all_printed calls c.args.answers.now c.loop-reply.at c.loop-reply.printed.items _ c.loop-reply.count fit (c.in_default.ensures {u = tt}).reply
    (c.loop-reply.invariant.lines calls fit js) (c.in_ok-print_summary.ensures {u = tt})
