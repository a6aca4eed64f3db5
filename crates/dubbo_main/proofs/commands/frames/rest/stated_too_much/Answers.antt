use Rattle.std.proofs.Common.{arith}
use Rattle.dubbo_main.proofs.Rests.{too_much}
use Rattle.dubbo_main.proofs.commands.frames.rest.stated_too_much.Goals as goal

pub returns : goal.returns
returns c =
    let parts = c.in_ok-head.ensures.cases in
    too_much c.args.rest.now c.in_ok-head.head.now c.too_long.result parts.0 (omega (arith, parts.2)) c.too_long.ensures
