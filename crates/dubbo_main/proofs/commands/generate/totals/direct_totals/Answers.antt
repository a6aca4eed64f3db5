use Rattle.std.proofs.Common.{arith}
use Rattle.dubbo_main.specs.Generating.AreTotals.{none}
use Rattle.dubbo_main.proofs.Totalling.{next_totals}
use Rattle.dubbo_main.proofs.commands.generate.totals.direct_totals.Goals as goal

pub loop-asked-init : goal.loop-asked-init
loop-asked-init c = (none, record { nodes = omega arith; values = omega arith; exceptions = omega arith; statuses = omega arith })

pub loop-asked-preserved : goal.loop-asked-preserved
loop-asked-preserved c = (
  next_totals _ c.calls-calls.result.now c.loop-asked.asked-index c.asked-item.result c.loop-asked.totals c.in_ok-totals.totals c.in_ok-reply.reply c.loop-asked-test.true c.asked-item.is c.loop-asked.invariant.0 c.in_ok-reply.ensures.direct c.in_ok-totals.ensures.counted,
  c.in_ok-totals.ensures.few c.loop-asked.asked-index c.loop-asked.invariant.1,
)
