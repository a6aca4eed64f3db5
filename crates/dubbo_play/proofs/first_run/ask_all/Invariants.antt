use Rattle.std.proofs.Common.{take}
use Rattle.dubbo_play.specs.FirstFrames.{AreRequests}
use Rattle.dubbo_play.specs.FirstRun.{Adds}
use Rattle.dubbo_play.proofs.first_run.ask_all.Given as goal

abbrev pub invariant-loop-number : goal.invariant-loop-number
invariant-loop-number l = Adds (AreRequests (take l.number l.calls)) l.initial.asks.items l.asks.items
