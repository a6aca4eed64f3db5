use Rattle.std.proofs.Common.{length}
use Rattle.dubbo_main.proofs.Ringing.{IsTakenTo}
use Rattle.dubbo_main.proofs.commands.ring.answer_ring.Given as goal

abbrev pub invariant-loop-rest : goal.invariant-loop-rest
invariant-loop-rest l = IsTakenTo l.input l.rest l.number l.ring l.text.items

abbrev pub decreases-loop-rest : goal.decreases-loop-rest
decreases-loop-rest l = length l.rest
