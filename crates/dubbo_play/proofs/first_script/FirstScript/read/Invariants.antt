use Rattle.std.proofs.Common.{length}
use Rattle.dubbo_play.proofs.Scripts.{IsReadTo}
use Rattle.dubbo_play.proofs.first_script.FirstScript.read.Given as goal

abbrev pub invariant-loop-rest : goal.invariant-loop-rest
invariant-loop-rest l = IsReadTo l.bytes l.rest l.number l.calls.items l.services

abbrev pub decreases-loop-rest : goal.decreases-loop-rest
decreases-loop-rest l = length l.rest
