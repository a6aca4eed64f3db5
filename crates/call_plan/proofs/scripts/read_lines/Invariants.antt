use Rattle.std.proofs.Common.{length}
use Rattle.call_plan.proofs.Scripting.{IsReadTo}
use Rattle.call_plan.proofs.scripts.read_lines.Given as goal

abbrev pub invariant-loop-rest : goal.invariant-loop-rest
invariant-loop-rest l = IsReadTo l.bytes l.rest l.number l.services l.calls.items

abbrev pub decreases-loop-rest : goal.decreases-loop-rest
decreases-loop-rest l = length l.rest
