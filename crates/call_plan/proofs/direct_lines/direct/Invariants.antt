use Rattle.std.proofs.Common.{take}
use Rattle.call_plan.specs.DirectTranscript.{DirectLines}
use Rattle.call_plan.proofs.direct_lines.direct.Given as goal

abbrev pub invariant-loop-k : goal.invariant-loop-k
invariant-loop-k l = DirectLines l.services 0 (take l.k l.calls) l.text.items
