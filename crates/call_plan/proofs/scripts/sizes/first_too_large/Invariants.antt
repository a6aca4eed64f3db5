use Rattle.std.proofs.Common.{All, take}
use Rattle.call_plan.specs.Size.{IsSmall}
use Rattle.call_plan.proofs.scripts.sizes.first_too_large.Given as goal

abbrev pub invariant-loop-call : goal.invariant-loop-call
invariant-loop-call l = All IsSmall (take l.call-index l.calls)
