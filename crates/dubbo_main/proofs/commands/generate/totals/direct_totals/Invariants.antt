use Rattle.std.proofs.Common.{take}
use Rattle.dubbo_main.specs.Generating.{AreOfFew, AreTotals}
use Rattle.dubbo_main.proofs.commands.generate.totals.direct_totals.Given as goal

-- the totals are those of the calls so far
abbrev pub invariant-loop-asked : goal.invariant-loop-asked
invariant-loop-asked l = AreTotals l.services (take l.asked-index l.calls) l.totals × AreOfFew l.asked-index l.totals
