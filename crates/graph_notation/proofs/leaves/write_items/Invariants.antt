use Rattle.std.proofs.Common.{◌≤◌, ◌-◌, length}
use Rattle.graph_notation.specs.PrintedLeaves.{PrintsLeaves}
use Rattle.graph_notation.specs.Pressing.{comma}
use Rattle.graph_notation.proofs.leaves.write_items.Given as goal

-- the items before the place are printed
abbrev pub invariant-loop-at : goal.invariant-loop-at
invariant-loop-at l = record { further : l.start ≤ l.at; written : PrintsLeaves comma l.items l.begun l.initial.out.items l.start l.at l.out.items }

abbrev pub decreases-loop-at : goal.decreases-loop-at
decreases-loop-at l = length l.items - l.at
