use Rattle.std.proofs.Common.{ℕ, ◌<◌, ◌≤◌, ◌-◌, List, [], length, get_or}
use Rattle.graph_notation.specs.declared.element.Element.{Element}
use Rattle.graph_notation.specs.PrintedLeaves.{PrintsLeaves}
use Rattle.graph_notation.specs.Pressing.{Prints}
use Rattle.graph_notation.proofs.leaves.write_fields.Given as goal

-- the values before the place are printed
abbrev pub invariant-loop-at : goal.invariant-loop-at
invariant-loop-at l = record {
  further : l.start ≤ l.at;
  written : (es : ℕ → List Element) → ((k : ℕ) → k < length l.values → Prints [] (es k) (get_or l.texts k [])) → PrintsLeaves es l.values l.begun l.initial.out.items l.start l.at l.out.items;
}

abbrev pub decreases-loop-at : goal.decreases-loop-at
decreases-loop-at l = length l.values - l.at
