use Rattle.std.proofs.Common.{ℕ, ◌≤◌, List}
use Rattle.graph_notation.specs.Appending.{BeginsWith}
use Rattle.graph_notation.specs.Pressing.{IsOn}
use Rattle.graph_notation.proofs.printed.go_through.Given as goal

abbrev pub invariant-loop-at : goal.invariant-loop-at
invariant-loop-at l = record { low : l.from ≤ l.at; written : (before : List ℕ) → IsOn before l.text l.initial.out.items l.first l.start → IsOn before l.text l.out.items l.from l.at; begins : BeginsWith l.initial.out.items l.out.items }
