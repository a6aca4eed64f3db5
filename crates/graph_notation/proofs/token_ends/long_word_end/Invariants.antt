use Rattle.std.proofs.Common.{◌≡◌, ◌+◌, ◌-◌, ◌≤◌, length, drop}
use Rattle.graph_notation.specs.Lexing.{word_run}
use Rattle.graph_notation.proofs.token_ends.long_word_end.Given as goal

abbrev pub invariant-loop-end : goal.invariant-loop-end
invariant-loop-end l = (l.end ≤ length l.text) × (l.fn.at + word_run (drop l.fn.at l.text) ≡ l.end + word_run (drop l.end l.text))

abbrev pub decreases-loop-end : goal.decreases-loop-end
decreases-loop-end l = length l.text - l.end
