use Rattle.std.proofs.Common.{◌≡◌, ◌+◌, ◌-◌, ◌<◌, ◌≤◌, length, take, drop}
use Rattle.std.specs.Prelude.{decimal}
use Rattle.graph_notation.specs.Lexing.{token_length, word_run}
use Rattle.graph_notation.proofs.short_numbers.short_number.Given as goal

abbrev pub invariant-loop-end : goal.invariant-loop-end
invariant-loop-end l = record {
  onward : l.at < l.end;
  within : l.end ≤ length l.text;
  some : 0 < l.value;
  few : l.value < 1000000000;
  written : take (l.end - l.at) (drop l.at l.text) ≡ decimal l.value;
  run : l.at + token_length (drop l.at l.text) ≡ l.end + word_run (drop l.end l.text);
}

abbrev pub decreases-loop-end : goal.decreases-loop-end
decreases-loop-end l = length l.text - l.end
