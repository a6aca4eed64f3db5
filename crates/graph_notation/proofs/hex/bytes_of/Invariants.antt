use Rattle.std.proofs.Common.{◌≡◌, ℕ, List, ◌*◌, ◌<◌, ◌≤◌, ◌++◌, length, take, drop}
use Rattle.std.specs.Prelude.{None}
use Rattle.graph_notation.specs.Unquoting.{unhexed, behind}
use Rattle.graph_notation.proofs.hex.bytes_of.Given as goal

abbrev pub invariant-loop-at : goal.invariant-loop-at
invariant-loop-at l = record {
  long : length l.bytes ≡ 32;
  good : (rest : List ℕ) → l.most < 16 → unhexed (l.block ++ rest) ≡ behind (take l.at l.bytes) (unhexed (drop (2 * l.at) (l.block ++ rest)));
  bad : (rest : List ℕ) → 16 ≤ l.most → unhexed (l.block ++ rest) ≡ None;
}
