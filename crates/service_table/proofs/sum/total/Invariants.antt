use Rattle.std.proofs.Common.{◌≡◌, take, ◌*◌, pos, ◌≤ℤ◌}
use Rattle.std.specs.Prelude.{neg_ℤ}
use Rattle.service_table.specs.Replies.{total}
use Rattle.service_table.proofs.sum.total.Given as goal

abbrev pub invariant-loop-value : goal.invariant-loop-value
invariant-loop-value l = record {
  sum : l.sum ≡ total (take l.value-index l.values);
  low : neg_ℤ (pos (l.value-index * 9223372036854775808)) ≤ℤ l.sum;
  high : l.sum ≤ℤ pos (l.value-index * 9223372036854775808);
}
