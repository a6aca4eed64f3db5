use Rattle.std.proofs.Common.{◌≡◌}
use Rattle.pending_table.specs.Gathering.{AreWindowsOf}
use Rattle.pending_table.proofs.SharedGathers.{Windows}
use Rattle.pending_table.proofs.shared.closing.gather_windows.Given as goal

abbrev pub invariant-loop-next : goal.invariant-loop-next
invariant-loop-next g l = (l.whole.table_id ≡ l.fn.words.table_id) × Windows l.fn.seats.items l.seats.items l.fn.whole.me l.whole.me × AreWindowsOf l.fn.words.table_id l.seats.items

abbrev pub decreases-loop-next : goal.decreases-loop-next
decreases-loop-next g l = goal.left-loop-next g l
