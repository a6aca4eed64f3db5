use Rattle.std.proofs.Common.{◌≡◌, None, length}
use Rattle.pending_table.specs.Scans.{as_begun}
use Rattle.pending_table.specs.Seats.{IsWindowOf}
use Rattle.pending_table.specs.SharedPlays.{the_window}
use Rattle.pending_table.specs.WindowLogs.{expired_log}
use Rattle.pending_table.proofs.Scanning.{AllChecked}
use Rattle.pending_table.proofs.shared.window_calls.expire.Given as goal

abbrev pub invariant-loop-slot : goal.invariant-loop-slot
invariant-loop-slot g l =
    (l.seat.table_id ≡ l.initial.seat.table_id) × IsWindowOf l.words.key.key.value l.seat.me.0 × ((the_window l.seat.me.0).giving ≡ None) × (l.seat.me.1 ≡ l.initial.seat.me.1)
    × (as_begun l.slot (the_window l.seat.me.0).log ≡ expired_log l.now (as_begun l.slot (the_window l.seat.me.0).log).sights (the_window l.initial.seat.me.0).log)
    × (length (as_begun l.slot (the_window l.seat.me.0).log).sights ≡ l.slot) × AllChecked l.now (as_begun l.slot (the_window l.seat.me.0).log).sights
    × ((the_window l.seat.me.0).number ≡ (the_window l.initial.seat.me.0).number)
