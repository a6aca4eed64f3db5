use Rattle.std.proofs.Common.{◌≡◌, ◌≤◌, Some, [], length, vec_capacity}
use Rattle.pending_table.specs.Cutting.{windows_from}
use Rattle.pending_table.specs.Elements.{EachAt}
use Rattle.pending_table.specs.Seats.{one_window}
use Rattle.pending_table.specs.SharedViews.{blank_part}
use Rattle.pending_table.proofs.shared.seats.window_seats.Given as goal

abbrev pub invariant-loop-number : goal.invariant-loop-number
invariant-loop-number g l =
    (l.whole.table_id ≡ l.initial.whole.table_id) × (l.whole.me ≡ (windows_from l.words.key.key.value l.number, [])) × (length l.seats.items ≡ l.number) × (3 ≤ vec_capacity l.seats)
    × EachAt (λ number seat. (seat.seat.table_id ≡ l.initial.whole.table_id) × (seat.seat.me ≡ (one_window (Some l.words.key.key.value) (blank_part number), []))) l.seats.items
