use Rattle.std.proofs.Common.{◌≡◌, ◌≤◌, Some, [], length, vec_capacity}
use Rattle.pending_table.specs.Cutting.{view_from}
use Rattle.pending_table.specs.Elements.{EachAt}
use Rattle.pending_table.specs.Seats.{one_desk}
use Rattle.pending_table.specs.SharedViews.{blank_desk}
use Rattle.pending_table.proofs.shared.seats.desk_seats.Given as goal

abbrev pub invariant-loop-slot : goal.invariant-loop-slot
invariant-loop-slot g l =
    (l.whole.table_id ≡ l.initial.whole.table_id) × (l.whole.me ≡ (view_from l.words.key.key.value l.words.key.slots l.slot, [])) × (length l.seats.items ≡ l.slot) × (l.slots ≤ vec_capacity l.seats)
    × EachAt (λ slot seat. (seat.slot ≡ slot) × (seat.seat.table_id ≡ l.initial.whole.table_id) × (seat.seat.me ≡ (one_desk (Some l.words.key.key.value) (blank_desk slot), []))) l.seats.items
