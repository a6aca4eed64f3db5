use Rattle.std.proofs.Common.{◌≡◌, ◌≤◌, length, vec_capacity}
use Rattle.pending_table.specs.PlainTables.{AllUnused}
use Rattle.pending_table.proofs.plain.unused_slots.Given as goal

abbrev pub invariant-loop : goal.invariant-loop
invariant-loop g l = (length l.slots.items ≡ l.counter) × (l.count ≤ vec_capacity l.slots) × AllUnused l.slots.items
