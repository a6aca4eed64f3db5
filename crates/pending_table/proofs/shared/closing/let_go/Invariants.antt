use Rattle.std.proofs.Common.{◌≡◌, ℕ, ◌-◌, ◌<◌, false, get_or, None}
use mathlib.Core.Option.{some}
use lib.ListN.{get_elem?}
use Rattle.std.specs.Mem.Slots.{slots_filled, slots_items, slots_len}
use Rattle.std.specs.Mem.Slots.Ownership.{Filled}
use Rattle.pending_table.proofs.shared.closing.let_go.Given as goal

abbrev pub invariant-loop-slot : goal.invariant-loop-slot
invariant-loop-slot g l =
    Filled (slots_filled l.rest.slots) l.slot (slots_len l.rest.slots) × ((k : ℕ) → k < l.slot → get_or (slots_filled l.rest.slots) k false ≡ false)
    × ((k : ℕ) → k < slots_len l.rest.slots → get_elem? (slots_items l.rest.slots) k ≡ some None)

abbrev pub decreases-loop-slot : goal.decreases-loop-slot
decreases-loop-slot g l = slots_len l.rest.slots - l.slot
