use Rattle.std.proofs.Common.{◌<◌, ◌∙◌, sym, arith}
use mathlib.Core.Option.{some-injective}
use Rattle.std.specs.Mem.Slots.{slots_len}
use Rattle.pending_table.proofs.SharedShows.{no_element}
use Rattle.pending_table.proofs.shared.closing.let_go.Goals as goal

pub unreachable-requires : goal.unreachable-requires
unreachable-requires g c =
    let low : c.loop-slot.slot < slots_len c.loop-slot.rest.slots = let below = c.loop-slot-test.true in let count = c.slot_count.ensures in omega arith in
    let nothing = c.loop-slot.invariant.2 c.loop-slot.slot low in
    no_element c.in_default.field-0 (some-injective _ _ (sym nothing ∙ c.take-was.ensures.value) ∙ c.in_default.is)
