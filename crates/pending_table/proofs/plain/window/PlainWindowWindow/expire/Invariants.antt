use Rattle.std.proofs.Common.{◌≡◌, length}
use Rattle.pending_table.specs.WindowLogs.{expired_log}
use Rattle.pending_table.proofs.Scanning.{AllChecked, ScannedTo}
use Rattle.pending_table.proofs.plain.window.PlainWindowWindow.expire.Given as goal

abbrev pub invariant-loop-slot : goal.invariant-loop-slot
invariant-loop-slot g l =
    (l.table.key ≡ l.initial.table.key) × (l.table.lost ≡ l.initial.table.lost)
    × (length l.table.slots.items ≡ l.slot-end) × (length l.initial.table.slots.items ≡ l.slot-end)
    × (l.table.window.value ≡ expired_log l.now l.table.window.value.sights l.initial.table.window.value) × (length l.table.window.value.sights ≡ l.slot)
    × AllChecked l.now l.table.window.value.sights × ScannedTo l.now l.slot l.initial.table.slots.items l.table.slots.items
