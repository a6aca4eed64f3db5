use Rattle.std.proofs.Common.{◌∙◌}
use Rattle.pending_table.specs.SharedPlays.{the_window}
use Rattle.pending_table.proofs.SharedScans.{scan_on}
use Rattle.pending_table.proofs.shared.window_calls.expire.Goals as goal

pub loop-slot-preserved : goal.loop-slot-preserved
loop-slot-preserved g c =
    let was = c.loop-slot.invariant in
    let done = c.scan_slot.ensures in
    let on = scan_on c.args.now c.loop-slot.slot (the_window c.args.seat.now.me.0).log (the_window c.loop-slot.seat.me.0).log (the_window c.scan_slot.new.seat.me.0).log was.4 was.5 was.6 done.scanned in
    (done.same.0 ∙ was.0, done.window, done.same.2, done.same.1 ∙ was.3, on.0, on.1, on.2, done.number ∙ was.7)
