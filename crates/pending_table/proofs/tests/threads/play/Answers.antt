use Rattle.std.proofs.Common.{length, ap}
use Rattle.pending_table.proofs.TestSeats.{taken_at, each_three}
use Rattle.pending_table.proofs.tests.threads.play.Goals as goal

pub all_four-called-requires-clause-first : goal.all_four-called-requires-clause-first
all_four-called-requires-clause-first g c κs within =
    let second = taken_at _ 1 c.args.desks.items c.last_of-second.new.seats.items c.last_of-second.result c.requires.counts.0 c.last_of-second.ensures c.requires.desks in
    let first = taken_at _ 0 c.last_of-second.new.seats.items c.last_of-first.new.seats.items c.last_of-first.result second.0 c.last_of-first.ensures second.2 in
    first.1

pub all_four-called-requires-clause-second : goal.all_four-called-requires-clause-second
all_four-called-requires-clause-second g c κs within =
    let second = taken_at _ 1 c.args.desks.items c.last_of-second.new.seats.items c.last_of-second.result c.requires.counts.0 c.last_of-second.ensures c.requires.desks in second.1

pub all_four-called-requires-clause-windows : goal.all_four-called-requires-clause-windows
all_four-called-requires-clause-windows g c κs within =
    let scanner = taken_at _ 2 c.args.windows.items c.last_of-scanner.new.seats.items c.last_of-scanner.result c.requires.counts.1 c.last_of-scanner.ensures c.requires.windows in
    let writer = taken_at _ 1 c.last_of-scanner.new.seats.items c.last_of-writer.new.seats.items c.last_of-writer.result scanner.0 c.last_of-writer.ensures scanner.2 in
    let reader = taken_at _ 0 c.last_of-writer.new.seats.items c.last_of-reader.new.seats.items c.last_of-reader.result writer.0 c.last_of-reader.ensures writer.2 in
    (reader.1.0, scanner.1.0)

pub close-closed-requires-clause-windows : goal.close-closed-requires-clause-windows
close-closed-requires-clause-windows g c κs =
    let scanner = taken_at _ 2 c.args.windows.items c.last_of-scanner.new.seats.items c.last_of-scanner.result c.requires.counts.1 c.last_of-scanner.ensures c.requires.windows in
    let writer = taken_at _ 1 c.last_of-scanner.new.seats.items c.last_of-writer.new.seats.items c.last_of-writer.result scanner.0 c.last_of-writer.ensures scanner.2 in
    let three = c.in_ok-windows.ensures in
    (ap (λ l. length l) three, each_three _ c.in_ok-windows.windows.items _ _ _ three c.all_four-called.ensures.windows.0 writer.1.0 c.all_four-called.ensures.windows.1)
