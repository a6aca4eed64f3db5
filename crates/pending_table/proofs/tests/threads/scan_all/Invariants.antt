use Rattle.std.proofs.Common.{◌≡◌}
use Rattle.pending_table.proofs.tests.threads.scan_all.Given as goal

abbrev pub invariant-loop : goal.invariant-loop
invariant-loop g l = (goal.iterator-loop g).can_next l.iterator' × (goal.iterator-loop g).is_finite l.iterator' × (g.S.Window.site l.window ≡ g.S.Window.site l.fn.window)
