use Rattle.std.proofs.Common.{◌≡◌}
use Rattle.pending_table.proofs.tests.threads.resolve_all.Given as goal

abbrev pub invariant-loop : goal.invariant-loop
invariant-loop g l = (goal.iterator-loop g).can_next l.iterator' × (goal.iterator-loop g).is_finite l.iterator' × (g.S.Window.site l.window ≡ g.S.Window.site l.fn.window)

abbrev pub invariant-loop-caller : goal.invariant-loop-caller
invariant-loop-caller g l = g.S.Window.site l.window ≡ g.S.Window.site l.fn.window

abbrev pub invariant-loop-call : goal.invariant-loop-call
invariant-loop-call g l = g.S.Window.site l.window ≡ g.S.Window.site l.fn.window
