use Rattle.std.proofs.Common.{◌≡◌, true}
use Rattle.pending_table.proofs.tests.threads.wait_for.Given as goal

abbrev pub invariant-loop : goal.invariant-loop
invariant-loop g l =
    (goal.iterator-loop g).can_next l.iterator' × (goal.iterator-loop g).is_finite l.iterator' × (g.D.Desk.site l.desk ≡ g.D.Desk.site l.fn.desk) × ((g.D.Desk.log l.desk).is_open ≡ true)
    × ((g.D.Desk.log l.desk).last ≡ (g.D.Desk.log l.fn.desk).last)
