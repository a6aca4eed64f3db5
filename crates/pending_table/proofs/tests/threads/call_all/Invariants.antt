use Rattle.std.proofs.Common.{◌≡◌, ◌*◌, ◌≤◌, false}
use Rattle.pending_table.proofs.tests.threads.call_all.Given as goal

abbrev pub invariant-loop-call : goal.invariant-loop-call
invariant-loop-call g l = (g.D.Desk.site l.desk ≡ g.D.Desk.site l.fn.desk) × ((g.D.Desk.log l.desk).is_open ≡ false) × ((g.D.Desk.log l.desk).last ≤ 32 * l.call)
