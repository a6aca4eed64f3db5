use Rattle.std.proofs.Common.{codes, sym}
use Rattle.std.proofs.lemmas.Slice.Eq.{bytes_eq-Decides}
use Rattle.dubbo_main.proofs.OneCommand.{nothing_made}
use Rattle.dubbo_main.proofs.words.command_with.Goals as goal

pub returns-in_err-calls : goal.returns-in_err-calls
returns-in_err-calls c = rw c.from_residual-in_err-calls.ensures
    (nothing_made _ _ ((bytes_eq-Decides c.args.word.now (codes "gen")).0 (sym c.if-eq-2.ensures)) c.in_err-calls.ensures)

pub returns-then-eq-2 : goal.returns-then-eq-2
returns-then-eq-2 c = ((bytes_eq-Decides c.args.word.now (codes "gen")).0 (sym c.if-eq-2.ensures), c.in_ok-calls.ensures.0, c.in_ok-calls.ensures.1)
