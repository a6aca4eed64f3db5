use Rattle.std.proofs.Common.{◌++◌, ◌-◌, take, drop, get_or}
use Rattle.graph_notation.specs.Elements.{escaped}
use Rattle.graph_notation.proofs.Runs.{stands_on, escaped_on}
use Rattle.graph_notation.proofs.printed.go_past.Goals as goal

pub returns-then-flaw-eq0-clause-written : goal.returns-then-flaw-eq0-clause-written
returns-then-flaw-eq0-clause-written c = stands_on c.args.text.now c.args.out.now.items c.args.from c.args.at c.requires.from c.requires.at (c.flaw.ensures c.if-flaw-eq0.true)

pub returns-in-Ok-clause-written : goal.returns-in-Ok-clause-written
returns-in-Ok-clause-written c = escaped_on c.args.text.now c.write_run.new.out.items ((c.args.out.now.items ++ take (c.args.at - c.args.from) (drop c.args.from c.args.text.now)) ++ escaped (get_or c.args.text.now c.args.at 0)) c.args.at ((c.in-Ok.ensures {u = tt}).written)
