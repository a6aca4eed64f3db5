use Rattle.std.proofs.Common.{inl}
use Rattle.graph_notation.specs.Limit.{node_limit}
use Rattle.graph_notation.proofs.Verdict.{stopped}
use Rattle.graph_notation.proofs.reading.read_notation.Goals as goal

pub returns-in-Err-clause-refused : goal.returns-in-Err-clause-refused
returns-in-Err-clause-refused c = λ never. inl (stopped node_limit c.args.text.now c.in-Err.fault ((c.in-Err.ensures {u = tt}).stopped) never)
