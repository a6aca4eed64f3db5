use Rattle.graph_notation.specs.Limit.{node_limit}
use Rattle.graph_notation.proofs.Verdict.{read_or_refused}
use Rattle.graph_notation.proofs.laws.is_read_or_refused.Goals as goal

pub returns : goal.returns
returns c = λ g fault n low r. read_or_refused node_limit c.args.text.now g fault n low r
