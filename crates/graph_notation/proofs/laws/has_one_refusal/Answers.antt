use Rattle.graph_notation.specs.Limit.{node_limit}
use Rattle.graph_notation.proofs.OneRefusal.{one_refusal}
use Rattle.graph_notation.proofs.laws.has_one_refusal.Goals as goal

pub returns : goal.returns
returns c = λ one other p q. one_refusal node_limit c.args.text.now one other p q
