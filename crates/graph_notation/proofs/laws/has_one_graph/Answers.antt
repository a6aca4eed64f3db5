use Rattle.graph_notation.proofs.OneGraph.{one_graph}
use Rattle.graph_notation.proofs.laws.has_one_graph.Goals as goal

pub returns : goal.returns
returns c = λ g h a b. one_graph c.args.text.now g h a b
