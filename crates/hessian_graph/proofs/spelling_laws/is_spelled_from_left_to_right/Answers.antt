use Rattle.hessian_graph.proofs.ToLine.{line_of}
use Rattle.hessian_graph.proofs.ToTree.{tree_of}
use Rattle.hessian_graph.proofs.spelling_laws.is_spelled_from_left_to_right.Goals as goal

pub returns : goal.returns
returns g c = record {
  line = λ shape vs t u bytes all. line_of all;
  tree = λ shape vs t u bytes line. tree_of g.L.LeafSpellings.leaves shape vs t u bytes line;
}
