use Rattle.hessian_graph.proofs.Loosening.{is_loose}
use Rattle.hessian_graph.proofs.spelling_laws.is_loose_where_denoted.Goals as goal

pub returns : goal.returns
returns g c = λ bound bytes shape denoted. is_loose g.L.LeafSpellings.leaves bound bytes shape denoted
