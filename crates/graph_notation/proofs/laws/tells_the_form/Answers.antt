use Rattle.graph_notation.proofs.OneNotation.{one_notation}
use Rattle.graph_notation.proofs.laws.tells_the_form.Goals as goal

pub returns : goal.returns
returns c = λ a b s t left right p q. one_notation a b s t p q
