use Rattle.graph_notation.proofs.Rereading.{is_notation}
use Rattle.graph_notation.proofs.laws.is_read_again.Goals as goal

pub returns : goal.returns
returns c = λ g p. is_notation g c.args.text.now p
