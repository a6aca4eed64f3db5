use Rattle.graph_notation.proofs.Readings.{reference_answer}
use Rattle.graph_notation.proofs.words.reference_of.Goals as goal

pub returns-in-Some : goal.returns-in-Some
returns-in-Some c = reference_answer c.args.token.now c.in-Some.digits.now c.number.result c.in-Some.ensures c.number.ensures
