use Rattle.graph_notation.proofs.Readings.{date_answer}
use Rattle.graph_notation.proofs.words.date_of.Goals as goal

pub returns-in-Some : goal.returns-in-Some
returns-in-Some c = date_answer c.args.token.now c.in-Some.digits.now c.long.result c.in-Some.ensures c.long.ensures
