use Rattle.graph_notation.proofs.Written.{pair_pushed}
use Rattle.graph_notation.proofs.written_numbers.push_pair.Goals as goal

pub returns-clause-written : goal.returns-clause-written
returns-clause-written c = pair_pushed c.args.out.now.items c.push_reserved.new.self.items c.push_reserved-2.new.self.items c.args.number c.requires.small c.push_reserved.ensures.items c.push_reserved-2.ensures.items
