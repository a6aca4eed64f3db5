use Rattle.graph_notation.proofs.Runs.{as_is}
use Rattle.graph_notation.proofs.printed.write_as_is.Goals as goal

pub returns-clause-written : goal.returns-clause-written
returns-clause-written c =
    as_is c.args.text.now c.args.out.now.items c.push_reserved.new.self.items c.extend_from_slice.new.self.items c.push_reserved-2.new.self.items c.requires.stands
    (rw c.in_ok-reserve.ensures.items at c.push_reserved.ensures.items) c.in_ok-extend_from_slice.ensures.items c.push_reserved-2.ensures.items
