use Rattle.graph_notation.proofs.Naming.{shown_number}
use Rattle.graph_notation.proofs.name_table.ClassTable.number.Goals as goal

pub returns-then-is_last-clause-number : goal.returns-then-is_last-clause-number
returns-then-is_last-clause-number c = shown_number c.args.self.now.rows.items c.args.self.now.last c.args.class (c.is_last.ensures c.if-is_last.true)
