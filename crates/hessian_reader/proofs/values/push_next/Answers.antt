use Rattle.hessian_reader.proofs.values.push_next.Goals as goal

pub returns-in-0-to-31 : goal.returns-in-0-to-31
returns-in-0-to-31 c = c.push_text.ensures c.args.nodes

pub returns-in_default : goal.returns-in_default
returns-in_default c = c.push_scalar.ensures c.args.nodes
