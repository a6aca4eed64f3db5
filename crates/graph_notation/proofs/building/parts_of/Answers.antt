use Rattle.std.proofs.Common.{length}
use Rattle.graph_notation.proofs.Assembling.{next_fits, next_room, one_built, tables_used}
use Rattle.graph_notation.proofs.building.parts_of.Goals as goal

pub node_of-requires-clause-fit : goal.node_of-requires-clause-fit
node_of-requires-clause-fit c = c.loop-whole.invariant.fit

pub node_of-requires-clause-room : goal.node_of-requires-clause-room
node_of-requires-clause-room c = next_room c.args.reader.nodes.items c.loop-whole.left.items c.loop-whole.tables c.loop-whole.built.items c.requires.few c.loop-whole.invariant

pub node_of-requires-clause-fits : goal.node_of-requires-clause-fits
node_of-requires-clause-fits c = next_fits (length c.args.reader.nodes.items) c.args.reader.nodes.items c.loop-whole.left.items c.pop.new.self.items c.in-Some.whole c.loop-whole.tables c.loop-whole.built.items c.requires.good c.loop-whole.invariant c.in-Some.ensures.items

pub loop-whole-preserved : goal.loop-whole-preserved
loop-whole-preserved c =
    let h = c.in_ok-node.ensures {u = tt} in
    rw c.in_ok-push.ensures.items (one_built c.args.reader.nodes.items c.loop-whole.left.items c.pop.new.self.items c.in-Some.whole c.loop-whole.tables c.node_of.new.tables c.loop-whole.built.items c.in_ok-node.node c.loop-whole.invariant c.in-Some.ensures.items h.shape h.names)

pub returns-clause-tables : goal.returns-clause-tables
returns-clause-tables c = tables_used c.args.reader.nodes.items c.loop-whole.left.items c.loop-whole.tables c.loop-whole.built.items c.from.result c.into_items.result c.into_parts.result c.loop-whole.invariant c.from.ensures c.into_parts.ensures
