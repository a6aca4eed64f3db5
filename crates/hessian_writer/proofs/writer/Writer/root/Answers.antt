use Rattle.std.proofs.Common.{length}
use Rattle.hessian_graph.specs.Shape.{shape_of}
use Rattle.hessian_writer.specs.Progress.{tables_with, state_of}
use Rattle.hessian_writer.proofs.Steps.{both}
use Rattle.hessian_writer.proofs.Writers.{root_node, root_leaf}
use Rattle.hessian_writer.proofs.writer.Writer.root.Goals as goal

pub returns-in_ok-drain-in-Some-clause-goes_on : goal.returns-in_ok-drain-in-Some-clause-goes_on
returns-in_ok-drain-in-Some-clause-goes_on c = λ ds.
    root_node (shape_of c.args.parts.now) c.args.self.now.nodes.order (tables_with c.args.parts.now (length c.args.self.now.nodes.order) c.args.self.now) c.args.self.now.out.items c.write_plain.new.out.items c.args.self.now.stack.items c.args.root.now c.in-Some.node c.in_ok-node.field-0 ds ds (state_of c.args.parts.now c.drain.new.self) c.in_ok-node.ensures c.in-Some.is c.requires.empty
    (both (c.in_ok-meet-in-Some.ensures.goes_on ds) (c.in_ok-drain-in-Some.ensures.goes_on ds))

pub returns-in-None-clause-goes_on : goal.returns-in-None-clause-goes_on
returns-in-None-clause-goes_on c = λ ds.
    root_leaf (shape_of c.args.parts.now) c.args.self.now.nodes.order (tables_with c.args.parts.now (length c.args.self.now.nodes.order) c.args.self.now) c.args.self.now.out.items c.write_plain.new.out.items c.args.root.now c.in_ok-node.field-0 ds c.in_ok-node.ensures c.in-None.is
