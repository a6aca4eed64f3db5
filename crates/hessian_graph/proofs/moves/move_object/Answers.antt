use Rattle.hessian_graph.proofs.Renaming.{object_moved}
use Rattle.std.proofs.Common.{◌∙◌}
use Rattle.hessian_graph.proofs.moves.move_object.Goals as goal

pub returns : goal.returns
returns c = rw c.renamed-class.ensures
    (object_moved c.args.parts.now c.args.names.now c.args.walk.now.order.items c.args.class c.args.values.now c.from-values.result c.requires.names c.requires.known c.requires.there (c.from-values.ensures ∙ c.in_ok-moved.ensures))
