use Rattle.hessian_graph.proofs.Renaming.{list_moved, number_within}
use Rattle.std.proofs.Common.{[], ◌∙◌}
use Rattle.hessian_graph.proofs.moves.move_list.Goals as goal

pub renamed-type_name-requires : goal.renamed-type_name-requires
renamed-type_name-requires c = number_within [] c.args.names.now.types.known.items c.args.parts.now.types c.args.names.now.types.words.texts.items c.args.type_name c.requires.names.types.1 c.requires.there

pub returns : goal.returns
returns c = rw c.renamed-type_name.ensures
    (list_moved c.args.parts.now c.args.names.now c.args.walk.now.order.items c.args.type_name c.args.items.now c.from-items.result c.requires.names c.requires.known (c.from-items.ensures ∙ c.in_ok-moved.ensures))
