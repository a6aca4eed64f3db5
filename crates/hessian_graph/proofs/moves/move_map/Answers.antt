use Rattle.hessian_graph.specs.Shape.{shape_of, alternately}
use Rattle.hessian_graph.proofs.Renaming.{map_moved, number_within, pairs_below}
use Rattle.std.proofs.Common.{[], ◌∙◌, ap, length}
use Rattle.hessian_graph.proofs.moves.move_map.Goals as goal

pub move_pairs-requires-clause-below : goal.move_pairs-requires-clause-below
move_pairs-requires-clause-below c = pairs_below (length (shape_of c.args.parts.now).nodes) c.args.pairs.now c.requires.below

pub renamed-type_name-requires : goal.renamed-type_name-requires
renamed-type_name-requires c = number_within [] c.args.names.now.types.known.items c.args.parts.now.types c.args.names.now.types.words.texts.items c.args.type_name c.requires.names.types.1 c.requires.there

pub returns : goal.returns
returns c = rw c.renamed-type_name.ensures
    (map_moved c.args.parts.now c.args.names.now c.args.walk.now.order.items c.args.type_name c.args.pairs.now c.from-pairs.result c.requires.names c.requires.known (ap alternately c.from-pairs.ensures ∙ c.in_ok-moved.ensures))
