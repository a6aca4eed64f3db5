use Rattle.std.proofs.Common.{subst, map}
use Rattle.std.proofs.lemmas.List.{length-map}
use Rattle.hessian_graph.specs.Shape.{Shape}
use Rattle.graph_notation.specs.Machine.{graph_of, shown}
use Rattle.graph_notation.specs.View.{state_of}
use Rattle.graph_notation.specs.Whole.{AllGood}
use Rattle.graph_notation.proofs.Forming.{graph_good}
use Rattle.graph_notation.proofs.Assembling.{is_sound, as_many}
use Rattle.graph_notation.proofs.building.graph_of.Goals as goal

pub parts_of-requires-clause-good : goal.parts_of-requires-clause-good
parts_of-requires-clause-good c =
    let g : Shape = graph_of (state_of c.args.reader) in
    subst (λ n. AllGood n (map shown c.args.reader.nodes.items)) (length-map c.args.reader.nodes.items shown) ((graph_good g c.requires.spelled.0 c.requires.spelled.1).1)

pub from_sound-requires-clause-sound : goal.from_sound-requires-clause-sound
from_sound-requires-clause-sound c =
    let h = c.in_ok-parts.ensures {u = tt} in
    is_sound c.in_ok-parts.parts c.args.reader.nodes.items c.args.reader.frame.values c.requires.spelled.0 c.requires.spelled.1 h.shape h.there c.requires.few

pub from_sound-requires-clause-few : goal.from_sound-requires-clause-few
from_sound-requires-clause-few c = as_many c.in_ok-parts.parts c.args.reader.nodes.items c.args.reader.frame.values (c.in_ok-parts.ensures {u = tt}).shape c.requires.few
