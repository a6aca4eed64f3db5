use Rattle.hessian_graph.specs.Shape.{shape_of}
use Rattle.graph_notation.proofs.Printing.{pressed_none}
use Rattle.graph_notation.proofs.press.Press.new.Goals as goal

pub returns-clause-pressed : goal.returns-clause-pressed
returns-clause-pressed c = rw (c.new.ensures.items, c.new-2.ensures.items) (pressed_none (shape_of c.args.parts.now))
