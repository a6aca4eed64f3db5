use Rattle.std.proofs.Common.{sym, subst}
use Rattle.hessian_graph.specs.declared.parts.Parts.{Parts}
use Rattle.hessian_graph.specs.Shape.{shape_of}
use Rattle.graph_notation.specs.Notation.{IsPrinted}
use Rattle.graph_notation.specs.Pressing.{CanPrint}
use Rattle.graph_notation.proofs.Printing.{can_print, prints_itself}
use Rattle.graph_notation.proofs.press.print_graph.Goals as goal

pub print_parts-requires : goal.print_parts-requires
print_parts-requires c = subst CanPrint (sym c.parts.ensures.parts) (can_print c.args.graph.now c.parts.ensures.sound c.parts.ensures.few)

pub returns-in-Ok : goal.returns-in-Ok
returns-in-Ok c = prints_itself (shape_of c.args.graph.now) c.in-Ok.text.items (subst (λ (p : Parts). IsPrinted (shape_of p) c.in-Ok.text.items) c.parts.ensures.parts c.in-Ok.ensures.printed)
