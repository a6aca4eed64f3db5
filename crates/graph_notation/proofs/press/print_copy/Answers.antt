use Rattle.std.proofs.Common.{sym, subst, ap, ◌∙◌}
use Rattle.std.specs.Prelude.{Err}
use Rattle.graph_notation.specs.Pressing.{CanPrint, AreCanonical}
use Rattle.graph_notation.proofs.Printing.{can_print, stays_canonical}
use Rattle.graph_notation.proofs.press.print_copy.Goals as goal

pub print_parts-requires : goal.print_parts-requires
print_parts-requires c = subst CanPrint (sym c.parts.ensures.parts) (can_print c.in_ok-form.form c.parts.ensures.sound c.parts.ensures.few)

pub unreachable-requires : goal.unreachable-requires
unreachable-requires c =
    c.print_parts.ensures.order (c.in-Err-OutOfOrder.is ∙ ap Err c.in-Err-OutOfOrder.field-0-is)
    (subst AreCanonical (sym c.parts.ensures.parts) (stays_canonical c.args.graph.now c.in_ok-form.form c.parts-given.ensures.sound c.parts-given.ensures.few c.parts.ensures.sound c.parts.ensures.few c.in_ok-form.ensures.canon))
