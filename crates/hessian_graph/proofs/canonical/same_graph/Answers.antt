use Rattle.std.proofs.Common.{◌≡◌, ap, sym, ◌∙◌}
use Rattle.hessian_graph.specs.Shape.{shape_of}
use Rattle.hessian_graph.proofs.Rebuilding.{there_of}
use Rattle.hessian_graph.proofs.SameTables.{same_in_order}
use Rattle.hessian_graph.proofs.canonical.same_graph.Goals as goal

pub returns : goal.returns
returns c =
    let equal : c.args.left.now ≡ c.args.right.now → c.parts-left.result.now ≡ c.parts-right.result.now = λ e. c.parts-left.ensures.parts ∙ e ∙ sym c.parts-right.ensures.parts in
    let back : c.parts-left.result.now ≡ c.parts-right.result.now → c.args.left.now ≡ c.args.right.now = λ e. sym c.parts-left.ensures.parts ∙ e ∙ c.parts-right.ensures.parts in (
      (λ t. ap shape_of (back (c.same_parts.ensures.0 t))),
      (λ e. c.same_parts.ensures.1 (equal (same_in_order c.args.left.now c.args.right.now c.requires.left c.requires.right (there_of c.args.left.now c.parts-left.ensures.sound) (there_of c.args.right.now c.parts-right.ensures.sound) e))),
    )
