use Rattle.std.proofs.Common.{◌≤◌, ◌∙◌, subst, List, length, arith}
use Rattle.std.specs.Prelude.{reverse}
use Rattle.std.proofs.lemmas.List.{length-map}
use Rattle.hessian_graph.specs.declared.value.Value.{Value}
use Rattle.hessian_graph.specs.Shape.{shape_of, node_shape}
use Rattle.graph_notation.specs.declared.press.Step.{Step}
use Rattle.graph_notation.specs.Pressing.{PressedOn}
use Rattle.graph_notation.proofs.Printing.{all_printed, ends_in_order}
use Rattle.graph_notation.proofs.press.Press.roots.Goals as goal

pub returns-else-all_begun-clause-order : goal.returns-else-all_begun-clause-order
returns-else-all_begun-clause-order c = λ halts canon.
    let p = c.args.parts.now in
    let s = c.loop-root.self in
    let past : length p.roots ≤ c.loop-root.root-index = subst (λ (vs : List Value). length vs ≤ c.loop-root.root-index) c.as_slice-root-items.ensures c.loop-root-test.false in
    let pressed = subst (λ (ts : List Step). PressedOn (shape_of p) s.out.items s.begun s.roots (reverse ts)) c.loop-root.invariant.empty c.loop-root.invariant.pressed in
    let count = length-map p.nodes (node_shape p.types p.classes) in
    let other = c.if-all_begun.false in
    let said = c.all_begun.ensures in
    ends_in_order (shape_of p) s.out.items s.begun s.roots (rw c.loop-root.invariant.roots past) pressed (λ e. let yes = said.1 (e ∙ count) in cc) canon

pub returns-then-all_begun-clause-printed : goal.returns-then-all_begun-clause-printed
returns-then-all_begun-clause-printed c =
    let p = c.args.parts.now in
    let s = c.loop-root.self in
    let past : length p.roots ≤ c.loop-root.root-index = subst (λ (vs : List Value). length vs ≤ c.loop-root.root-index) c.as_slice-root-items.ensures c.loop-root-test.false in
    let pressed = subst (λ (ts : List Step). PressedOn (shape_of p) s.out.items s.begun s.roots (reverse ts)) c.loop-root.invariant.empty c.loop-root.invariant.pressed in
    let count = length-map p.nodes (node_shape p.types p.classes) in
    let same = c.all_begun.ensures.0 (c.if-all_begun.true) in
    all_printed (shape_of p) s.out.items s.begun s.roots (rw c.loop-root.invariant.roots past) (omega (arith, count, same)) pressed
