use Rattle.std.proofs.Common.{sym, subst, List, []}
use Rattle.hessian_graph.specs.declared.value.Value.{Value}
use Rattle.hessian_graph.specs.Shape.{shape_of}
use Rattle.hessian_graph.specs.Canon.{Visit}
use Rattle.hessian_graph.specs.Canon.Visit.{done}
use Rattle.hessian_graph.proofs.Walking.{drop_all}
use Rattle.hessian_graph.proofs.walk.visit.Goals as goal

pub returns-clause-visit : goal.returns-clause-visit
returns-clause-visit c =
    subst (λ (x : List Value). Visit (shape_of c.args.parts.now) [] x c.loop-root.walk.order.items) c.as_slice-roots.ensures
    (c.loop-root.invariant.leads c.loop-root.walk.order.items
    (subst (λ (x : List Value). Visit (shape_of c.args.parts.now) c.loop-root.walk.order.items x c.loop-root.walk.order.items) (sym (drop_all c.loop-root.root-index c.as_slice-roots.result.now c.loop-root-test.false)) (done c.loop-root.walk.order.items)))
