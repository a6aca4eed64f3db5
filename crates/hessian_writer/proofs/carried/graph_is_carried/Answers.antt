use Rattle.std.proofs.Common.{subst, sym}
use Rattle.hessian_graph.specs.Faults.{IsSound}
use Rattle.hessian_graph.specs.declared.parts.Parts.{Parts}
use Rattle.hessian_graph.specs.Shape.{shape_of}
use Rattle.hessian_graph.proofs.Closed.{closed_of}
use Rattle.hessian_writer.specs.Carried.{IsCarried}
use Rattle.hessian_writer.proofs.Carrying.{all_carried}
use Rattle.hessian_writer.proofs.carried.graph_is_carried.Goals as goal

pub returns-clause-closed : goal.returns-clause-closed
returns-clause-closed c = closed_of c.args.graph.now c.parts.ensures.sound c.parts.ensures.few

pub returns-clause-carried : goal.returns-clause-carried
returns-clause-carried c =
    let p : Parts = c.parts.result.now in
    let sound : IsSound p = subst IsSound (sym c.parts.ensures.parts) c.parts.ensures.sound in
    subst (λ (q : Parts). IsCarried (shape_of q)) c.parts.ensures.parts
    (all_carried p sound c.parts_are_carried.ensures.roots c.parts_are_carried.ensures.nodes c.parts_are_carried.ensures.types c.parts_are_carried.ensures.classes)
