use Rattle.std.proofs.Common.{◌≡◌, length, arith}
use Rattle.std.proofs.lemmas.List.{length-map}
use Rattle.hessian_graph.specs.declared.parts.Parts.{Parts}
use Rattle.hessian_graph.specs.Shape.{shape_of, node_shape}
use Rattle.hessian_graph.proofs.Closed.{closed_of}
use Rattle.service_table.proofs.Outcomes.{alike_direct}
use Rattle.service_table.proofs.laws.alike_requests_end_alike.Goals as goal

pub returns : goal.returns
returns c =
    let p : Parts = c.args.right.now.args in
    let few = c.requires in
    let count : length (shape_of p).nodes ≡ length p.nodes = length-map p.nodes (node_shape p.types p.classes) in
    λ rows ending asked iso direct. alike_direct (closed_of p c.parts-right.ensures.sound c.parts-right.ensures.few) (omega (arith, few, count)) asked iso direct
