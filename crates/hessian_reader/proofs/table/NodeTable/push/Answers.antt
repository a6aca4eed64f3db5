use Rattle.std.proofs.Common.{sym, ap, ◌∙◌, ◌∷◌, [], arith}
use Rattle.std.proofs.lemmas.List.{get_or_read_under}
use Rattle.hessian_graph.specs.Shape.{no_vertex}
use Rattle.hessian_reader.specs.Nodes.{and_items}
use Rattle.hessian_reader.specs.Runs.{with_items}
use Rattle.hessian_reader.proofs.Kept.{grown, grown_past}
use Rattle.hessian_reader.proofs.table.NodeTable.push.Goals as goal

pub returns-in_ok-push_to : goal.returns-in_ok-push_to
returns-in_ok-push_to c =
    let low = c.if-place-len.true in
    let count = c.len.ensures in
    let same = c.self.inside.nodes.ok.0 in
    grown c.self.inside.maps.items c.self.inside.nodes.items c.args.node c.push_to.new.node (c.args.value ∷ []) c.self.invariant (omega (arith, low, count, same))
    (c.in_ok-push_to.ensures.added ∙ ap (λ w. and_items w (c.args.value ∷ [])) (get_or_read_under c.self.inside.nodes.items c.args.node c.len.result c.index_mut.result.now no_vertex c.index_mut.ensures.value low (count ∙ same)))
    ∙ ap (λ bs. with_items bs c.args.node (c.args.value ∷ [])) c.self.view_is

pub returns-else-place-len : goal.returns-else-place-len
returns-else-place-len c =
    let high = c.if-place-len.false in
    let count = c.len.ensures in
    let same = c.self.inside.nodes.ok.0 in
    sym c.self.view_is
    ∙ grown_past c.self.inside.maps.items c.self.inside.nodes.items c.args.node (c.args.value ∷ []) (omega (arith, high, count, same))
    ∙ ap (λ bs. with_items bs c.args.node (c.args.value ∷ [])) c.self.view_is
