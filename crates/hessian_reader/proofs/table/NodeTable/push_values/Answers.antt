use Rattle.std.proofs.Common.{sym, subst, ◌∙◌, [], refl, arith}
use Rattle.std.specs.Prelude.{IfOk}
use Rattle.std.proofs.lemmas.List.{get_or_read_under}
use Rattle.hessian_graph.specs.Shape.{no_vertex}
use Rattle.hessian_reader.specs.Runs.{GrowsBy}
use Rattle.hessian_reader.specs.Runs.AreValues.{none}
use Rattle.hessian_reader.proofs.Runs.{items_none}
use Rattle.hessian_reader.proofs.Kept.{grown_by}
use Rattle.hessian_reader.proofs.table.NodeTable.push_values.Goals as goal

pub returns-then-place-nodes : goal.returns-then-place-nodes
returns-then-place-nodes c =
    let low = c.if-place-nodes.true in
    let many = c.len-nodes.ensures in
    let same = c.self.inside.nodes.ok.0 in
    grown_by c.push_run_to.result c.self.inside.maps.items c.self.inside.nodes.items c.args.node c.push_run_to.new.node c.args.piece.now c.args.most c.len-nodes.result c.args.self.now c.self.invariant (omega (arith, low, many, same)) c.self.view_is (many ∙ same)
    (subst (λ w. IfOk c.push_run_to.result (GrowsBy c.len-nodes.result w c.args.piece.now c.args.most c.push_run_to.new.node))
    (get_or_read_under c.self.inside.nodes.items c.args.node c.len-nodes.result c.index_mut.result.now no_vertex c.index_mut.ensures.value low (many ∙ same)) c.push_run_to.ensures.added)

pub returns-else-place-nodes : goal.returns-else-place-nodes
returns-else-place-nodes c = record { added = []; values = none; is = sym (items_none c.args.self.now c.args.node); count = refl; few = omega arith; within = omega arith }
