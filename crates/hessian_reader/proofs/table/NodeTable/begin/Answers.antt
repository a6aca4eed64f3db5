use Rattle.std.proofs.Common.{sym, ap, ◌∙◌, [], length}
use Rattle.hessian_graph.specs.declared.node.Node.TheVariants as nodes
use Rattle.std.specs.Prelude.{true, false}
use Rattle.hessian_reader.specs.Nodes.{begun_as}
use Rattle.hessian_reader.specs.declared.table.Sort.{Sort}
use Rattle.hessian_reader.proofs.Kept.{begun_count, kept_node, kept_maps, begins_node_more, begins_maps}
use Rattle.hessian_reader.proofs.table.NodeTable.begin.Goals as goal

pub invariant_of-self-in-Map : goal.invariant_of-self-in-Map
invariant_of-self-in-Map c = kept_maps c.push-in-Map-2.result c.self.inside.maps.items c.push-in-Map-2.new.values.items c.args.node c.self.inside.nodes.items c.push-in-Map.new.values.items
    (nodes.List c.in-Map.type_name c.from-items.result) c.in_ok-push-in-Map.ensures c.push-in-Map-2.ensures
    (c.requires ∙ ap length (sym c.self.view_is) ∙ begun_count c.self.inside.maps.items 0 c.self.inside.nodes.items) c.self.invariant tt

pub invariant_of-self-in-Object : goal.invariant_of-self-in-Object
invariant_of-self-in-Object c = kept_node c.push-in-Object.result c.self.inside.maps.items c.self.inside.nodes.items c.push-in-Object.new.values.items
    (nodes.Object c.in-Object.class c.from-items.result) c.push-in-Object.ensures c.self.invariant tt

pub returns-in-List : goal.returns-in-List
returns-in-List c = begins_node_more c.push.result c.self.inside.maps.items c.self.inside.nodes.items c.push.new.values.items
    (nodes.List c.in-List.type_name c.from-items.result) c.args.self.now (record { sort = c.args.sort; values = [] }) c.push.ensures c.self.invariant c.self.view_is
    (ap (λ vs. begun_as false (nodes.List c.in-List.type_name vs)) (c.from-items.ensures ∙ c.new.ensures.items) ∙ ap (λ (s : Sort). record { sort = s; values = [] }) (sym c.in-List.is))

pub returns-in_ok-push-in-Map : goal.returns-in_ok-push-in-Map
returns-in_ok-push-in-Map c = begins_maps c.push-in-Map-2.result c.self.inside.maps.items c.push-in-Map-2.new.values.items c.args.node c.self.inside.nodes.items c.push-in-Map.new.values.items
    (nodes.List c.in-Map.type_name c.from-items.result) c.args.self.now (record { sort = c.args.sort; values = [] }) c.in_ok-push-in-Map.ensures c.push-in-Map-2.ensures
    (c.requires ∙ ap length (sym c.self.view_is) ∙ begun_count c.self.inside.maps.items 0 c.self.inside.nodes.items) c.self.view_is
    (ap (λ vs. begun_as true (nodes.List c.in-Map.type_name vs)) (c.from-items.ensures ∙ c.new.ensures.items) ∙ ap (λ (s : Sort). record { sort = s; values = [] }) (sym c.in-Map.is))

pub returns-in-Object : goal.returns-in-Object
returns-in-Object c = begins_node_more c.push-in-Object.result c.self.inside.maps.items c.self.inside.nodes.items c.push-in-Object.new.values.items
    (nodes.Object c.in-Object.class c.from-items.result) c.args.self.now (record { sort = c.args.sort; values = [] }) c.push-in-Object.ensures c.self.invariant c.self.view_is
    (ap (λ vs. begun_as false (nodes.Object c.in-Object.class vs)) (c.from-items.ensures ∙ c.new.ensures.items) ∙ ap (λ (s : Sort). record { sort = s; values = [] }) (sym c.in-Object.is))
