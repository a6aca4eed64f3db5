use Rattle.std.proofs.Common.{◌≡◌, sym, ap, subst, ◌∙◌, ◌++◌, length, refl, append-nil, arith}
use Rattle.std.specs.Vec.Iter.{into_iter_items}
use Rattle.std.proofs.lemmas.List.{get_or_read_under, nil_from_length}
use Rattle.hessian_graph.specs.Shape.{no_vertex}
use Rattle.hessian_reader.specs.Finish.{AreNodesOf, GetsPairs}
use Rattle.hessian_reader.proofs.MapPairs.{ArePaired, none_paired, one_paired, all_paired, gave_front, next_is_low}
use Rattle.hessian_reader.proofs.table.NodeTable.into_nodes.Goals as goal

pub loop-map-init : goal.loop-map-init
loop-map-init c = none_paired c.self.inside.nodes.items

pub index_mut-requires : goal.index_mut-requires
index_mut-requires c =
    let low = next_is_low c.into_iter-map-iterator.result c.loop-map.map-iterator c.next.new.self c.self.inside.maps.items c.loop-map.yielded c.in-Some.map c.self.inside.nodes.items c.loop-map.nodes.items
    c.into_iter-map-iterator.ensures.into_iter_gives.0 c.loop-map.yielded_by c.in-Some.ensures.steps.0 c.self.invariant c.loop-map.invariant in
    let same = c.loop-map.nodes.ok.0 in
    omega (arith, low, same)

pub loop-map-preserved : goal.loop-map-preserved
loop-map-preserved c =
    let low = next_is_low c.into_iter-map-iterator.result c.loop-map.map-iterator c.next.new.self c.self.inside.maps.items c.loop-map.yielded c.in-Some.map c.self.inside.nodes.items c.loop-map.nodes.items
    c.into_iter-map-iterator.ensures.into_iter_gives.0 c.loop-map.yielded_by c.in-Some.ensures.steps.0 c.self.invariant c.loop-map.invariant in
    let is = get_or_read_under c.loop-map.nodes.items c.in-Some.map (length c.loop-map.nodes.items) c.index_mut.result.now no_vertex c.index_mut.ensures.value low refl in
    one_paired c.loop-map.yielded c.in-Some.map c.self.inside.nodes.items c.loop-map.nodes.items c.make_pairs.new.node c.loop-map.invariant
    (subst (λ w. GetsPairs w c.make_pairs.new.node) is c.in_ok-make_pairs.ensures)

pub returns : goal.returns
returns c =
    let ms = c.self.inside.maps.items in
    let all : into_iter_items c.into_iter-map-iterator.result ≡ ms = c.into_iter-map-iterator.ensures.into_iter_gives.0 in
    let front = gave_front c.into_iter-map-iterator.result c.loop-map.map-iterator c.loop-map.yielded c.loop-map.yielded_by in
    let done : length (into_iter_items c.loop-map.map-iterator) ≡ 0 = sym c.loop-map.map-iterator.rest.ok.0 ∙ c.in-None.ensures.steps.0 in
    let is : c.loop-map.yielded ≡ ms = sym (append-nil c.loop-map.yielded) ∙ ap (λ ks. c.loop-map.yielded ++ ks) (sym (nil_from_length _ done)) ∙ sym front ∙ all in
    subst (λ bs. AreNodesOf bs c.loop-map.nodes.items) c.self.view_is (all_paired ms c.self.inside.nodes.items c.loop-map.nodes.items
    (subst (λ ks. ArePaired ks c.self.inside.nodes.items c.loop-map.nodes.items) is c.loop-map.invariant))
