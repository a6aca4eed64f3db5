-- What the moved nodes are together: a canonical form, and sound.
use Rattle.std.proofs.Common.{◌≡◌, ℕ, zero, suc, ◌<◌, ◌^◌, List, [], ◌∷◌, ◌++◌, length, get_or, refl, ap, sym, ◌∙◌, subst, arith}
use Rattle.std.specs.Prelude.{Option, Some, None, IsSome, All, map}
use Rattle.std.specs.List.{flat_map}
use Rattle.std.proofs.lemmas.Bool.{lt-ltb, eq-eqb}
use Rattle.std.proofs.lemmas.List.{length-map}
use Rattle.hessian_graph.specs.declared.value.Value.{Value}
use Rattle.hessian_graph.specs.declared.value.Value.TheVariants.{Null}
use Rattle.hessian_graph.specs.declared.node.Node.{Node}
use Rattle.hessian_graph.specs.declared.node.Node.TheVariants as nodes
use Rattle.hessian_graph.specs.declared.node.Class.{Class}
use Rattle.hessian_graph.specs.declared.names.Names.{Names}
use Rattle.hessian_graph.specs.declared.parts.Parts.{Parts}
use Rattle.hessian_graph.specs.declared.parts.PartsFault.TheVariants.{BadNode, BadTypeName}
use Rattle.hessian_graph.specs.Shape.{Shape, NodeShape, no_node, no_vertex, no_class, node_of, alternately, values_at, values_of, node_shape, shape_of}
use Rattle.hessian_graph.specs.Canon.{place_of, place_or_zero, renumbered, moved, in_order, Visit}
use Rattle.hessian_graph.specs.Faults.{unless_below, value_faults, class_faults, node_faults, faults_from, IsSound}
use Rattle.hessian_graph.specs.Work.{NamesBelow, IsClosed}
use Rattle.hessian_graph.specs.Tables.{NumberBelow, Remembers}
use Rattle.hessian_graph.specs.Moving.{ClassFits, NamesThere, TypeKnown, NodeKnown, moved_shape, IsMoved, AllThere, AllNodes, AllMoved}
use Rattle.hessian_graph.proofs.Values.{plain_stays, node_moves, some_is, not_both}
use Rattle.hessian_graph.proofs.Places.{place_within, place_shows}
use Rattle.hessian_graph.proofs.Closed.{back_none, nodes_there}
use Rattle.hessian_graph.proofs.Visits.{AllPlaced, placed_values, placed_within}
use Rattle.hessian_graph.proofs.Back.{seen_once, none_first, below, at_place}

get_map : {X Y : Type 0} (f : X → Y) (xs : List X) (n : ℕ) (d : X) → get_or (map f xs) n (f d) ≡ f (get_or xs n d)
get_map f [] n d = refl
get_map f (x ∷ xs) zero d = refl
get_map f (x ∷ xs) (suc n) d = get_map f xs n d

-- the shape of a node by its number
pub shape_at : (p : Parts) (n : ℕ) → get_or (shape_of p).nodes n no_node ≡ node_shape p.types p.classes (get_or p.nodes n no_vertex)
shape_at p n = get_map (node_shape p.types p.classes) p.nodes n no_vertex

moved_at : (p : Parts) (order : List ℕ) (n : ℕ) → moved_shape p.types p.classes order (get_or p.nodes n no_vertex) ≡ moved (shape_of p) order n
moved_at p order n = ap (λ (x : NodeShape). record { kind = x.kind; values = map (renumbered order) x.values }) (sym (shape_at p n))

pub one_moved : (p : Parts) (n : Names) (order olds : List ℕ) (news : List Node) (i : ℕ) (new : Node) → AllMoved p n order olds news → IsMoved p n order (get_or p.nodes i no_vertex) new → AllMoved p n order (olds ++ i ∷ []) (news ++ new ∷ [])
one_moved p n order [] [] i new a m = (m, tt)
one_moved p n order [] (x ∷ news) i new a m = absurd a
one_moved p n order (o ∷ olds) [] i new a m = absurd a
one_moved p n order (o ∷ olds) (x ∷ news) i new a m = (a.0, one_moved p n order olds news i new a.1 m)

nodes_moved : (p : Parts) (n : Names) (order olds : List ℕ) (news : List Node) → AllMoved p n order olds news → map (node_shape n.types.words.texts.items n.classes.rows.items) news ≡ map (moved (shape_of p) order) olds
nodes_moved p n order [] [] a = refl
nodes_moved p n order [] (x ∷ news) a = absurd a
nodes_moved p n order (o ∷ olds) [] a = absurd a
nodes_moved p n order (o ∷ olds) (x ∷ news) a =
    let head : node_shape n.types.words.texts.items n.classes.rows.items x ≡ moved (shape_of p) order o = a.0.shape ∙ moved_at p order o in
    let tail = nodes_moved p n order olds news a.1 in
    cc

pub form_shape : (p : Parts) (n : Names) (order : List ℕ) (roots : List Value) (news : List Node) → roots ≡ map (renumbered order) p.roots → AllMoved p n order order news → shape_of (record { roots = roots; nodes = news; types = n.types.words.texts.items; classes = n.classes.rows.items }) ≡ in_order (shape_of p) order
form_shape p n order roots news r a =
    ap (λ x. record { roots = x; nodes = map (node_shape n.types.words.texts.items n.classes.rows.items) news }) r
    ∙ ap (λ x. record { roots = map (renumbered order) p.roots; nodes = x }) (nodes_moved p n order order news a)

pub all_there : (p : Parts) (n : Names) (order olds : List ℕ) (news : List Node) → AllMoved p n order olds news → AllThere n.types.words.texts.items n.classes.rows.items news
all_there p n order [] [] a i h = absurd (omega (arith, h))
all_there p n order [] (x ∷ news) a i h = absurd a
all_there p n order (o ∷ olds) [] a i h = absurd a
all_there p n order (o ∷ olds) (x ∷ news) a zero h = a.0.there
all_there p n order (o ∷ olds) (x ∷ news) a (suc i) h = all_there p n order olds news a.1 i (omega (arith, h))

-- what was known of a node's names stays known
some_stays : (known more : List (Option ℕ)) (k : ℕ) → Remembers known more → (o : Option ℕ) → get_or known k None ≡ o → IsSome o → IsSome (get_or more k None)
some_stays known more k r None e s = cc
some_stays known more k r (Some i) e s = subst IsSome (sym (r k i e)) refl

type_stays : (known more : List (Option ℕ)) (o : Option ℕ) → Remembers known more → TypeKnown known o → TypeKnown more o
type_stays known more None r t = tt
type_stays known more (Some k) r t = some_stays known more k r (get_or known k None) refl t

pub node_stays : (types classes types' classes' : List (Option ℕ)) (node : Node) → Remembers types types' → Remembers classes classes' → NodeKnown types classes node → NodeKnown types' classes' node
node_stays types classes types' classes' (nodes.List t items) a b k = type_stays types types' t a k
node_stays types classes types' classes' (nodes.Map t pairs) a b k = type_stays types types' t a k
node_stays types classes types' classes' (nodes.Object c vs) a b k = some_stays classes classes' c b (get_or classes c None) refl k

-- the nodes of the order are there
pub order_nodes : (p : Parts) (order : List ℕ) → IsClosed (shape_of p) → Visit (shape_of p) [] p.roots order → AllNodes p order
order_nodes p order closed visit i h =
    let within = below (shape_of p) closed order visit (get_or order i 0) i (at_place order (get_or order i 0) i (seen_once visit none_first) h refl) in
    subst (λ n. get_or order i 0 < n) (length-map p.nodes (node_shape p.types p.classes)) within

-- values that name nodes below the count have no fault
values_clean : (count : ℕ) (vs : List Value) → All (NamesBelow count) vs → flat_map (value_faults count) vs ≡ []
values_clean count [] a = refl
values_clean count (v ∷ vs) a =
    let head : value_faults count v ≡ [] = one_clean count (node_of v) (a 0 Null (omega arith)) in
    let tail : flat_map (value_faults count) vs ≡ [] = values_clean count vs (λ k d h. a (suc k) d (omega (arith, h))) in
    ap (λ x. x ++ flat_map (value_faults count) vs) head ∙ tail
  where
    one_clean : (count : ℕ) (o : Option ℕ) → ((n : ℕ) → o ≡ Some n → n < count) → unless_below BadNode count o ≡ []
    one_clean count None f = refl
    one_clean count (Some n) f = rw (lt-ltb n count (f n refl)) refl

type_clean : (count : ℕ) (o : Option ℕ) → NumberBelow count o → unless_below BadTypeName count o ≡ []
type_clean count None b = refl
type_clean count (Some k) b = rw (lt-ltb k count b) refl

class_clean : (classes : List Class) (number class count : ℕ) → ClassFits classes class count → class_faults classes number class count ≡ []
class_clean classes number class count f = rw (lt-ltb class (length classes) f.below, eq-eqb count (length (get_or classes class no_class).fields) f.count_is) refl

node_clean : (p : Parts) (number : ℕ) (node : Node) → NamesThere p.types p.classes node → All (NamesBelow (length p.nodes)) (values_of node) → node_faults p number node ≡ []
node_clean p number (nodes.List t items) there vs = ap (λ x. x ++ flat_map (value_faults (length p.nodes)) items) (type_clean (length p.types) t there) ∙ values_clean (length p.nodes) items vs
node_clean p number (nodes.Map t pairs) there vs = ap (λ x. x ++ flat_map (value_faults (length p.nodes)) (alternately pairs)) (type_clean (length p.types) t there) ∙ values_clean (length p.nodes) (alternately pairs) vs
node_clean p number (nodes.Object c items) there vs = ap (λ x. x ++ flat_map (value_faults (length p.nodes)) items) (class_clean p.classes number c (length items) there) ∙ values_clean (length p.nodes) items vs

nodes_clean : (p : Parts) (number : ℕ) (ns : List Node) → AllThere p.types p.classes ns → ((n : ℕ) → n < length ns → All (NamesBelow (length p.nodes)) (values_of (get_or ns n no_vertex))) → faults_from p number ns ≡ []
nodes_clean p number [] there vs = refl
nodes_clean p number (node ∷ ns) there vs =
    let head = node_clean p number node (there 0 (omega arith)) (vs 0 (omega arith)) in
    let tail = nodes_clean p (suc number) ns (λ n h. there (suc n) (omega (arith, h))) (λ n h. vs (suc n) (omega (arith, h))) in
    ap (λ x. x ++ faults_from p (suc number) ns) head ∙ tail

-- parts that name what is there are sound
pub sound_of : (p : Parts) → IsClosed (shape_of p) → AllThere p.types p.classes p.nodes → IsSound p
sound_of p closed there =
    let count : length (shape_of p).nodes ≡ length p.nodes = length-map p.nodes (node_shape p.types p.classes) in
    let roots : All (NamesBelow (length p.nodes)) p.roots = subst (λ n. All (NamesBelow n) p.roots) count closed.roots in
    let each : (n : ℕ) → n < length p.nodes → All (NamesBelow (length p.nodes)) (values_of (get_or p.nodes n no_vertex)) = λ n h.
    subst (λ c. All (NamesBelow c) (values_of (get_or p.nodes n no_vertex))) count
    (subst (λ (x : NodeShape). All (NamesBelow (length (shape_of p).nodes)) x.values) (shape_at p n) (closed.each n (omega (arith, count, h)))) in
    ap (λ x. x ++ faults_from p 0 p.nodes) (values_clean (length p.nodes) p.roots roots) ∙ nodes_clean p 0 p.nodes there each

-- the values of a canonical form name its nodes
moved_below : (order : List ℕ) (vs : List Value) → AllPlaced order vs → All (NamesBelow (length order)) (map (renumbered order) vs)
moved_below order [] a k d h = absurd (omega (arith, h))
moved_below order (v ∷ vs) a zero d h = one (node_of v) refl
  where
    one : (o : Option ℕ) → node_of v ≡ o → NamesBelow (length order) (renumbered order v)
    one None names n e = absurd (not_both (node_of v) n names (ap node_of (sym (plain_stays order v names)) ∙ e))
    one (Some m) names n e =
        let q = a.0 m names in
        let is : place_or_zero (place_of m order) ≡ n = some_is (place_or_zero (place_of m order)) n (sym (ap node_of (node_moves order v m names)) ∙ e) in
        let at : q.0 ≡ n = ap place_or_zero (sym q.1) ∙ is in
        subst (λ i. i < length order) at (place_within m order q.0 q.1)
moved_below order (v ∷ vs) a (suc k) d h = moved_below order vs a.1 k d (omega (arith, h))

pub form_closed : (g : Shape) (order : List ℕ) → IsClosed g → Visit g [] g.roots order → length order < 2 ^ 32 → IsClosed (in_order g order)
form_closed g order closed visit few =
    let count : length (in_order g order).nodes ≡ length order = length-map order (moved g order) in
    record {
      few = omega (arith, count, few);
      roots = subst (λ n. All (NamesBelow n) (map (renumbered order) g.roots)) (sym count) (moved_below order g.roots (placed_values visit));
      each = λ n h.
          let within : n < length order = omega (arith, count, h) in
          let at : place_of (get_or order n 0) order ≡ Some n = at_place order (get_or order n 0) n (seen_once visit none_first) within refl in
          let shows : get_or (map (moved g order) order) n no_node ≡ moved g order (get_or order n 0) = place_shows no_node (moved g order) order (get_or order n 0) n at in
          subst (λ (x : NodeShape). All (NamesBelow (length (in_order g order).nodes)) x.values) (sym shows)
          (subst (λ c. All (NamesBelow c) (map (renumbered order) (values_at g (get_or order n 0)))) (sym count)
          (moved_below order (values_at g (get_or order n 0)) (placed_within (get_or order n 0) n visit at refl)));
    }

-- sound parts have the names of their nodes
pub there_of : (p : Parts) → IsSound p → AllThere p.types p.classes p.nodes
there_of p sound n h = nodes_there p 0 p.nodes (back_none (flat_map (value_faults (length p.nodes)) p.roots) (faults_from p 0 p.nodes) sound) n h

-- the values of a node name nodes that are there
pub node_values_below : (p : Parts) (n : ℕ) → IsClosed (shape_of p) → n < length p.nodes → All (NamesBelow (length (shape_of p).nodes)) (values_of (get_or p.nodes n no_vertex))
node_values_below p n closed h =
    let count : length (shape_of p).nodes ≡ length p.nodes = length-map p.nodes (node_shape p.types p.classes) in
    subst (λ (x : NodeShape). All (NamesBelow (length (shape_of p).nodes)) x.values) (shape_at p n) (closed.each n (omega (arith, count, h)))

pub form_few : (p q : Parts) (order : List ℕ) → shape_of q ≡ in_order (shape_of p) order → length order < 2 ^ 32 → length q.nodes < 2 ^ 32
form_few p q order e few =
    let a : length (shape_of q).nodes ≡ length q.nodes = length-map q.nodes (node_shape q.types q.classes) in
    let b : length (in_order (shape_of p) order).nodes ≡ length order = length-map order (moved (shape_of p) order) in
    let s : length (shape_of q).nodes ≡ length (in_order (shape_of p) order).nodes = ap (λ (x : Shape). length x.nodes) e in
    omega (arith, a, b, s, few)
