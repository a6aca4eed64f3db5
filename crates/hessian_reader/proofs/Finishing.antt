-- The nodes of a graph, made of those that have begun.
use Rattle.std.proofs.Common.{◌≡◌, ℕ, suc, ◌+◌, ◌<◌, List, [], ◌∷◌, ◌++◌, length, get_or, arith, refl, sym, ap, ◌∙◌, append_assoc, length-append}
use Rattle.std.specs.Prelude.{map}
use Rattle.hessian_graph.specs.declared.value.Value.{Value}
use Rattle.hessian_graph.specs.declared.value.Pair.{Pair}
use Rattle.hessian_graph.specs.declared.node.Node.{Node}
use Rattle.hessian_graph.specs.declared.node.Class.{Class}
use Rattle.hessian_graph.specs.Shape.{Text, MapKind, NodeShape, type_of, alternately, no_vertex, node_shape, Shape, shape_of}
use Rattle.hessian_graph.specs.Spells.{ArePairs}
use Rattle.hessian_graph.specs.declared.parts.Parts.{Parts}
use Rattle.hessian_graph.proofs.Alternately.{length_alternately}
use Rattle.hessian_reader.specs.declared.table.Sort.{Sort}
use Rattle.hessian_reader.specs.declared.table.Sort.TheVariants as sorts
use Rattle.hessian_reader.specs.Nodes.{Begun}
use Rattle.hessian_reader.specs.Names.{Names}
use Rattle.hessian_reader.specs.States.{sort_at, values_so_far, node_named, State, graph_of}
use Rattle.hessian_reader.specs.Finish.{IsNodeOf, AreNodesOf, IsWhole, MapsAreWhole}

-- one pair more is a key and a value more
pub alternately_more : (ps : List Pair) (q : Pair) → alternately (ps ++ q ∷ []) ≡ alternately ps ++ (q.key ∷ q.value ∷ [])
alternately_more [] q = refl
alternately_more (p ∷ ps) q = ap (λ xs. p.key ∷ p.value ∷ xs) (alternately_more ps q)

-- a key and its value leave the rest, and are a pair more
pub pair_more : (ps : List Pair) (k v : Value) (first second third all : List Value) → alternately ps ++ first ≡ all → first ≡ k ∷ second → second ≡ v ∷ third → alternately (ps ++ record { key = k; value = v } ∷ []) ++ third ≡ all
pair_more ps k v first second third all whole e f =
    ap (λ xs. xs ++ third) (alternately_more ps (record { key = k; value = v }))
    ∙ append_assoc (alternately ps) (k ∷ v ∷ []) third
    ∙ ap (λ xs. alternately ps ++ xs) (ap (λ xs. k ∷ xs) (sym f) ∙ sym e)
    ∙ whole

-- whole pairs leave no key alone
pub no_key_alone : (ps : List Pair) (k : Value) (first second all : List Value) → alternately ps ++ first ≡ all → first ≡ k ∷ second → length second ≡ 0 → ArePairs all → ⊥
no_key_alone ps k first second all whole e none (n, even) =
    let a : length (alternately ps) + length first ≡ length all = sym (length-append (alternately ps) first) ∙ ap length whole in
    let b : length first ≡ 1 + length second = ap length e ∙ omega arith in
    let c = length_alternately ps in
    omega (arith, a, b, c, none, even)

-- the shape of a node is that of the one that had begun
same_named : (types : List Text) (classes : List Class) (sort : Sort) (vs : List Value) (n : Node) → IsNodeOf sort vs n → IsWhole sort vs → node_shape types classes n ≡ node_named (record { types = types; classes = classes }) (record { sort = sort; values = vs })
same_named types classes (sorts.List k) vs n e w = ap (node_shape types classes) e
same_named types classes (sorts.Map k) vs n e w =
    let pairs = e w in
    let mk : List Value → NodeShape = λ (xs : List Value). record { kind = MapKind (type_of types k); values = xs } in
    ap (node_shape types classes) pairs.1 ∙ ap mk pairs.2
same_named types classes (sorts.Object k) vs n e w = ap (node_shape types classes) e

all_named : (types : List Text) (classes : List Class) (bs : List Begun) (ns : List Node) → length ns ≡ length bs → ((i : ℕ) → i < length bs → IsNodeOf (sort_at bs i) (values_so_far bs i) (get_or ns i no_vertex)) → ((i : ℕ) → i < length bs → IsWhole (sort_at bs i) (values_so_far bs i)) → map (node_shape types classes) ns ≡ map (node_named (record { types = types; classes = classes })) bs
all_named types classes [] [] e each whole = refl
all_named types classes [] (n ∷ ns) e each whole = absurd (omega (arith, e))
all_named types classes (b ∷ bs) [] e each whole = absurd (omega (arith, e))
all_named types classes (b ∷ bs) (n ∷ ns) e each whole =
    let one : node_shape types classes n ≡ node_named (record { types = types; classes = classes }) b = same_named types classes b.sort b.values n (each 0 (omega arith)) (whole 0 (omega arith)) in
    let rest = all_named types classes bs ns (omega (arith, e)) (λ i h. each (suc i) (omega (arith, h))) (λ i h. whole (suc i) (omega (arith, h))) in
    cc

-- the nodes are those that had begun, with the names put in
pub nodes_named : (t : Names) (bs : List Begun) (ns : List Node) → AreNodesOf bs ns → ((i : ℕ) → i < length bs → IsWhole (sort_at bs i) (values_so_far bs i)) → map (node_shape t.types t.classes) ns ≡ map (node_named t) bs
nodes_named t bs ns all whole = all_named t.types t.classes bs ns all.as_many all.each whole

-- parts of these nodes and names are the graph that was read
pub graph_named : (s : State) (p : Parts) (ns : List Node) → p.roots ≡ s.built.roots → p.nodes ≡ ns → p.types ≡ s.names.types → p.classes ≡ s.names.classes → AreNodesOf s.built.nodes ns → MapsAreWhole s → shape_of p ≡ graph_of s
graph_named s p ns roots_are nodes_are types_are classes_are made whole =
    let a : map (node_shape p.types p.classes) p.nodes ≡ map (node_shape s.names.types s.names.classes) ns =
    ap (λ ts. map (node_shape ts p.classes) p.nodes) types_are
    ∙ ap (λ cs. map (node_shape s.names.types cs) p.nodes) classes_are
    ∙ ap (map (node_shape s.names.types s.names.classes)) nodes_are in
    let b : map (node_shape p.types p.classes) p.nodes ≡ map (node_named s.names) s.built.nodes = a ∙ nodes_named s.names s.built.nodes ns made whole in
    let f : List Value → List NodeShape → Shape = λ (rs : List Value) (ms : List NodeShape). record { roots = rs; nodes = ms } in
    ap (λ rs. f rs (map (node_shape p.types p.classes) p.nodes)) roots_are ∙ ap (f s.built.roots) b
