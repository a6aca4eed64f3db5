-- The last root of a graph, and the graph without it.
use Rattle.std.proofs.Common.{◌≡◌, ℕ, zero, suc, ◌+◌, ◌-◌, List, [], ◌∷◌, ◌++◌, length, take, refl, sym, ap, ◌∙◌, subst, arith, length-append}
use Rattle.std.specs.Prelude.{map, Some, None}
use Rattle.std.specs.List.{flat_map}
use Rattle.std.proofs.Math.Seq.{take-append_seam}
use Rattle.hessian_graph.specs.declared.node.Node.{Node}
use Rattle.hessian_graph.specs.declared.node.Node.TheVariants as nodes
use Rattle.hessian_graph.specs.declared.parts.Parts.{Parts}
use Rattle.hessian_graph.specs.declared.parts.PartsFault.{PartsFault}
use Rattle.hessian_graph.specs.declared.value.Value.{Value}
use Rattle.hessian_graph.specs.Faults.{IsSound, faults_from, node_faults, value_faults}
use Rattle.hessian_graph.specs.declared.node.Class.{Class}
use Rattle.hessian_graph.specs.Shape.{Text, Shape, NodeShape, node_shape, shape_of}
use Rattle.hessian_graph.specs.Canon.{IsCanon}
use Rattle.dubbo_bodies.specs.declared.attachment.Attachment.{Attachment}
use Rattle.dubbo_bodies.specs.declared.message.Request.{Request}
use Rattle.dubbo_bodies.specs.Attachments.{AttachmentsOf}
use Rattle.dubbo_bodies.specs.AttachmentsRead.{LastRoot, FindsBehind}
use Rattle.dubbo_bodies.specs.Refusals.{LacksAttachments}
use Rattle.dubbo_bodies.specs.RequestBody.{with_roots, ValuesOf}
use Rattle.dubbo_bodies.specs.RootsRead.{DropsLast}

-- ---- parts without some roots stay sound

both_nil : {A : Type 0} (xs ys : List A) → xs ++ ys ≡ [] → xs ≡ []
both_nil [] ys e = refl
both_nil (x ∷ xs) ys e = absurd (cc)

rest_nil : {A : Type 0} (xs ys : List A) → xs ++ ys ≡ [] → ys ≡ []
rest_nil [] ys e = e
rest_nil (x ∷ xs) ys e = absurd (cc)

join_nil : {A : Type 0} {xs ys : List A} → xs ≡ [] → ys ≡ [] → xs ++ ys ≡ []
join_nil {xs = xs} {ys = ys} a b = ap (λ zs. zs ++ ys) a ∙ b

front_nil : {A B : Type 0} (f : A → List B) (k : ℕ) (xs : List A) → flat_map f xs ≡ [] → flat_map f (take k xs) ≡ []
front_nil f zero xs e = refl
front_nil f (suc k) [] e = refl
front_nil f (suc k) (x ∷ xs) e = join_nil (both_nil (f x) (flat_map f xs) e) (front_nil f k xs (rest_nil (f x) (flat_map f xs) e))

abbrev having : Parts → List Value → Parts
having p roots = record { roots = roots; nodes = p.nodes; types = p.types; classes = p.classes }

same_node : (p : Parts) (roots : List Value) (k : ℕ) (node : Node) → node_faults (having p roots) k node ≡ node_faults p k node
same_node p roots k (nodes.List type_name items) = refl
same_node p roots k (nodes.Map type_name pairs) = refl
same_node p roots k (nodes.Object class vs) = refl

same_nodes : (p : Parts) (roots : List Value) (k : ℕ) (ns : List Node) → faults_from (having p roots) k ns ≡ faults_from p k ns
same_nodes p roots k [] = refl
same_nodes p roots k (n ∷ ns) = ap (λ xs. xs ++ faults_from (having p roots) (suc k) ns) (same_node p roots k n) ∙ ap (λ xs. node_faults p k n ++ xs) (same_nodes p roots (suc k) ns)

pub fewer_sound : (p : Parts) (k : ℕ) → IsSound p → IsSound (having p (take k p.roots))
fewer_sound p k e =
    let f : Value → List PartsFault = value_faults (length p.nodes) in
    join_nil (front_nil f k p.roots (both_nil (flat_map f p.roots) (faults_from p 0 p.nodes) e))
    (same_nodes p (take k p.roots) 0 p.nodes ∙ rest_nil (flat_map f p.roots) (faults_from p 0 p.nodes) e)

-- ---- the last root

-- the roots but the last are the arguments
args_are : (g : Shape) (count : ℕ) (last : Value) (l : LastRoot g count last) → take (length g.roots - 1) g.roots ≡ l.args
args_are g count last l =
    let long : length g.roots ≡ length l.args + 1 = ap length l.roots ∙ length-append l.args (last ∷ []) in
    let few : length g.roots - 1 ≡ length l.args = omega (arith, long) in
    ap (λ k. take k g.roots) few ∙ ap (take (length l.args)) l.roots ∙ take-append_seam l.args (last ∷ [])

shape_parts : {a b : List Value} {c d : List NodeShape} → a ≡ b → c ≡ d → ◌≡◌ {A = Shape} (record { roots = a; nodes = c }) (record { roots = b; nodes = d })
shape_parts {a} {b} {c} {d} p q = ap (λ (x : List Value). record { roots = x; nodes = c }) p ∙ ap (λ (x : List NodeShape). record { roots = b; nodes = x }) q

same_shapes : {a b : List Text} {c d : List Class} {xs ys : List Node} → a ≡ b → c ≡ d → xs ≡ ys → map (node_shape a c) xs ≡ map (node_shape b d) ys
same_shapes {a} {b} {c} {d} {xs} {ys} p q r = ap (λ t. map (node_shape t c) xs) p ∙ ap (λ t. map (node_shape b t) xs) q ∙ ap (map (node_shape b d)) r

pub dropped_shape : (old new : Parts) (count : ℕ) (last : Value) (l : LastRoot (shape_of old) count last) → DropsLast old new → shape_of new ≡ with_roots l.args (shape_of old)
dropped_shape old new count last l d = shape_parts (d.roots ∙ args_are (shape_of old) count last l) (same_shapes d.types d.classes d.nodes)

-- ---- the values of a request

pub lacks_last : (g : Shape) (count : ℕ) → FindsBehind g count None → LacksAttachments g count
lacks_last g count f = record { args = f.is_last.args; last = f.last; roots = f.is_last.roots; each = f.is_last.each; none = f.finds }

pub values_of_request : (g dropped : Parts) (count : ℕ) (found : List Attachment) (r : Request) → FindsBehind (shape_of g) count (Some found) → DropsLast g dropped → IsCanon (shape_of dropped) (shape_of r.args) → r.attachments ≡ found → ValuesOf (shape_of g) count r
values_of_request g dropped count found r f d canon e = record {
  args = f.is_last.args;
  last = f.last;
  roots = f.is_last.roots;
  each = f.is_last.each;
  canonical = subst (λ s. IsCanon s (shape_of r.args)) (dropped_shape g dropped count f.last f.is_last d) canon;
  attachments = subst (AttachmentsOf (shape_of g) f.last) (sym e) f.finds;
}
