-- What goes through a graph finds that each value is such as its type can hold.
use Rattle.std.proofs.Common.{◌≡◌, ℕ, zero, suc, ◌+◌, ◌<◌, List, [], ◌∷◌, length, get_or, sym, ◌∙◌, subst, inl, inr, arith}
use Rattle.std.specs.Prelude.{Some, None, All, IsUtf8}
use Rattle.std.proofs.lemmas.Bool.{cases_lt}
use Rattle.std.proofs.lemmas.List.{length-map, get_or_default}
use Rattle.hessian_graph.specs.declared.value.Pair.{Pair}
use Rattle.hessian_graph.specs.declared.node.Node.{Node}
use Rattle.hessian_graph.specs.declared.node.Node.TheVariants as nodes
use Rattle.hessian_graph.specs.declared.parts.Parts.{Parts}
use Rattle.hessian_graph.specs.Shape.{NodeShape, alternately, values_of, kind_of, no_class, no_vertex, node_shape, shape_of}
use Rattle.hessian_graph.specs.Faults.{IsSound}
use Rattle.hessian_graph.specs.Moving.{NamesThere}
use Rattle.hessian_graph.proofs.Alternately.{length_alternately}
use Rattle.hessian_graph.proofs.Rebuilding.{there_of, shape_at}
use Rattle.hessian_writer.specs.Carried.{IsCarriedValue, IsCarriedClass, IsCarriedKind, IsCarried}

-- what holds of each item before a place, and of the one there, holds up to the next
pub one_more : {A : Type 0} (P : A → Type 0) (xs : List A) (i : ℕ) (x : A) → ((k : ℕ) (d : A) → k < i → P (get_or xs k d)) → x ≡ get_or xs i x → i < length xs → P x → (k : ℕ) (d : A) → k < i + 1 → P (get_or xs k d)
one_more P xs i x before e h p k d l = elim (cases_lt k i) [
  | inl b ↦ before k d b
  | inr past ↦
      let same : i ≡ k = omega (arith, l, past) in
      subst (λ j. P (get_or xs j d)) same (subst P (e ∙ get_or_default xs i x d h) p)
]

pub pairs_all : (ps : List Pair) → ((k : ℕ) (d : Pair) → k < length ps → IsCarriedValue (get_or ps k d).key × IsCarriedValue (get_or ps k d).value) → All IsCarriedValue (alternately ps)
pairs_all [] each k d h = absurd (omega (arith, h))
pairs_all (p ∷ ps) each zero d h = (each 0 p (omega arith)).0
pairs_all (p ∷ ps) each (suc zero) d h = (each 0 p (omega arith)).1
pairs_all (p ∷ ps) each (suc (suc k)) d h = pairs_all ps (λ j e l. each (suc j) e (omega (arith, l))) k d (omega (arith, h))

-- the kind of a node is such as its type can hold
kind_carried : (p : Parts) (node : Node) → NamesThere p.types p.classes node → All IsUtf8 p.types → ((n : ℕ) → n < length p.classes → IsCarriedClass (get_or p.classes n no_class)) → IsCarriedKind (kind_of p.types p.classes node) (values_of node)
kind_carried p (nodes.List None items) there types classes = tt
kind_carried p (nodes.List (Some k) items) there types classes = types k [] there
kind_carried p (nodes.Map None pairs) there types classes = (tt, (length pairs, length_alternately pairs))
kind_carried p (nodes.Map (Some k) pairs) there types classes = (types k [] there, (length pairs, length_alternately pairs))
kind_carried p (nodes.Object class vs) there types classes = (classes class there.below, there.count_is)

pub all_carried : (p : Parts) → IsSound p → All IsCarriedValue p.roots → ((n : ℕ) → n < length p.nodes → All IsCarriedValue (values_of (get_or p.nodes n no_vertex))) → All IsUtf8 p.types → ((n : ℕ) → n < length p.classes → IsCarriedClass (get_or p.classes n no_class)) → IsCarried (shape_of p)
all_carried p sound roots each types classes =
    let long = length-map p.nodes (node_shape p.types p.classes) in
    record {
      roots = roots;
      kinds = λ n h.
          let node : Node = get_or p.nodes n no_vertex in
          let there = there_of p sound n (omega (arith, h, long)) in
          subst (λ (x : NodeShape). IsCarriedKind x.kind x.values) (sym (shape_at p n)) (kind_carried p node there types classes);
      values = λ n h. subst (λ (x : NodeShape). All IsCarriedValue x.values) (sym (shape_at p n)) (each n (omega (arith, h, long)));
    }
