-- What can be written: the canonical form of what can, and what kinds answer.
use Rattle.std.proofs.Common.{◌≡◌, ℕ, suc, ◌<◌, ◌^◌, List, [], ◌∷◌, length, get_or, reverse, refl, sym, subst, arith, inl, inr, length-append}
use Rattle.std.specs.Prelude.{Some, None, map}
use Rattle.std.proofs.lemmas.Bool.{cases_lt}
use Rattle.std.proofs.lemmas.List.{length-map, length-reverse}
use Rattle.hessian_graph.specs.declared.value.Value.{Value}
use Rattle.hessian_graph.specs.declared.value.Value.TheVariants as values
use Rattle.hessian_graph.specs.Shape.{Kind, ListKind, MapKind, ObjectKind, Shape, NodeShape, no_node, values_at, kind_at}
use Rattle.hessian_graph.specs.Canon.{place_of, renumbered, moved, in_order, IsCanon}
use Rattle.hessian_graph.specs.Work.{IsClosed}
use Rattle.hessian_graph.proofs.Places.{place_shows}
use Rattle.hessian_graph.proofs.Back.{at_place, seen_once, none_first, below}
use Rattle.hessian_graph.proofs.TableSteps.{front_get, last_get}
use Rattle.hessian_writer.specs.Writable.{IsShortKind, IsWritable}
use Rattle.service_table.specs.declared.kind.Kind.{Kind as Service}
use Rattle.service_table.specs.Replies.{first_of, lone, with_new, overflow_class, knot_class, answer}
use Rattle.service_table.proofs.CanonForms.{few_nodes}
use Rattle.service_table.proofs.Closed.{OfGraph, of_answer, first_within}

-- a node's list may have other values, as many as before
same_short : (kind : Kind) (vs ws : List Value) → length ws ≡ length vs → IsShortKind kind vs → IsShortKind kind ws
same_short (ListKind type) vs ws e short = omega (arith, e, short)
same_short (MapKind type) vs ws e short = tt
same_short (ObjectKind class) vs ws e short = short

-- the canonical form of a graph that can be written can be
pub canon_writable : (g a : Shape) → IsClosed g → IsCanon g a → IsWritable g → IsWritable a
canon_writable g a closed canon w =
    let few = few_nodes g a closed canon in
    let small = w.few in
    record {
      few = omega (arith, few, small);
      each = λ n h. subst (λ (x : Shape). IsShortKind (kind_at x n) (values_at x n)) (sym canon.2) (each n (subst (λ (x : Shape). n < length x.nodes) canon.2 h));
    }
  where
    each : (n : ℕ) → n < length (in_order g canon.0).nodes → IsShortKind (kind_at (in_order g canon.0) n) (values_at (in_order g canon.0) n)
    each n h =
        let order : List ℕ = canon.0 in
        let count : length (in_order g order).nodes ≡ length order = length-map order (moved g order) in
        let within : n < length order = omega (arith, count, h) in
        let at : place_of (get_or order n 0) order ≡ Some n = at_place order (get_or order n 0) n (seen_once canon.1 none_first) within refl in
        let shows : get_or (map (moved g order) order) n no_node ≡ moved g order (get_or order n 0) = place_shows no_node (moved g order) order (get_or order n 0) n at in
        subst (λ (x : NodeShape). IsShortKind x.kind x.values) (sym shows)
        (same_short (kind_at g (get_or order n 0)) (values_at g (get_or order n 0)) (map (renumbered order) (values_at g (get_or order n 0))) (length-map (values_at g (get_or order n 0)) (renumbered order))
        (w.each (get_or order n 0) (below g closed order canon.1 (get_or order n 0) n at)))

module _ (g : Shape) (w : IsWritable g) (kind : Kind) (vs : List Value) where
  abbrev new : NodeShape
  new = record { kind = kind; values = vs }

  pub new_writable : suc (length g.nodes) < 2 ^ 31 → IsShortKind kind vs → IsWritable (with_new kind vs g)
  new_writable few short =
      let long = length-append g.nodes (new ∷ []) in
      record { few = omega (arith, few, long); each = λ n h. each n (omega (arith, h, long)) }
    where
      each : (n : ℕ) → n < suc (length g.nodes) → IsShortKind (kind_at (with_new kind vs g) n) (values_at (with_new kind vs g) n)
      each n h = elim (cases_lt n (length g.nodes)) [
        | inl before ↦ subst (λ (x : NodeShape). IsShortKind x.kind x.values) (sym (front_get g.nodes (new ∷ []) n no_node before)) (w.each n before)
        | inr past ↦
            let at : length g.nodes ≡ n = omega (arith, h, past) in
            subst (λ i. IsShortKind (kind_at (with_new kind vs g) i) (values_at (with_new kind vs g) i)) at
            (subst (λ (x : NodeShape). IsShortKind x.kind x.values) (sym (last_get g.nodes new no_node)) short)
      ]

lone_writable : (v : Value) → IsWritable (lone v)
lone_writable v = record { few = omega arith; each = λ n h. absurd (omega (arith, h)) }

abbrev empty : Shape
empty = record { roots = []; nodes = [] }

empty_writable : IsWritable empty
empty_writable = record { few = omega arith; each = λ n h. absurd (omega (arith, h)) }

-- what a kind answers can be written
pub answer_writable : (kind : Service) (g : Shape) → IsClosed g → IsWritable g → suc (length g.nodes) < 2 ^ 31 → length g.roots < 2 ^ 31 → OfGraph IsWritable (answer kind g)
answer_writable kind g closed w few roots = of_answer IsWritable g (record {
  null = lone_writable values.Null;
  long = λ z. lone_writable (values.Long z);
  first = record { few = w.few; each = λ n h. w.each n h };
  args = new_writable g w (ListKind None) g.roots few roots;
  twice = new_writable g w (ListKind None) (first_of g ∷ first_of g ∷ []) few (omega arith);
  turned = λ n named type is.
      let short : length (values_at g n) < 2 ^ 31 = subst (λ k. IsShortKind k (values_at g n)) is (w.each n (first_within g closed n named)) in
      new_writable g w (ListKind type) (reverse (values_at g n)) few (let e = length-reverse (values_at g n) in omega (arith, e, short));
  knot = new_writable g w (ObjectKind knot_class) (values.Node (length g.nodes) ∷ first_of g ∷ []) few (omega arith);
  overflow = new_writable empty empty_writable (ObjectKind overflow_class) [] (omega arith) (omega arith);
}) kind
