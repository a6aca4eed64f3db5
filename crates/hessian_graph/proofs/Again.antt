-- A graph is isomorphic to its canonical form, which is therefore its own.
use Rattle.std.proofs.Common.{◌≡◌, ℕ, zero, suc, ◌+◌, ◌<◌, List, [], ◌∷◌, length, get_or, refl, ap, sym, ◌∙◌, subst, arith, inl, inr}
use Rattle.std.specs.Prelude.{Option, Some, None, map, Contains}
use Rattle.std.specs.List.{AllZip}
use Rattle.std.proofs.lemmas.List.{length-map}
use Rattle.hessian_graph.specs.declared.value.Value.{Value}
use Rattle.hessian_graph.specs.declared.value.Value.TheVariants.{Node}
use Rattle.hessian_graph.specs.Shape.{Shape, NodeShape, no_node, node_of, values_at}
use Rattle.hessian_graph.specs.Canon.{place_of, place_or_zero, renumbered, moved, in_order, Visit, IsCanon}
use Rattle.hessian_graph.specs.Iso.{StandOnce, Match, NodesMatch, Iso}
use Rattle.hessian_graph.specs.Work.{IsClosed}
use Rattle.hessian_graph.proofs.Values.{plain_stays, is_node, node_moves}
use Rattle.hessian_graph.proofs.Places.{stand_once, place_shows, place_within, place_at}
use Rattle.hessian_graph.proofs.Pairing.{paired, firsts_of, seconds_of, in_pairs, of_pairs}
use Rattle.hessian_graph.proofs.Visits.{HasPlace, AllPlaced, placed_values, placed_within, some_visit}
use Rattle.hessian_graph.proofs.Back.{seen_once, none_first, below, at_place}
use Rattle.hessian_graph.proofs.Forms.{one_form}

-- so many numbers, from one on
abbrev pub up_from : ℕ → ℕ → List ℕ
up_from n zero = []
up_from n (suc k) = n ∷ up_from (suc n) k

length_up : (n k : ℕ) → length (up_from n k) ≡ k
length_up n zero = refl
length_up n (suc k) = ap suc (length_up (suc n) k)

get_up : (n k i : ℕ) → i < k → get_or (up_from n k) i 0 ≡ n + i
get_up n zero i h = absurd (omega (arith, h))
get_up n (suc k) zero h = omega arith
get_up n (suc k) (suc i) h = let e = get_up (suc n) k i (omega (arith, h)) in omega (arith, e)

up_once : (k : ℕ) → StandOnce (up_from 0 k)
up_once k i j hi hj e =
    let long = length_up 0 k in
    let a = get_up 0 k i (omega (arith, hi, long)) in
    let b = get_up 0 k j (omega (arith, hj, long)) in
    omega (arith, a, b, e)

module _ (g : Shape) (closed : IsClosed g) (order : List ℕ) (visit : Visit g [] g.roots order) where
  ups : List ℕ
  ups = up_from 0 (length order)

  long : length order ≡ length ups
  unfolding ups
  long = sym (length_up 0 (length order))

  at_up : (k : ℕ) → k < length order → get_or ups k 0 ≡ k
  unfolding ups
  at_up k h = let e = get_up 0 (length order) k h in omega (arith, e)

  own_one : (v : Value) (o : Option ℕ) → node_of v ≡ o → HasPlace order v → Match (paired order ups) v (renumbered order v)
  own_one v None names p = inl (sym (plain_stays order v names), names)
  own_one v (Some n) names p =
      let q = p n names in
      let within : q.0 < length order = place_within n order q.0 q.1 in
      inr (
        n,
        q.0,
        is_node v n names,
        node_moves order v n names ∙ ap (λ o. Node (place_or_zero o)) q.1,
        in_pairs order ups n q.0 q.0 within (omega (arith, within, long)) (place_at order n q.0 q.1) (at_up q.0 within),
      )

  own_all : (vs : List Value) → AllPlaced order vs → AllZip (Match (paired order ups)) vs (map (renumbered order) vs)
  own_all [] a = tt
  own_all (v ∷ vs) a = (own_one v (node_of v) refl a.0, own_all vs a.1)

  own_nodes : (n m : ℕ) → Contains (paired order ups) (n, m) → NodesMatch (paired order ups) g (in_order g order) n m
  own_nodes n m c =
      let s = of_pairs order ups n m long c in
      let place : place_of n order ≡ Some s.at = at_place order n s.at (seen_once visit none_first) s.left s.first in
      let there : m ≡ s.at = sym s.second ∙ at_up s.at s.left in
      let shows : get_or (map (moved g order) order) m no_node ≡ moved g order n = subst (λ i. get_or (map (moved g order) order) i no_node ≡ moved g order n) (sym there) (place_shows no_node (moved g order) order n s.at place) in
      let count = length-map order (moved g order) in
      let left = s.left in
      record {
        left = below g closed order visit n s.at place;
        right = omega (arith, count, there, left);
        kinds = sym (ap (λ (x : NodeShape). x.kind) shows);
        values = subst (λ x. AllZip (Match (paired order ups)) (values_at g n) x) (sym (ap (λ (x : NodeShape). x.values) shows)) (own_all (values_at g n) (placed_within n s.at visit place refl));
      }

  pub iso_to_form : Iso g (in_order g order)
  unfolding ups
  iso_to_form = (
    paired order ups,
    record {
      left = subst StandOnce (sym (firsts_of order ups long)) (stand_once order (seen_once visit none_first));
      right = subst StandOnce (sym (seconds_of order ups long)) (up_once (length order));
      roots = own_all g.roots (placed_values visit);
      nodes = own_nodes;
    },
  )

-- the canonical form of a canonical form is itself
pub form_stays : (g a : Shape) → IsClosed g → IsClosed a → IsCanon g a → IsCanon a a
form_stays g a cg ca (order, visit, is) =
    let v = some_visit a ca in
    let own : IsCanon a (in_order a v.0) = (v.0, v.1, refl) in
    let i : Iso g a = subst (Iso g) (sym is) (iso_to_form g cg order visit) in
    (v.0, v.1, one_form i.0 g a i.1 a (in_order a v.0) (order, visit, is) own)
