-- Graphs with one canonical form are isomorphic, and so is a graph to its canonical form.
use Rattle.std.proofs.Common.{◌≡◌, ℕ, ◌<◌, List, [], ◌∷◌, length, get_or, refl, ap, sym, ◌∙◌, subst, arith, inl, inr}
use Rattle.std.specs.Prelude.{Option, Some, None, map, Contains, ◌↔◌}
use Rattle.std.specs.List.{AllZip}
use Rattle.std.proofs.lemmas.List.{length-map}
use Rattle.hessian_graph.specs.declared.value.Value.{Value}
use Rattle.hessian_graph.specs.declared.value.Value.TheVariants.{Node}
use Rattle.hessian_graph.specs.Shape.{Shape, NodeShape, no_node, node_of, values_at}
use Rattle.hessian_graph.specs.Canon.{place_of, place_or_zero, renumbered, moved, in_order, Visit, IsCanon}
use Rattle.hessian_graph.specs.Canon.Visit.{done, plain, again, first}
use Rattle.hessian_graph.specs.Iso.{StandOnce, Match, NodesMatch, Iso}
use Rattle.hessian_graph.specs.Work.{IsClosed}
use Rattle.hessian_graph.proofs.Values.{plain_stays, is_node, node_moves, node_is, not_both}
use Rattle.hessian_graph.proofs.Places.{AreFirst, one_more_first, stand_once, place_shows}
use Rattle.hessian_graph.proofs.Pairing.{paired, firsts_of, seconds_of, by_places, of_pairs}
use Rattle.hessian_graph.proofs.Visits.{HasPlace, AllPlaced, placed_values, placed_within}
use Rattle.hessian_graph.proofs.Reaching.{kept_is_reached, reached_below}
use Rattle.hessian_graph.proofs.Forms.{one_form}

-- no node is seen twice
pub seen_once : {g : Shape} {seen out : List ℕ} {vs : List Value} → Visit g seen vs out → AreFirst seen → AreFirst out
seen_once (done seen) a = a
seen_once (plain seen out v rest names l) a = seen_once l a
seen_once (again seen out v rest n k names at l) a = seen_once l a
seen_once (first seen out v rest n names new l) a = seen_once l (one_more_first seen n a new)

pub none_first : AreFirst []
none_first k h = absurd (omega (arith, h))

-- what has its place is kept, and so is below the number of nodes
pub below : (g : Shape) → IsClosed g → (order : List ℕ) → Visit g [] g.roots order → (n k : ℕ) → place_of n order ≡ Some k → n < length g.nodes
below g closed order visit n k at = reached_below g closed n (kept_is_reached g order visit n k at)

pub at_place : (order : List ℕ) (n k : ℕ) → AreFirst order → k < length order → get_or order k 0 ≡ n → place_of n order ≡ Some k
at_place order n k firsts h e = subst (λ i. place_of i order ≡ Some k) e (firsts k h)

module _ (og oh : List ℕ) where
  -- values that are one under the new numbers match
  by_names : (v w : Value) (a b : Option ℕ) → node_of v ≡ a → node_of w ≡ b → HasPlace og v → HasPlace oh w → renumbered og v ≡ renumbered oh w → Match (paired og oh) v w
  by_names v w None None a b p q e = inl (sym (plain_stays og v a) ∙ e ∙ plain_stays oh w b, a)
  by_names v w None (Some m) a b p q e =
      let bad : v ≡ Node (place_or_zero (place_of m oh)) = sym (plain_stays og v a) ∙ e ∙ node_moves oh w m b in
      absurd (not_both (node_of v) (place_or_zero (place_of m oh)) a (ap node_of bad))
  by_names v w (Some n) None a b p q e =
      let bad : w ≡ Node (place_or_zero (place_of n og)) = sym (plain_stays oh w b) ∙ sym e ∙ node_moves og v n a in
      absurd (not_both (node_of w) (place_or_zero (place_of n og)) b (ap node_of bad))
  by_names v w (Some n) (Some m) a b p q e =
      let i = p n a in
      let j = q m b in
      let s : place_or_zero (place_of n og) ≡ place_or_zero (place_of m oh) = node_is (place_or_zero (place_of n og)) (place_or_zero (place_of m oh)) (sym (node_moves og v n a) ∙ e ∙ node_moves oh w m b) in
      let same : i.0 ≡ j.0 = ap place_or_zero (sym i.1) ∙ s ∙ ap place_or_zero j.1 in
      inr (n, m, is_node v n a, is_node w m b, by_places og oh n m i.0 i.1 (j.1 ∙ ap Some (sym same)))

  match_all : (vs ws : List Value) → AllPlaced og vs → AllPlaced oh ws → map (renumbered og) vs ≡ map (renumbered oh) ws → AllZip (Match (paired og oh)) vs ws
  match_all [] [] a b e = tt
  match_all [] (w ∷ ws) a b e = cc
  match_all (v ∷ vs) [] a b e = cc
  match_all (v ∷ vs) (w ∷ ws) a b e =
      let head : renumbered og v ≡ renumbered oh w = cc in
      let tail : map (renumbered og) vs ≡ map (renumbered oh) ws = cc in
      (by_names v w (node_of v) (node_of w) refl refl a.0 b.0 head, match_all vs ws a.1 b.1 tail)

  module _ (g h : Shape) (cg : IsClosed g) (ch : IsClosed h) (vg : Visit g [] g.roots og) (vh : Visit h [] h.roots oh) (e : in_order g og ≡ in_order h oh) where
    same_long : length og ≡ length oh
    same_long = sym (length-map og (moved g og)) ∙ ap (λ (x : Shape). length x.nodes) e ∙ length-map oh (moved h oh)

    node_one : (n m k : ℕ) → place_of n og ≡ Some k → place_of m oh ≡ Some k → moved g og n ≡ moved h oh m
    node_one n m k a b = sym (place_shows no_node (moved g og) og n k a) ∙ ap (λ (x : Shape). get_or x.nodes k no_node) e ∙ place_shows no_node (moved h oh) oh m k b

    nodes_match : (n m : ℕ) → Contains (paired og oh) (n, m) → NodesMatch (paired og oh) g h n m
    nodes_match n m c =
        let s = of_pairs og oh n m same_long c in
        let a : place_of n og ≡ Some s.at = at_place og n s.at (seen_once vg none_first) s.left s.first in
        let b : place_of m oh ≡ Some s.at = at_place oh m s.at (seen_once vh none_first) s.right s.second in
        let one : moved g og n ≡ moved h oh m = node_one n m s.at a b in
        record {
          left = below g cg og vg n s.at a;
          right = below h ch oh vh m s.at b;
          kinds = ap (λ (x : NodeShape). x.kind) one;
          values = match_all (values_at g n) (values_at h m) (placed_within n s.at vg a refl) (placed_within m s.at vh b refl) (ap (λ (x : NodeShape). x.values) one);
        }

    pub iso_of : Iso g h
    iso_of = (
      paired og oh,
      record {
        left = subst StandOnce (sym (firsts_of og oh same_long)) (stand_once og (seen_once vg none_first));
        right = subst StandOnce (sym (seconds_of og oh same_long)) (stand_once oh (seen_once vh none_first));
        roots = match_all g.roots h.roots (placed_values vg) (placed_values vh) (ap (λ (x : Shape). x.roots) e);
        nodes = nodes_match;
      },
    )

-- graphs are isomorphic exactly where their canonical forms are equal
pub iso_exactly : (g h a b : Shape) → IsClosed g → IsClosed h → IsCanon g a → IsCanon h b → Iso g h ↔ (a ≡ b)
iso_exactly g h a b cg ch ca cb = (
  (λ i. one_form i.0 g h i.1 a b ca cb),
  (λ e. iso_of ca.0 cb.0 g h cg ch ca.1 cb.1 (sym ca.2 ∙ e ∙ cb.2)),
)
