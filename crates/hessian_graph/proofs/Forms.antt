-- Isomorphic graphs have one canonical form.
use Rattle.std.proofs.Common.{◌≡◌, ℕ, List, [], ◌∷◌, ◌++◌, refl, ap, sym, ◌∙◌, subst, inl, inr}
use Rattle.std.specs.Prelude.{Some, None, map, Contains}
use Rattle.std.specs.List.{AllZip}
use Rattle.std.proofs.lemmas.Bool.{eq-eqb, ne_eqb, cases_eq}
use Rattle.std.proofs.lemmas.List.Elements.{AllZip-push}
use Rattle.hessian_graph.specs.declared.value.Value.{Value}
use Rattle.hessian_graph.specs.declared.value.Value.TheVariants.{Node}
use Rattle.hessian_graph.specs.Shape.{Shape, node_of, values_at, kind_at}
use Rattle.hessian_graph.specs.Canon.{place_of, one_later, place_or_zero, renumbered, moved, in_order, Visit, IsCanon}
use Rattle.hessian_graph.specs.Canon.Visit.{done, plain, again, first}
use Rattle.hessian_graph.specs.Iso.{Match, IsIso}
use Rattle.hessian_graph.proofs.Values.{plain_stays, not_both, some_is}
use Rattle.hessian_graph.proofs.Pairing.{one_second, one_first}
use Rattle.hessian_graph.proofs.Visits.{after_plain, after_again, after_first, after_done}

zip_both : (R : Value → Value → Type 0) (us bs xs ys : List Value) → AllZip R us bs → AllZip R xs ys → AllZip R (us ++ xs) (bs ++ ys)
zip_both R [] [] xs ys a b = b
zip_both R [] (y ∷ bs) xs ys a b = absurd a
zip_both R (x ∷ us) [] xs ys a b = absurd a
zip_both R (x ∷ us) (y ∷ bs) xs ys a b = (a.0, zip_both R us bs xs ys a.1 b)

module _ (pairs : List (ℕ × ℕ)) (g h : Shape) (iso : IsIso pairs g h) where
  abbrev P : ℕ → ℕ → Type 0
  P n m = Contains pairs (n, m)

  -- the nodes of a pair have one place
  place_zip : (xs ys : List ℕ) (n m : ℕ) → AllZip P xs ys → P n m → place_of n xs ≡ place_of m ys
  place_zip [] [] n m z p = refl
  place_zip [] (y ∷ ys) n m z p = absurd z
  place_zip (x ∷ xs) [] n m z p = absurd z
  place_zip (x ∷ xs) (y ∷ ys) n m z p = elim (cases_eq n x) [
    | inl same ↦
        let other : m ≡ y = one_second pairs x m y iso.left (subst (λ i. P i m) same p) z.0 in
        rw (eq-eqb n x same, eq-eqb m y other) refl
    | inr ne ↦
        let other : m ≡ y → ⊥ = λ e. ne (one_first pairs n y x iso.right (subst (P n) e p) z.0) in
        rw (ne_eqb n x ne, ne_eqb m y other) (ap one_later (place_zip xs ys n m z.1 p))
  ]

  -- a match of a value that is no node is none, and of a node is its mate
  plain_match : (v w : Value) → node_of v ≡ None → Match pairs v w → node_of w ≡ None
  plain_match v w names (inl (same, none)) = subst (λ x. node_of x ≡ None) same names
  plain_match v w names (inr (n, m, a, b, p)) = absurd (not_both (node_of v) n names (ap node_of a))

  node_match : (v w : Value) (n : ℕ) → node_of v ≡ Some n → Match pairs v w → (m : ℕ) × (node_of w ≡ Some m) × P n m
  node_match v w n names (inl (same, none)) = absurd (not_both (node_of v) n none names)
  node_match v w n names (inr (i, m, a, b, p)) = (m, ap node_of b, subst (λ x. P x m) (some_is i n (sym (ap node_of a) ∙ names)) p)

  together : {seen out seen' out' : List ℕ} {vs : List Value} (ws : List Value) → Visit g seen vs out → Visit h seen' ws out' → AllZip P seen seen' → AllZip (Match pairs) vs ws → AllZip P out out'
  together [] (done seen) l z m = subst (AllZip P seen) (after_done h l) z
  together (w ∷ ws) (done seen) l z m = absurd m
  together [] (plain seen out v rest names k) l z m = absurd m
  together (w ∷ ws) (plain seen out v rest names k) l z m = together ws k (after_plain h (plain_match v w names m.0) l) z m.1
  together [] (again seen out v rest n j names at k) l z m = absurd m
  together {seen' = seen'} (w ∷ ws) (again seen out v rest n j names at k) l z m =
      let q = node_match v w n names m.0 in
      together ws k (after_again h q.0 j q.1 (sym (place_zip seen seen' n q.0 z q.2) ∙ at) l) z m.1
  together [] (first seen out v rest n names new k) l z m = absurd m
  together {seen' = seen'} (w ∷ ws) (first seen out v rest n names new k) l z m =
      let q = node_match v w n names m.0 in
      together (values_at h q.0 ++ ws) k (after_first h q.0 q.1 (sym (place_zip seen seen' n q.0 z q.2) ∙ new) l)
      (AllZip-push P seen seen' n q.0 z q.2)
      (zip_both (Match pairs) (values_at g n) (values_at h q.0) rest ws (iso.nodes n q.0 q.2).values m.1)

  module _ (og oh : List ℕ) (z : AllZip P og oh) where
    -- values that match are one under the new numbers
    one_same : (v w : Value) → Match pairs v w → renumbered og v ≡ renumbered oh w
    one_same v w (inl (same, none)) = plain_stays og v none ∙ same ∙ sym (plain_stays oh w (subst (λ x. node_of x ≡ None) same none))
    one_same v w (inr (n, m, a, b, p)) = ap (renumbered og) a ∙ ap (λ o. Node (place_or_zero o)) (place_zip og oh n m z p) ∙ sym (ap (renumbered oh) b)

    values_same : (vs ws : List Value) → AllZip (Match pairs) vs ws → map (renumbered og) vs ≡ map (renumbered oh) ws
    values_same [] [] m = refl
    values_same [] (w ∷ ws) m = absurd m
    values_same (v ∷ vs) [] m = absurd m
    values_same (v ∷ vs) (w ∷ ws) m = let a = one_same v w m.0 in let b = values_same vs ws m.1 in cc

    node_same : (n m : ℕ) → P n m → moved g og n ≡ moved h oh m
    node_same n m p =
        let k : kind_at g n ≡ kind_at h m = (iso.nodes n m p).kinds in
        let v : map (renumbered og) (values_at g n) ≡ map (renumbered oh) (values_at h m) = values_same (values_at g n) (values_at h m) (iso.nodes n m p).values in
        ap (λ x. record { kind = x; values = map (renumbered og) (values_at g n) }) k ∙ ap (λ x. record { kind = kind_at h m; values = x }) v

    nodes_same : (xs ys : List ℕ) → AllZip P xs ys → map (moved g og) xs ≡ map (moved h oh) ys
    nodes_same [] [] m = refl
    nodes_same [] (y ∷ ys) m = absurd m
    nodes_same (x ∷ xs) [] m = absurd m
    nodes_same (x ∷ xs) (y ∷ ys) m = let a = node_same x y m.0 in let b = nodes_same xs ys m.1 in cc

    all_same : in_order g og ≡ in_order h oh
    all_same =
        let r : map (renumbered og) g.roots ≡ map (renumbered oh) h.roots = values_same g.roots h.roots iso.roots in
        let n : map (moved g og) og ≡ map (moved h oh) oh = nodes_same og oh z in
        ap (λ x. record { roots = x; nodes = map (moved g og) og }) r ∙ ap (λ x. record { roots = map (renumbered oh) h.roots; nodes = x }) n

  pub one_form : (a b : Shape) → IsCanon g a → IsCanon h b → a ≡ b
  one_form a b (og, vg, ia) (oh, vh, ib) = ia ∙ all_same og oh (together h.roots vg vh tt iso.roots) ∙ sym ib
