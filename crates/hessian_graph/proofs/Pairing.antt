-- Pairs of numbers, place by place.
use Rattle.std.proofs.Common.{◌≡◌, ℕ, zero, suc, ◌<◌, List, [], ◌∷◌, length, get_or, refl, ap, sym, ◌∙◌, subst, arith}
use Rattle.std.specs.Prelude.{Some, Contains, map}
use Rattle.hessian_graph.specs.Canon.{place_of}
use Rattle.hessian_graph.specs.Iso.{StandOnce}
use Rattle.hessian_graph.proofs.Places.{place_at, place_within}

-- the numbers of a pair stand at one place
pub record StandAt (firsts seconds : List ℕ) (n m : ℕ) : Type 0 where
  pub at : ℕ
  pub left : at < length firsts
  pub right : at < length seconds
  pub first : get_or firsts at 0 ≡ n
  pub second : get_or seconds at 0 ≡ m

stands : (pairs : List (ℕ × ℕ)) (n m k : ℕ) → k < length pairs → get_or pairs k (n, m) ≡ (n, m) → StandAt (map (λ p. p.0) pairs) (map (λ p. p.1) pairs) n m
stands [] n m k h e = absurd (omega (arith, h))
stands (p ∷ ps) n m zero h e = record { at = 0; left = omega arith; right = omega arith; first = ap (λ x. x.0) e; second = ap (λ x. x.1) e }
stands (p ∷ ps) n m (suc k) h e =
    let q = stands ps n m k (omega (arith, h)) e in
    let l = q.left in
    let r = q.right in
    record { at = suc q.at; left = omega (arith, l); right = omega (arith, r); first = q.first; second = q.second }

pub pair_stands : (pairs : List (ℕ × ℕ)) (n m : ℕ) → Contains pairs (n, m) → StandAt (map (λ p. p.0) pairs) (map (λ p. p.1) pairs) n m
pair_stands pairs n m c = stands pairs n m c.0 c.1 c.2

-- where no number stands twice, a pair is told by either of its numbers
pub one_second : (pairs : List (ℕ × ℕ)) (n m k : ℕ) → StandOnce (map (λ p. p.0) pairs) → Contains pairs (n, m) → Contains pairs (n, k) → m ≡ k
one_second pairs n m k once a b =
    let p = pair_stands pairs n m a in
    let q = pair_stands pairs n k b in
    let same : p.at ≡ q.at = once p.at q.at p.left q.left (p.first ∙ sym q.first) in
    sym p.second ∙ ap (λ i. get_or (map (λ x. x.1) pairs) i 0) same ∙ q.second

pub one_first : (pairs : List (ℕ × ℕ)) (n m k : ℕ) → StandOnce (map (λ p. p.1) pairs) → Contains pairs (n, m) → Contains pairs (k, m) → n ≡ k
one_first pairs n m k once a b =
    let p = pair_stands pairs n m a in
    let q = pair_stands pairs k m b in
    let same : p.at ≡ q.at = once p.at q.at p.right q.right (p.second ∙ sym q.second) in
    sym p.first ∙ ap (λ i. get_or (map (λ x. x.0) pairs) i 0) same ∙ q.first

-- two lists, place by place
abbrev pub paired : List ℕ → List ℕ → List (ℕ × ℕ)
paired [] ys = []
paired (x ∷ xs) [] = []
paired (x ∷ xs) (y ∷ ys) = (x, y) ∷ paired xs ys

pub firsts_of : (xs ys : List ℕ) → length xs ≡ length ys → map (λ p. p.0) (paired xs ys) ≡ xs
firsts_of [] ys e = refl
firsts_of (x ∷ xs) [] e = absurd (omega (arith, e))
firsts_of (x ∷ xs) (y ∷ ys) e = ap (λ zs. x ∷ zs) (firsts_of xs ys (omega (arith, e)))

pub seconds_of : (xs ys : List ℕ) → length xs ≡ length ys → map (λ p. p.1) (paired xs ys) ≡ ys
seconds_of [] [] e = refl
seconds_of [] (y ∷ ys) e = absurd (omega (arith, e))
seconds_of (x ∷ xs) [] e = absurd (omega (arith, e))
seconds_of (x ∷ xs) (y ∷ ys) e = ap (λ zs. y ∷ zs) (seconds_of xs ys (omega (arith, e)))

pub in_pairs : (xs ys : List ℕ) (n m k : ℕ) → k < length xs → k < length ys → get_or xs k 0 ≡ n → get_or ys k 0 ≡ m → Contains (paired xs ys) (n, m)
in_pairs [] ys n m k h l a b = absurd (omega (arith, h))
in_pairs (x ∷ xs) [] n m k h l a b = absurd (omega (arith, l))
in_pairs (x ∷ xs) (y ∷ ys) n m zero h l a b = (0, omega arith, ap (λ i. (i, y)) a ∙ ap (λ i. (n, i)) b)
in_pairs (x ∷ xs) (y ∷ ys) n m (suc k) h l a b =
    let q = in_pairs xs ys n m k (omega (arith, h)) (omega (arith, l)) a b in
    let w = q.1 in
    (suc q.0, omega (arith, w), q.2)

pub by_places : (xs ys : List ℕ) (n m k : ℕ) → place_of n xs ≡ Some k → place_of m ys ≡ Some k → Contains (paired xs ys) (n, m)
by_places xs ys n m k a b = in_pairs xs ys n m k (place_within n xs k a) (place_within m ys k b) (place_at xs n k a) (place_at ys m k b)

pub of_pairs : (xs ys : List ℕ) (n m : ℕ) → length xs ≡ length ys → Contains (paired xs ys) (n, m) → StandAt xs ys n m
of_pairs xs ys n m e c =
    subst (λ a. StandAt a ys n m) (firsts_of xs ys e)
    (subst (λ b. StandAt (map (λ p. p.0) (paired xs ys)) b n m) (seconds_of xs ys e) (pair_stands (paired xs ys) n m c))
