-- Keys and values alternately.
use Rattle.std.proofs.Common.{◌≡◌, ℕ, zero, suc, ◌+◌, ◌/◌, ◌%◌, ◌<◌, ◌≤◌, List, [], ◌∷◌, length, get_or, refl, ap, ◌∙◌, subst, arith}
use Rattle.std.proofs.lemmas.Bool.{lt-ltb, le-ltb}
use Rattle.std.proofs.Math.Nat.{div-add-mod}
use Rattle.hessian_graph.specs.declared.value.Value.TheVariants.{Null}
use Rattle.hessian_graph.specs.declared.value.Pair.{Pair}
use Rattle.hessian_graph.specs.declared.walk.Link.TheVariants.{End}
use Rattle.hessian_graph.specs.Shape.{alternately, node_of}
use Rattle.hessian_graph.specs.Work.{link_at, link_to}

pub length_alternately : (ps : List Pair) → length (alternately ps) ≡ length ps + length ps
length_alternately [] = refl
length_alternately (p ∷ ps) = let e = length_alternately ps in omega (arith, e)

key_at : (ps : List Pair) (k : ℕ) (d : Pair) → k < length ps → get_or (alternately ps) (k + k) Null ≡ (get_or ps k d).key
key_at [] k d h = absurd (omega arith)
key_at (p ∷ ps) zero d h = refl
key_at (p ∷ ps) (suc k) d h =
    let e : suc (suc (k + k)) ≡ suc k + suc k = omega arith in
    subst (λ i. get_or (alternately (p ∷ ps)) i Null ≡ (get_or ps k d).key) e (key_at ps k d (omega arith))

mate_at : (ps : List Pair) (k : ℕ) (d : Pair) → k < length ps → get_or (alternately ps) (suc (k + k)) Null ≡ (get_or ps k d).value
mate_at [] k d h = absurd (omega arith)
mate_at (p ∷ ps) zero d h = refl
mate_at (p ∷ ps) (suc k) d h =
    let e : suc (suc (suc (k + k))) ≡ suc (suc k + suc k) = omega arith in
    subst (λ i. get_or (alternately (p ∷ ps)) i Null ≡ (get_or ps k d).value) e (mate_at ps k d (omega arith))

-- at an even place stands the key of the pair at half the place
pub link_even : (ps : List Pair) (at : ℕ) (d : Pair) → at / 2 < length ps → at % 2 ≡ 0 → link_at (alternately ps) at ≡ link_to (node_of (get_or ps (at / 2) d).key)
link_even ps at d h even =
    let whole = div-add-mod at 2 in
    let e : at / 2 + at / 2 ≡ at = omega (arith, whole, even) in
    let long = length_alternately ps in
    let below : at < length (alternately ps) = omega (arith, long, e, h) in
    rw (lt-ltb at (length (alternately ps)) below) (ap (λ v. link_to (node_of v)) (subst (λ i. get_or (alternately ps) i Null ≡ (get_or ps (at / 2) d).key) e (key_at ps (at / 2) d h)))

-- and at an odd place its value
pub link_odd : (ps : List Pair) (at : ℕ) (d : Pair) → at / 2 < length ps → (at % 2 ≡ 0 → ⊥) → link_at (alternately ps) at ≡ link_to (node_of (get_or ps (at / 2) d).value)
link_odd ps at d h odd =
    let whole = div-add-mod at 2 in
    let e : suc (at / 2 + at / 2) ≡ at = omega (arith, whole, odd) in
    let long = length_alternately ps in
    let below : at < length (alternately ps) = omega (arith, long, e, h) in
    rw (lt-ltb at (length (alternately ps)) below) (ap (λ v. link_to (node_of v)) (subst (λ i. get_or (alternately ps) i Null ≡ (get_or ps (at / 2) d).value) e (mate_at ps (at / 2) d h)))

-- behind the last pair stands nothing
pub link_past : (ps : List Pair) (at : ℕ) → length ps ≤ at / 2 → link_at (alternately ps) at ≡ End
link_past ps at h =
    let whole = div-add-mod at 2 in
    let long = length_alternately ps in
    let past : length (alternately ps) ≤ at = omega (arith, long, whole, h) in
    rw (le-ltb at (length (alternately ps)) past) refl

same_pair : (x y : Pair) → x.key ≡ y.key → x.value ≡ y.value → x ≡ y
same_pair x y k v = ap (λ a. record { key = a; value = x.value }) k ∙ ap (λ a. record { key = y.key; value = a }) v

-- pairs with the same keys and values alternately are the same
pub alternately_once : (xs ys : List Pair) → alternately xs ≡ alternately ys → xs ≡ ys
alternately_once [] [] e = refl
alternately_once [] (y ∷ ys) e = cc
alternately_once (x ∷ xs) [] e = cc
alternately_once (x ∷ xs) (y ∷ ys) e =
    let key : x.key ≡ y.key = cc in
    let mate : x.value ≡ y.value = cc in
    let rest : alternately xs ≡ alternately ys = cc in
    let tail : xs ≡ ys = alternately_once xs ys rest in
    let head : x ≡ y = same_pair x y key mate in
    cc
