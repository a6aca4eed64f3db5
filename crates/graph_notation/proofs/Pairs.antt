-- Keys and values alternately.
use Rattle.std.proofs.Common.{◌≡◌, ℕ, zero, suc, ◌+◌, ◌/◌, ◌%◌, ◌<◌, ◌≤◌, List, [], ◌∷◌, length, get_or, refl, subst, arith}
use Rattle.std.proofs.Math.Nat.{div-add-mod}
use Rattle.hessian_graph.specs.declared.value.Value.TheVariants.{Null}
use Rattle.hessian_graph.specs.declared.value.Pair.{Pair}
use Rattle.hessian_graph.specs.Shape.{alternately}
use Rattle.hessian_graph.proofs.Alternately.{length_alternately}

key_at : (ps : List Pair) (k : ℕ) (d : Pair) → k < length ps → (get_or ps k d).key ≡ get_or (alternately ps) (k + k) Null
key_at [] k d h = absurd (omega arith)
key_at (p ∷ ps) zero d h = refl
key_at (p ∷ ps) (suc k) d h =
    let e : suc (suc (k + k)) ≡ suc k + suc k = omega arith in
    subst (λ i. (get_or ps k d).key ≡ get_or (alternately (p ∷ ps)) i Null) e (key_at ps k d (omega arith))

value_behind : (ps : List Pair) (k : ℕ) (d : Pair) → k < length ps → (get_or ps k d).value ≡ get_or (alternately ps) (suc (k + k)) Null
value_behind [] k d h = absurd (omega arith)
value_behind (p ∷ ps) zero d h = refl
value_behind (p ∷ ps) (suc k) d h =
    let e : suc (suc (suc (k + k))) ≡ suc (suc k + suc k) = omega arith in
    subst (λ i. (get_or ps k d).value ≡ get_or (alternately (p ∷ ps)) i Null) e (value_behind ps k d (omega arith))

-- at an even place stands the key of the pair at half the place
pub key_even : (ps : List Pair) (at : ℕ) (d : Pair) → at / 2 < length ps → at % 2 ≡ 0 → (get_or ps (at / 2) d).key ≡ get_or (alternately ps) at Null
key_even ps at d h even =
    let whole = div-add-mod at 2 in
    let e : at / 2 + at / 2 ≡ at = omega (arith, whole, even) in
    subst (λ i. (get_or ps (at / 2) d).key ≡ get_or (alternately ps) i Null) e (key_at ps (at / 2) d h)

-- and at an odd place its value
pub value_odd : (ps : List Pair) (at : ℕ) (d : Pair) → at / 2 < length ps → (at % 2 ≡ 0 → ⊥) → (get_or ps (at / 2) d).value ≡ get_or (alternately ps) at Null
value_odd ps at d h odd =
    let whole = div-add-mod at 2 in
    let e : suc (at / 2 + at / 2) ≡ at = omega (arith, whole, odd) in
    subst (λ i. (get_or ps (at / 2) d).value ≡ get_or (alternately ps) i Null) e (value_behind ps (at / 2) d h)

pub pair_within : (ps : List Pair) (at : ℕ) → at / 2 < length ps → at < length (alternately ps)
pair_within ps at h =
    let whole = div-add-mod at 2 in
    let long = length_alternately ps in
    omega (arith, whole, long, h)

pub pair_past : (ps : List Pair) (at : ℕ) → length ps ≤ at / 2 → length (alternately ps) ≤ at
pair_past ps at h =
    let whole = div-add-mod at 2 in
    let long = length_alternately ps in
    omega (arith, whole, long, h)
