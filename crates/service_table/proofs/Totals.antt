-- Sums, from the first value to the last.
use Rattle.std.proofs.Common.{◌≡◌, ℕ, ◌*◌, ◌<◌, ◌^◌, List, [], ◌∷◌, ◌++◌, ap, ◌∙◌, arith, pos, ◌≤ℤ◌, to_z, of_z, FitsSigned}
use Rattle.std.specs.Prelude.{ℤ, ◌+ℤ◌, neg_ℤ}
use Rattle.std.specs.Int.{w128}
use Rattle.std.proofs.lemmas.Int.{ints, to_z-of_z, fits_signed_from_abs}
use Rattle.hessian_graph.specs.declared.value.Value.{Value}
use Rattle.service_table.specs.Replies.{LEAST, GREATEST, number_of, total}

pub total_push : (vs : List Value) (v : Value) → total (vs ++ v ∷ []) ≡ total vs +ℤ number_of v
total_push [] v = omega (arith, ints)
total_push (w ∷ vs) v = let rest = total_push vs v in omega (arith, ints, rest)

-- the sum of so many values has room, and one more is added without loss
pub added : (s x : ℤ) (i : ℕ) → i < 2 ^ 63 → neg_ℤ (pos (i * 9223372036854775808)) ≤ℤ s → s ≤ℤ pos (i * 9223372036854775808) → LEAST ≤ℤ x → x ≤ℤ GREATEST → to_z w128 (of_z w128 (s +ℤ to_z w128 (of_z w128 x))) ≡ s +ℤ x
added s x i few low high least greatest =
    let room : FitsSigned w128 x = fits_signed_from_abs w128 x (omega (arith, ints, least, greatest)) in
    let both : FitsSigned w128 (s +ℤ x) = fits_signed_from_abs w128 (s +ℤ x) (omega (arith, ints, few, low, high, least, greatest)) in
    ap (λ y. to_z w128 (of_z w128 (s +ℤ y))) (to_z-of_z w128 x room) ∙ to_z-of_z w128 (s +ℤ x) both
