-- Numbers that are read digit by digit.
use Rattle.std.proofs.Common.{◌≡◌, ◌≢◌, ℕ, zero, suc, ℤ, pos, ◌+◌, ◌-◌, ◌*◌, ◌/◌, ◌%◌, ◌<◌, ◌≤◌, ◌^◌, List, [], ◌∷◌, ◌++◌, length, get_or, take, drop, length-drop, refl, ap, sym, ◌∙◌, subst, arith, add-one}
use Rattle.std.specs.Prelude.{decimal}
use Rattle.std.specs.Fmt.{signed_decimal}
use Rattle.std.specs.Int.{w32}
use Rattle.std.specs.Int.RustNames.{FitsSigned}
use Rattle.std.proofs.lemmas.Fmt.{decimal_digit, decimal_step, decimal_injective, signed_decimal_injective}
use Rattle.std.proofs.Math.Seq.{take-suc}

decimal_push : (v d : ℕ) → 0 < v → d < 10 → v * 10 + d < 2 ^ 64 → decimal (v * 10 + d) ≡ decimal v ++ (0x30 + d) ∷ []
decimal_push v d p l f =
    let q : (v * 10 + d) / 10 ≡ v = omega arith in
    let r : (v * 10 + d) % 10 ≡ d = omega arith in
    decimal_step (v * 10 + d) (omega arith) f ∙ ap (λ x. decimal x ++ (48 + (v * 10 + d) % 10) ∷ []) q ∙ ap (λ x. decimal v ++ (48 + x) ∷ []) r

pub one_zero : (bytes : List ℕ) (d : ℕ) → length bytes ≡ 1 → get_or bytes 0 0 ≡ 0x30 + d → d ≡ 0 → bytes ≡ decimal 0
one_zero [] d n e z = absurd (omega arith)
one_zero (b ∷ []) d n e z = ap (λ x. x ∷ []) (e ∙ ap (λ x. 0x30 + x) z) ∙ sym (decimal_digit 0 (omega arith))
one_zero (b ∷ c ∷ more) d n e z = absurd (omega arith)

pub first_digit : (bytes : List ℕ) (d : ℕ) → 0 < length bytes → d < 10 → get_or bytes 0 0 ≡ 0x30 + d → take 1 bytes ≡ decimal d
first_digit [] d h l e = absurd (omega arith)
first_digit (b ∷ bs) d h l e = ap (λ x. x ∷ []) e ∙ sym (decimal_digit d l)

pub digit_more : (bytes : List ℕ) (at v d : ℕ) → at < length bytes → take at bytes ≡ decimal v → 0 < v → d < 10 → get_or bytes at 0 ≡ 0x30 + d → v < 100000000000000000 → take (at + 1) bytes ≡ decimal (v * 10 + d)
digit_more bytes at v d h before p l e f =
    ap (λ n. take n bytes) (add-one at) ∙ take-suc bytes at 0 h
    ∙ ap (λ x. x ++ get_or bytes at 0 ∷ []) before ∙ ap (λ b. decimal v ++ b ∷ []) e
    ∙ sym (decimal_push v d p l (omega arith))

pub too_large : (n : ℕ) (bytes : List ℕ) → n < 1000000000000000000 → bytes ≡ decimal n → 2147483648 ≤ n → (z : ℤ) → FitsSigned w32 z → bytes ≢ signed_decimal z
too_large n bytes small is high z fits same =
    let e : pos n ≡ z = signed_decimal_injective (pos n) z (omega arith) (omega arith) (sym is ∙ same) in
    let f : FitsSigned w32 (pos n) = subst (FitsSigned w32) (sym e) fits in
    omega arith

pub too_high : (n : ℕ) (bytes : List ℕ) → n < 1000000000000000000 → bytes ≡ decimal n → 4294967296 ≤ n → (k : ℕ) → k < 2 ^ 32 → bytes ≢ decimal k
too_high n bytes small is high k fits same =
    let e : n ≡ k = decimal_injective n k (omega arith) (omega arith) (sym is ∙ same) in
    omega arith

get_drop : (xs : List ℕ) (n k : ℕ) → get_or (drop n xs) k 0 ≡ get_or xs (n + k) 0
get_drop xs zero k = let e : 0 + k ≡ k = omega arith in ap (λ j. get_or xs j 0) (sym e)
get_drop [] (suc n) k = refl
get_drop (x ∷ xs) (suc n) k = get_drop xs n k ∙ (let e : suc n + k ≡ suc (n + k) = omega arith in ap (λ j. get_or (x ∷ xs) j 0) (sym e))

-- the first digit of a number within a text
pub first_here : (text : List ℕ) (at d : ℕ) → at < length text → 0x30 ≤ get_or text at 0 → d < 10 → d ≡ get_or text at 0 - 0x30 → take (at + 1 - at) (drop at text) ≡ decimal d
first_here text at d h low few is =
    let n : at + 1 - at ≡ 1 = omega arith in
    let m : length (drop at text) ≡ length text - at = length-drop at text in
    let z : at + 0 ≡ at = omega arith in
    let e : get_or text at 0 ≡ 0x30 + d = omega arith in
    ap (λ k. take k (drop at text)) n ∙ first_digit (drop at text) d (omega (arith, m)) few (get_drop text at 0 ∙ ap (λ k. get_or text k 0) z ∙ e)

-- a digit more of a number within a text
pub more_here : (text : List ℕ) (at end v d : ℕ) → at < end → end < length text → take (end - at) (drop at text) ≡ decimal v → 0 < v → v < 100000000 → d < 10 → 0x30 ≤ get_or text end 0 → d ≡ get_or text end 0 - 0x30 → take (end + 1 - at) (drop at text) ≡ decimal (v * 10 + d)
more_here text at end v d onward h before some few l low is =
    let n : end + 1 - at ≡ end - at + 1 = omega arith in
    let m : length (drop at text) ≡ length text - at = length-drop at text in
    let z : at + (end - at) ≡ end = omega arith in
    let e : get_or text end 0 ≡ 0x30 + d = omega arith in
    ap (λ k. take k (drop at text)) n
    ∙ digit_more (drop at text) (end - at) v d (omega (arith, m)) before some l (get_drop text at (end - at) ∙ ap (λ k. get_or text k 0) z ∙ e) (omega arith)
