-- Numbers, as they are written two digits at a time.
use Rattle.std.proofs.Common.{◌≡◌, ℕ, zero, suc, ◌+◌, ◌-◌, ◌*◌, ◌/◌, ◌%◌, ◌<◌, ◌≤◌, Bool, true, ◌&&◌, T, eqb, List, [], ◌∷◌, ◌++◌, get_or, ap, sym, ◌∙◌, inl, inr, arith, eq-zero-or-pos, eqb→eq, append_assoc}
use Rattle.std.specs.Prelude.{decimal}
use lib.Ieee.Fits.{and_l, and_r}
use Rattle.std.proofs.lemmas.Fmt.{decimal_digit}
use Rattle.itoa.proofs.Decimal.{pair, decimal_two, decimal_pair, decimal_four}
use Rattle.graph_notation.specs.declared.written_numbers.TheConstants.{PAIRS}

abbrev are_pairs : ℕ → Bool
are_pairs zero = true
are_pairs (suc p) = (eqb (get_or PAIRS (p * 2) 0) (48 + p / 10) && eqb (get_or PAIRS (p * 2 + 1) 0) (48 + p % 10)) && are_pairs p

below : (n p : ℕ) → T (are_pairs n) → p < n → (get_or PAIRS (p * 2) 0 ≡ 48 + p / 10) × (get_or PAIRS (p * 2 + 1) 0 ≡ 48 + p % 10)
below zero p t h = absurd (omega arith)
below (suc n) p t h = elim (eq-zero-or-pos (n - p)) [
  | inl z ↦ let e : p ≡ n = omega arith in let a = and_l _ (are_pairs n) t in rw e (eqb→eq _ _ (and_l _ _ a), eqb→eq _ _ (and_r _ _ a))
  | inr g ↦ below n p (and_r _ (are_pairs n) t) (omega arith)
]

-- the table has the digits of each number
pub pair_pushed : (old mid new : List ℕ) (n : ℕ) → n < 100 → mid ≡ old ++ get_or PAIRS (n * 2) 0 ∷ [] → new ≡ mid ++ get_or PAIRS (n * 2 + 1) 0 ∷ [] → new ≡ old ++ (48 + n / 10) ∷ (48 + n % 10) ∷ []
pair_pushed old mid new n h a b =
    let p = below 100 n tt h in
    b ∙ ap (λ x. mid ++ x ∷ []) p.1 ∙ ap (λ x. x ++ (48 + n % 10) ∷ []) (a ∙ ap (λ x. old ++ x ∷ []) p.0)
    ∙ append_assoc old ((48 + n / 10) ∷ []) ((48 + n % 10) ∷ [])

-- one digit
pub one_written : (old new : List ℕ) (n : ℕ) → n < 10 → new ≡ old ++ (48 + n) ∷ [] → new ≡ old ++ decimal n
one_written old new n h e = e ∙ ap (λ x. old ++ x) (sym (decimal_digit n h))

-- two digits
pub two_written : (old new : List ℕ) (n : ℕ) → 10 ≤ n → n < 100 → new ≡ old ++ (48 + n / 10) ∷ (48 + n % 10) ∷ [] → new ≡ old ++ decimal n
two_written old new n low high e = e ∙ ap (λ x. old ++ x) (sym (decimal_two n low high))

-- two digits behind others
pub pair_written : (old mid new : List ℕ) (n : ℕ) → 100 ≤ n → n < 10000 → mid ≡ old ++ decimal (n / 100) → new ≡ mid ++ (48 + n % 100 / 10) ∷ (48 + n % 100 % 10) ∷ [] → new ≡ old ++ decimal n
pair_written old mid new n low high a b =
    b ∙ ap (λ x. x ++ pair (n % 100)) a ∙ append_assoc old (decimal (n / 100)) (pair (n % 100))
    ∙ ap (λ x. old ++ x) (sym (decimal_pair n low (omega arith)))

-- four digits behind others
pub four_written : (old first mid new : List ℕ) (n : ℕ) → 10000 ≤ n → n < 100000000 → first ≡ old ++ decimal (n / 10000) → mid ≡ first ++ (48 + n % 10000 / 100 / 10) ∷ (48 + n % 10000 / 100 % 10) ∷ [] → new ≡ mid ++ (48 + n % 10000 % 100 / 10) ∷ (48 + n % 10000 % 100 % 10) ∷ [] → new ≡ old ++ decimal n
four_written old first mid new n low high a b e =
    let high_pair : List ℕ = pair (n % 10000 / 100) in
    let low_pair : List ℕ = pair (n % 10000 % 100) in
    e ∙ ap (λ x. x ++ low_pair) (b ∙ ap (λ x. x ++ high_pair) a)
    ∙ append_assoc (old ++ decimal (n / 10000)) high_pair low_pair
    ∙ append_assoc old (decimal (n / 10000)) (high_pair ++ low_pair)
    ∙ ap (λ x. old ++ x) (sym (decimal_four n low (omega arith)))
