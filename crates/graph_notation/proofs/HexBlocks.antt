-- Blocks of hexadecimal digits.
use Rattle.std.proofs.Common.{◌≡◌, ℕ, ◌+◌, ◌*◌, ◌%◌, ◌<◌, ◌≤◌, List, [], ◌∷◌, ◌++◌, length, get_or, take, drop, set, ap, sym, ◌∙◌, arith, inl, inr, ◌⊎◌}
use Rattle.std.specs.Prelude.{Option, Some, None}
use Rattle.std.proofs.lemmas.Bool.{cases_lt}
use Rattle.std.proofs.lemmas.List.{take_more_set, take-append-drop, drop-drop}
use Rattle.graph_notation.specs.Unquoting.{digit_of, below_16, behind, paired, unhexed}
use Rattle.graph_notation.proofs.Digits.{behind_behind, pair_on, pair_off}

is_below : (n : ℕ) → n < 16 → below_16 n ≡ Some n
is_below n h = grind arith

is_above : (n : ℕ) → 16 ≤ n → below_16 n ≡ None
is_above n h = grind arith

-- two digits
paired_is : (a b high low : ℕ) (r : Option (List ℕ)) → digit_of a ≡ below_16 high → digit_of b ≡ below_16 low → high < 16 → low < 16 → paired (digit_of a) (digit_of b) r ≡ behind ((high % 16 * 16 + low % 16) ∷ []) r
paired_is a b high low r d e h l =
    let n : high * 16 + low ≡ high % 16 * 16 + low % 16 = omega arith in
    ap (λ x. paired x (digit_of b) r) (d ∙ is_below high h)
    ∙ ap (λ x. paired (Some high) x r) (e ∙ is_below low l)
    ∙ ap (λ k. behind (k ∷ []) r) n

-- two bytes, one of which is no digit
paired_none : (a b high low : ℕ) (r : Option (List ℕ)) → digit_of a ≡ below_16 high → digit_of b ≡ below_16 low → (16 ≤ high) ⊎ (16 ≤ low) → paired (digit_of a) (digit_of b) r ≡ None
paired_none a b high low r d e (inl h) = ap (λ x. paired x (digit_of b) r) (d ∙ is_above high h)
paired_none a b high low r d e (inr l) = elim (cases_lt high 16) [
  | inl h ↦ ap (λ x. paired x (digit_of b) r) (d ∙ is_below high h) ∙ ap (λ x. paired (Some high) x r) (e ∙ is_above low l)
  | inr h ↦ ap (λ x. paired x (digit_of b) r) (d ∙ is_above high h)
]

-- two digits more
pub two_on : (ds bytes : List ℕ) (at high low : ℕ) → 2 * at + 1 < length ds → at < length bytes → unhexed ds ≡ behind (take at bytes) (unhexed (drop (2 * at) ds)) → digit_of (get_or ds (2 * at) 0) ≡ below_16 high → digit_of (get_or ds (2 * at + 1) 0) ≡ below_16 low → high < 16 → low < 16 → unhexed ds ≡ behind (take (at + 1) (set bytes at (high % 16 * 16 + low % 16))) (unhexed (drop (2 * (at + 1)) ds))
two_on ds bytes at high low within there before d e h l =
    let b = high % 16 * 16 + low % 16 in
    let n : 2 * at + 2 ≡ 2 * (at + 1) = omega arith in
    pair_on ds (2 * at) b (take at bytes) within before (paired_is (get_or ds (2 * at) 0) (get_or ds (2 * at + 1) 0) high low (unhexed (drop (2 * at + 2) ds)) d e h l)
    ∙ ap (λ x. behind x (unhexed (drop (2 * at + 2) ds))) (sym (take_more_set bytes at b there))
    ∙ ap (λ k. behind (take (at + 1) (set bytes at b)) (unhexed (drop k ds))) n

-- two bytes more, where the greatest number so far says whether one is no digit
pub two_off : (ds old : List ℕ) (at high low : ℕ) → 2 * at + 1 < length ds → unhexed ds ≡ behind old (unhexed (drop (2 * at) ds)) → digit_of (get_or ds (2 * at) 0) ≡ below_16 high → digit_of (get_or ds (2 * at + 1) 0) ≡ below_16 low → (16 ≤ high) ⊎ (16 ≤ low) → unhexed ds ≡ None
two_off ds old at high low within before d e h = pair_off ds (2 * at) old within before (paired_none (get_or ds (2 * at) 0) (get_or ds (2 * at + 1) 0) high low (unhexed (drop (2 * at + 2) ds)) d e h)

in_front : (ds block : List ℕ) (at n : ℕ) → block ≡ take n (drop at ds) → drop at ds ≡ block ++ drop (at + n) ds
in_front ds block at n is = sym (take-append-drop n (drop at ds)) ∙ ap (λ x. x ++ drop n (drop at ds)) (sym is) ∙ ap (λ x. block ++ x) (drop-drop n at ds)

-- a block more
pub block_on : (ds block bytes old new : List ℕ) (at n : ℕ) → block ≡ take n (drop at ds) → ((rest : List ℕ) → unhexed (block ++ rest) ≡ behind bytes (unhexed rest)) → unhexed ds ≡ behind old (unhexed (drop at ds)) → new ≡ old ++ bytes → unhexed ds ≡ behind new (unhexed (drop (at + n) ds))
block_on ds block bytes old new at n is reads before e =
    before ∙ ap (λ x. behind old (unhexed x)) (in_front ds block at n is)
    ∙ ap (behind old) (reads (drop (at + n) ds))
    ∙ behind_behind old bytes (unhexed (drop (at + n) ds))
    ∙ ap (λ x. behind x (unhexed (drop (at + n) ds))) (sym e)

-- a block with a byte that is no digit
pub block_off : (ds block old : List ℕ) (at n : ℕ) → block ≡ take n (drop at ds) → ((rest : List ℕ) → unhexed (block ++ rest) ≡ None) → unhexed ds ≡ behind old (unhexed (drop at ds)) → unhexed ds ≡ None
block_off ds block old at n is reads before =
    before ∙ ap (λ x. behind old (unhexed x)) (in_front ds block at n is) ∙ ap (behind old) (reads (drop (at + n) ds))
