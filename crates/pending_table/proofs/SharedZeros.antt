-- A new table's words are all 0.
use Rattle.std.proofs.Common.{◌≡◌, ℕ, zero, suc, replicate, List, get_or, refl, ap, ◌∙◌, length}
use Rattle.std.proofs.lemmas.List.{length-replicate}

zero_in : (count i : ℕ) → get_or {A = ℕ} (replicate count 0) i 0 ≡ 0
zero_in zero i = refl
zero_in (suc count) zero = refl
zero_in (suc count) (suc i) = zero_in count i

module _ (words : List ℕ) (count : ℕ) (is : words ≡ replicate count 0) where
  pub zeros : (i : ℕ) → get_or words i 0 ≡ 0
  zeros i = ap (λ (l : List ℕ). get_or l i 0) is ∙ zero_in count i

  pub zeros_count : length words ≡ count
  zeros_count = ap length is ∙ length-replicate count 0
