-- The elements of short lists, by their places.
use Rattle.std.proofs.Common.{◌≡◌, ℕ, zero, suc, ◌+◌, Some, List, [], ◌∷◌, ◌++◌, length, length-append, slice_get, sym, refl, ap, ◌∙◌, subst, arith}
use Rattle.pending_table.specs.Elements.{EachAt}
use Rattle.pending_table.proofs.SharedFrame.{one_element}
use Rattle.pending_table.proofs.SharedShows.{no_element}

module _ {A : Type 0} (P : ℕ → A → Type 0) where
  -- the element that was taken off the end
  pub taken_at : (n : ℕ) (old new : List A) (x : A) → length old ≡ suc n → old ≡ new ++ x ∷ [] → EachAt P old → (length new ≡ n) × P n x × EachAt P new
  taken_at n old new x count less each =
      let long : length old ≡ length new + 1 = ap (λ (l : List A). length l) less ∙ length-append new (x ∷ []) in
      let short : length new ≡ n = omega arith in (
        short,
        each n x (ap (slice_get old) (sym short) ∙ (ap (λ (l : List A). slice_get l (length new)) less ∙ at_end new)),
        (λ i y at. each i y (ap (λ (l : List A). slice_get l i) less ∙ longer new i y at)),
      )
    where
      at_end : (l : List A) → slice_get (l ++ x ∷ []) (length l) ≡ Some x
      at_end [] = refl
      at_end (y ∷ ys) = at_end ys

      longer : (l : List A) (i : ℕ) (y : A) → slice_get l i ≡ Some y → slice_get (l ++ x ∷ []) i ≡ Some y
      longer [] i y at = absurd (no_element y at)
      longer (z ∷ zs) zero y at = at
      longer (z ∷ zs) (suc i) y at = longer zs i y at

  pub each_three : (l : List A) (a b c : A) → l ≡ a ∷ b ∷ c ∷ [] → P 0 a → P 1 b → P 2 c → EachAt P l
  each_three l a b c is first second third = subst (EachAt P) (sym is) all
    where
      all : EachAt P (a ∷ b ∷ c ∷ [])
      all zero x at = subst (P 0) (one_element a x at) first
      all (suc zero) x at = subst (P 1) (one_element b x at) second
      all (suc (suc zero)) x at = subst (P 2) (one_element c x at) third
      all (suc (suc (suc i))) x at = absurd (no_element x at)
