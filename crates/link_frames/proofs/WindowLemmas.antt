-- A front that is let go.
use Rattle.std.proofs.Common.{◌≡◌, ℕ, zero, suc, ◌+◌, ◌-◌, List, [], ◌∷◌, take, drop, refl, ap, sym, ◌∙◌, arith}
use Rattle.std.specs.Prelude.{slice_range}
use Rattle.std.proofs.lemmas.List.{drop-drop}
use Rattle.std.proofs.Math.Seq.{take-nil}

pub drop-take-sub : (n m : ℕ) (xs : List ℕ) → drop n (take m xs) ≡ take (m - n) (drop n xs)
drop-take-sub zero m xs = let e : m - 0 ≡ m = omega arith in rw e refl
drop-take-sub (suc n) zero xs = let e : 0 - suc n ≡ 0 = omega arith in rw e refl
drop-take-sub (suc n) (suc m) [] = sym (take-nil (suc m - suc n))
drop-take-sub (suc n) (suc m) (x ∷ xs) = let e : suc m - suc n ≡ m - n = omega arith in rw e (drop-take-sub n m xs)

pub slice_range-consume : (xs : List ℕ) (start end n : ℕ) → slice_range xs (start + n) end ≡ drop n (slice_range xs start end)
slice_range-consume xs start end n =
    let less : end - (start + n) ≡ (end - start) - n = omega arith in
    rw less (ap (take ((end - start) - n)) (sym (drop-drop n start xs)) ∙ sym (drop-take-sub n (end - start) (drop start xs)))
