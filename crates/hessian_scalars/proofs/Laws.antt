-- What holds of all spellings.
use Rattle.std.proofs.Common.{◌≡◌, ℕ, ◌-◌, List, [], ◌∷◌, ◌++◌, length, take, drop, sym, ap, ◌∙◌, refl, append_assoc, arith}
use Rattle.std.proofs.lemmas.List.{length-append, nil_from_length}
use Rattle.hessian_scalars.specs.declared.scalar.Scalar.{Scalar}
use Rattle.hessian_scalars.specs.ScalarSpelling.{ScalarSpelling}
use Rattle.hessian_scalars.specs.Written.{Appends}
use Rattle.hessian_scalars.specs.Read.{IsSpelledAt}
use Rattle.hessian_scalars.proofs.Rows.{complete}
use Rattle.hessian_scalars.proofs.Whole.{same_length}
use Rattle.hessian_scalars.proofs.Fronts.{has_code}

pub goes_on : (v w : Scalar) (bytes more : List ℕ) → ScalarSpelling v bytes → ScalarSpelling w (bytes ++ more) → more ≡ []
goes_on v w [] more s t = absurd (omega (arith, has_code v [] s))
goes_on v w (c ∷ bs) more s t =
    let short = complete v (c ∷ bs) s in
    let long = complete w (c ∷ (bs ++ more)) t in
    let same : length (c ∷ bs) ≡ length (c ∷ (bs ++ more)) = same_length _ _ (sym short.opens ∙ long.opens) in
    nil_from_length more (omega (arith, length-append bs more))

pub one_value : (v w : Scalar) (bytes : List ℕ) → ScalarSpelling v bytes → ScalarSpelling w bytes → v ≡ w
one_value v w bytes s t =
    let this = complete v bytes s in
    let that = complete w bytes t in
    sym this.value ∙ that.value

drop-front : (old s : List ℕ) → drop (length old) (old ++ s) ≡ s
drop-front [] s = refl
drop-front (b ∷ old) s = drop-front old s

take-front : (s more : List ℕ) → take (length s) (s ++ more) ≡ s
take-front [] more = refl
take-front (b ∷ s) more = ap (λ (l : List ℕ). b ∷ l) (take-front s more)

pub read_back : (old new more : List ℕ) (v : Scalar) → Appends old new v → IsSpelledAt (new ++ more) (length old) v (length new)
read_back old new more v a =
    let joined : new ++ more ≡ old ++ (a.spelling ++ more) = ap (λ (l : List ℕ). l ++ more) a.joined ∙ append_assoc old a.spelling more in
    let len : length new - length old ≡ length a.spelling = omega (arith, ap length a.joined, length-append old a.spelling) in
    record {
      within = omega (arith, length-append new more);
      spells = rw (joined, len, drop-front old (a.spelling ++ more), take-front a.spelling more) a.written.spells;
    }
