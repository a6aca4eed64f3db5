-- Lists of bytes that are cut at a mark.
use Rattle.std.proofs.Common.{◌≡◌, ◌≢◌, ℕ, ◌+◌, ◌<◌, ◌≤◌, Bool, true, false, List, [], ◌∷◌, ◌++◌, length, get_or, take, drop, refl, sym, ap, ◌∙◌, None, Some, nat_lt, cond, arith, length-take, take-append-drop}
use Rattle.std.specs.List.{All, position, position_or_len}
use Rattle.std.proofs.lemmas.Bool.{eqb-false}
use Rattle.std.proofs.lemmas.Bool.Decides.{nat_tests}
use Rattle.std.proofs.lemmas.List.{get_or-take, get_or_default, drop_more}
use Rattle.std.proofs.lemmas.List.Elements.{All-tail}
use Rattle.std.proofs.lemmas.List.Quantifiers.{position-Some}
use Rattle.std.proofs.lemmas.List.Sums.{fails_before_first}
use lib.Dec.{eqb}

-- a test that chooses `None` fails
no_choice : {X : Type 0} (b : Bool) (x : X) → cond b (Some x) None ≡ None → b ≡ false
no_choice true x e = absurd cc
no_choice false x e = refl

-- where no place is found, no byte is the mark
pub position_none : (mark : ℕ) (bytes : List ℕ) → position (λ byte. eqb byte mark) bytes ≡ None → All (λ byte. byte ≢ mark) bytes
position_none mark bytes none = λ k d within.
    let past : nat_lt (position_or_len (λ byte. eqb byte mark) bytes) (length bytes) ≡ false = no_choice _ _ none in
    let far : length bytes ≤ position_or_len (λ byte. eqb byte mark) bytes = grind (arith, nat_tests) in
    eqb-false _ _ (fails_before_first (λ byte. eqb byte mark) bytes k d (omega arith))

-- the bytes before the place that is found, and after it
pub position_some : (mark place : ℕ) (bytes : List ℕ) → position (λ byte. eqb byte mark) bytes ≡ Some place
    → All (λ byte. byte ≢ mark) (take place bytes) × (bytes ≡ take place bytes ++ mark ∷ drop (place + 1) bytes)
position_some mark place bytes found =
    let at = position-Some (λ byte. eqb byte mark) bytes place 0 found in
    let within : place < length bytes = at.0 in
    let here : get_or bytes place 0 ≡ mark = grind (arith, nat_tests, at.1) in (
      (λ k d below.
          let small : k < place = grind (arith, length-take {A = ℕ}) in
          rw (get_or-take place bytes k d small, get_or_default bytes k d 0 (omega arith)) (eqb-false _ _ (at.2 k small))),
      sym (take-append-drop place bytes) ∙ ap (λ rest. take place bytes ++ rest) (drop_more bytes place 0 within ∙ ap (λ b. b ∷ drop (place + 1) bytes) here),
    )

-- two cuts at the first mark are the same
pub cut_once : (mark : ℕ) (front front' rest rest' : List ℕ) → All (λ byte. byte ≢ mark) front → All (λ byte. byte ≢ mark) front'
    → front ++ mark ∷ rest ≡ front' ++ mark ∷ rest' → (front ≡ front') × (rest ≡ rest')
cut_once mark [] [] rest rest' none none' same = (refl, cc)
cut_once mark [] (byte ∷ front') rest rest' none none' same = absurd (none' 0 0 (omega arith) cc)
cut_once mark (byte ∷ front) [] rest rest' none none' same = absurd (none 0 0 (omega arith) cc)
cut_once mark (byte ∷ front) (byte' ∷ front') rest rest' none none' same =
    let heads : byte ≡ byte' = cc in
    let tails : front ++ mark ∷ rest ≡ front' ++ mark ∷ rest' = cc in
    let both : (front ≡ front') × (rest ≡ rest')
    = cut_once mark front front' rest rest' (All-tail (λ b. b ≢ mark) byte front none) (All-tail (λ b. b ≢ mark) byte' front' none') tails in
    let fronts : front ≡ front' = both.0 in
    (cc, both.1)

-- bytes without the mark aren't cut at it
pub unmarked : (mark : ℕ) (bytes front rest : List ℕ) → All (λ byte. byte ≢ mark) bytes → bytes ≢ front ++ mark ∷ rest
unmarked mark bytes [] rest none same = grind (arith, none 0 0, ap length same)
unmarked mark [] (byte ∷ front) rest none same = absurd cc
unmarked mark (byte' ∷ bytes) (byte ∷ front) rest none same =
    unmarked mark bytes front rest (All-tail (λ b. b ≢ mark) byte' bytes none) cc
