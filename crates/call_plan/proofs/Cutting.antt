-- Lists of bytes that are cut at a mark.
use Rattle.std.proofs.Common.{◌≡◌, ◌≢◌, ℕ, ◌+◌, ◌<◌, ◌≤◌, Bool, true, false, List, ◌∷◌, ◌++◌, length, get_or, take, drop, refl, sym, ap, ◌∙◌, None, Some, nat_lt, cond, arith, length-take, take-append-drop}
use Rattle.std.specs.List.{All, position, position_or_len}
use Rattle.std.proofs.lemmas.Bool.{eqb-false}
use Rattle.std.proofs.lemmas.Bool.Decides.{nat_tests}
use Rattle.std.proofs.lemmas.List.{get_or-take, get_or_default, drop_more}
use Rattle.std.proofs.lemmas.List.Quantifiers.{position-Some}
use Rattle.std.proofs.lemmas.List.Sums.{fails_before_first}
use lib.Dec.{eqb}

-- no byte is the mark
abbrev pub Unmarked : ℕ → List ℕ → Type 0
Unmarked mark bytes = All (λ byte. byte ≢ mark) bytes

-- a test that chooses `None` fails
no_choice : {X : Type 0} (b : Bool) (x : X) → cond b (Some x) None ≡ None → b ≡ false
no_choice true x e = absurd cc
no_choice false x e = refl

-- where no place is found, no byte is the mark
pub place_none : (mark : ℕ) (bytes : List ℕ) → position (λ byte. eqb byte mark) bytes ≡ None → Unmarked mark bytes
place_none mark bytes none = λ k d within.
    let past : nat_lt (position_or_len (λ byte. eqb byte mark) bytes) (length bytes) ≡ false = no_choice _ _ none in
    let far : length bytes ≤ position_or_len (λ byte. eqb byte mark) bytes = grind (arith, nat_tests) in
    eqb-false _ _ (fails_before_first (λ byte. eqb byte mark) bytes k d (omega arith))

-- the bytes before the place that is found, and after it
pub place_some : (mark place : ℕ) (bytes : List ℕ) → position (λ byte. eqb byte mark) bytes ≡ Some place
    → Unmarked mark (take place bytes) × (bytes ≡ take place bytes ++ mark ∷ drop (place + 1) bytes)
place_some mark place bytes found =
    let at = position-Some (λ byte. eqb byte mark) bytes place 0 found in
    let within : place < length bytes = at.0 in
    let here : get_or bytes place 0 ≡ mark = grind (arith, nat_tests, at.1) in (
      (λ k d below.
          let small : k < place = grind (arith, length-take {A = ℕ}) in
          rw (get_or-take place bytes k d small, get_or_default bytes k d 0 (omega arith)) (eqb-false _ _ (at.2 k small))),
      sym (take-append-drop place bytes) ∙ ap (λ rest. take place bytes ++ rest) (drop_more bytes place 0 within ∙ ap (λ b. b ∷ drop (place + 1) bytes) here),
    )
