-- A line and its pieces: fields joined by spaces are cut into the same fields.
use Rattle.std.proofs.Common.{◌≡◌, ◌≢◌, ℕ, zero, suc, ◌<◌, List, [], ◌∷◌, ◌++◌, length, refl, sym, ap, ◌∙◌, cond, true, false, Bool, arith}
use Rattle.std.specs.List.{join_with_byte}
use Rattle.std.proofs.lemmas.Bool.{ne_eqb, eqb-true}
use Rattle.std.proofs.lemmas.List.Elements.{All-tail}
use lib.Dec.{eqb}
use Rattle.call_plan.specs.ScriptLines.{onto_first}
use Rattle.call_plan.specs.Pieces.{pieces}
use Rattle.call_plan.proofs.Cutting.{Unmarked}

-- a byte that is no space goes to the front of the first piece
onto : (n byte : ℕ) (bytes : List ℕ) → byte ≢ 32 → pieces (suc n) (byte ∷ bytes) ≡ onto_first byte (pieces (suc n) bytes)
unfolding pieces
onto n byte bytes other = ap (λ test. cond test ([] ∷ pieces n bytes) (onto_first byte (pieces (suc n) bytes))) (ne_eqb byte 32 other)

-- the first piece ends at the first space
pub pieces_cut : (n : ℕ) (front rest : List ℕ) → Unmarked 32 front → pieces (suc n) (front ++ 32 ∷ rest) ≡ front ∷ pieces n rest
unfolding pieces
pieces_cut n [] rest none = refl
pieces_cut n (byte ∷ front) rest none =
    onto n byte (front ++ 32 ∷ rest) (none 0 0 (omega arith))
    ∙ ap (onto_first byte) (pieces_cut n front rest (All-tail (λ b. b ≢ 32) byte front none))

-- bytes without a space are one piece
pub pieces_whole : (n : ℕ) (bytes : List ℕ) → Unmarked 32 bytes → pieces n bytes ≡ bytes ∷ []
unfolding pieces
pieces_whole zero bytes none = refl
pieces_whole (suc n) [] none = refl
pieces_whole (suc n) (byte ∷ bytes) none =
    onto n byte bytes (none 0 0 (omega arith))
    ∙ ap (onto_first byte) (pieces_whole (suc n) bytes (All-tail (λ b. b ≢ 32) byte bytes none))

-- fields that are cut at so many spaces: only the last of as many as there may be has spaces
pub data AreCut : ℕ → List (List ℕ) → Type 0 where
  last : (n : ℕ) (field : List ℕ) → Unmarked 32 field → AreCut n (field ∷ [])
  rest : (field : List ℕ) → AreCut 0 (field ∷ [])
  more : (n : ℕ) (field next : List ℕ) (fields : List (List ℕ)) → Unmarked 32 field → AreCut n (next ∷ fields) → AreCut (suc n) (field ∷ next ∷ fields)

-- such fields, joined by spaces, are cut into the same fields
pub pieces_joined : (n : ℕ) (fields : List (List ℕ)) → AreCut n fields → pieces n (join_with_byte 32 fields) ≡ fields
unfolding pieces
pieces_joined _ _ (last n field none) = pieces_whole n field none
pieces_joined _ _ (rest field) = refl
pieces_joined _ _ (more n field next fields none cut) =
    pieces_cut n field (join_with_byte 32 (next ∷ fields)) none
    ∙ ap (λ ps. field ∷ ps) (pieces_joined n (next ∷ fields) cut)

-- a byte put onto the first of joined fields
joined_onto : (byte : ℕ) (ps : List (List ℕ)) → 0 < length ps → join_with_byte 32 (onto_first byte ps) ≡ byte ∷ join_with_byte 32 ps
joined_onto byte [] some = absurd (omega arith)
joined_onto byte (p ∷ []) some = refl
joined_onto byte (p ∷ q ∷ ps) some = refl

joined_behind : (ps : List (List ℕ)) → 0 < length ps → join_with_byte 32 ([] ∷ ps) ≡ 32 ∷ join_with_byte 32 ps
joined_behind [] some = absurd (omega arith)
joined_behind (p ∷ ps) some = refl

onto_some : (byte : ℕ) (ps : List (List ℕ)) → 0 < length ps → 0 < length (onto_first byte ps)
onto_some byte [] some = omega arith
onto_some byte (p ∷ ps) some = omega arith

-- there is a piece
pub some_pieces : (n : ℕ) (bytes : List ℕ) → 0 < length (pieces n bytes)
unfolding pieces
some_pieces zero bytes = omega arith
some_pieces (suc n) [] = omega arith
some_pieces (suc n) (byte ∷ bytes) = elim (eqb byte 32) as (λ test. 0 < length (cond test ([] ∷ pieces n bytes) (onto_first byte (pieces (suc n) bytes)))) [
  | true ↦ omega arith
  | false ↦ onto_some byte _ (some_pieces (suc n) bytes)
]

joined_test : (n byte : ℕ) (bytes : List ℕ) (test : Bool) → (test ≡ true → byte ≡ 32)
    → join_with_byte 32 (pieces n bytes) ≡ bytes → join_with_byte 32 (pieces (suc n) bytes) ≡ bytes
    → join_with_byte 32 (cond test ([] ∷ pieces n bytes) (onto_first byte (pieces (suc n) bytes))) ≡ byte ∷ bytes
unfolding pieces
joined_test n byte bytes true space here there =
    joined_behind (pieces n bytes) (some_pieces n bytes) ∙ ap (λ bs. 32 ∷ bs) here ∙ ap (λ b. b ∷ bytes) (sym (space refl))
joined_test n byte bytes false space here there =
    joined_onto byte (pieces (suc n) bytes) (some_pieces (suc n) bytes) ∙ ap (λ bs. byte ∷ bs) there

-- the pieces, joined by spaces, are the bytes
pub joined_pieces : (n : ℕ) (bytes : List ℕ) → join_with_byte 32 (pieces n bytes) ≡ bytes
unfolding pieces
joined_pieces zero bytes = refl
joined_pieces (suc n) [] = refl
joined_pieces (suc n) (byte ∷ bytes) =
    joined_test n byte bytes (eqb byte 32) (λ e. eqb-true byte 32 e) (joined_pieces n bytes) (joined_pieces (suc n) bytes)

-- bytes that are cut nowhere are one piece
pub pieces_zero : (bytes : List ℕ) → pieces 0 bytes ≡ bytes ∷ []
unfolding pieces
pieces_zero bytes = refl
