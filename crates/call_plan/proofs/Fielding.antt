-- The fields of a line, in the words of its pieces.
use Rattle.std.proofs.Common.{◌≡◌, ℕ, suc, ◌≤◌, List, [], ◌∷◌, ◌++◌, length, Option, None, Some, MatchOption, ap, ◌∙◌, arith}
use denote.Ref.{Bor}
use Rattle.call_plan.specs.Pieces.{pieces, Lack}
use Rattle.call_plan.proofs.Cutting.{Unmarked}
use Rattle.call_plan.proofs.Piecing.{pieces_cut, pieces_whole}

-- a cut at the first space, as pieces
pub piece_of : (bytes : List ℕ) (r : Option (Bor (List ℕ) × Bor (List ℕ)))
    → MatchOption r (Unmarked 32 bytes) (λ cut. Unmarked 32 cut.0.now × (bytes ≡ cut.0.now ++ 32 ∷ cut.1.now))
    → MatchOption r ((n : ℕ) → pieces n bytes ≡ bytes ∷ []) (λ cut. (n : ℕ) → pieces (suc n) bytes ≡ cut.0.now ∷ pieces n cut.1.now)
piece_of bytes None none = λ n. pieces_whole n bytes none
piece_of bytes (Some cut) p = λ n. ap (pieces (suc n)) p.1 ∙ pieces_cut n cut.0.now cut.1.now p.0

-- few pieces lack fields
pub lack_few : (word : List ℕ) (wanted : ℕ) (all : List (List ℕ)) → length all ≤ wanted → Lack word wanted all
lack_few word wanted all few = λ fields same many. omega (arith, ap length same)
