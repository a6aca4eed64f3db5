-- The lines of bytes that are cut at a line feed.
use Rattle.std.proofs.Common.{◌≡◌, ◌≢◌, ℕ, ◌<◌, List, [], ◌∷◌, ◌++◌, length, refl, ap, ◌∙◌, cond, arith}
use Rattle.std.proofs.lemmas.Bool.{ne_eqb}
use Rattle.std.proofs.lemmas.List.Elements.{All-tail}
use Rattle.call_plan.specs.ScriptLines.{lines_of, onto_first}
use Rattle.call_plan.proofs.Cutting.{Unmarked}

-- a byte that is no line feed goes to the front of the first line
onto : (byte : ℕ) (bytes : List ℕ) → byte ≢ 10 → lines_of (byte ∷ bytes) ≡ onto_first byte (lines_of bytes)
onto byte bytes other = ap (λ test. cond test ([] ∷ lines_of bytes) (onto_first byte (lines_of bytes))) (ne_eqb byte 10 other)

-- the first line ends at the first line feed
pub lines_cut : (line rest : List ℕ) → Unmarked 10 line → lines_of (line ++ 10 ∷ rest) ≡ line ∷ lines_of rest
lines_cut [] rest none = refl
lines_cut (byte ∷ line) rest none =
    onto byte (line ++ 10 ∷ rest) (none 0 0 (omega arith))
    ∙ ap (onto_first byte) (lines_cut line rest (All-tail (λ b. b ≢ 10) byte line none))

-- bytes without a line feed are one line
pub lines_last : (line : List ℕ) → Unmarked 10 line → 0 < length line → lines_of line ≡ line ∷ []
lines_last [] none some = absurd (omega arith)
lines_last (byte ∷ []) none some = onto byte [] (none 0 0 (omega arith))
lines_last (byte ∷ (next ∷ line)) none some =
    onto byte (next ∷ line) (none 0 0 (omega arith))
    ∙ ap (onto_first byte) (lines_last (next ∷ line) (All-tail (λ b. b ≢ 10) byte (next ∷ line) none) (omega arith))
