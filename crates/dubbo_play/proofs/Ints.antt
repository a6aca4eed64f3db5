-- Bytes that write an int in decimal.
use Rattle.std.proofs.Common.{◌≡◌, ℕ, ℤ, ◌<◌, ◌^◌, List, None, Some, Result, Ok, Err, MatchResult, sym, ap, subst, ◌∙◌, arith}
use Rattle.std.specs.Fmt.{signed_decimal}
use Rattle.std.specs.Int.{w32}
use Rattle.std.specs.Int.RustNames.{FitsSigned}
use Rattle.std.specs.Int.Signed.{mag}
use Rattle.std.specs.Result.{result_ok}
use Rattle.std.specs.Str.{IsUtf8}
use Rattle.std.specs.Str.Parse.{ParsesSigned}
use Rattle.std.proofs.lemmas.Fmt.{IsAscii-signed, parse-signed_decimal}
use Rattle.std.proofs.lemmas.Str.{IsUtf8-from_ascii}
use denote.Ref.{Bor}

-- an int is small
pub small : (z : ℤ) → FitsSigned w32 z → mag z < 2 ^ 63
small z fits = omega arith

-- an int's decimal is text
pub text_of_int : (z : ℤ) (bytes : List ℕ) → FitsSigned w32 z → bytes ≡ signed_decimal z → IsUtf8 bytes
text_of_int z bytes fits same = subst IsUtf8 (sym same) (IsUtf8-from_ascii (signed_decimal z) (IsAscii-signed z (small z fits)))

-- an int's decimal is parsed to the int
pub parsed_int : {E : Type 0} (z : ℤ) (bytes : List ℕ) (r : Result ℤ E) → FitsSigned w32 z → bytes ≡ signed_decimal z
    → ParsesSigned w32 10 bytes r → r ≡ Ok z
parsed_int z bytes r fits same parses = parse-signed_decimal w32 z bytes r fits (small z fits) same parses

-- bytes that gave no text aren't text
pub no_text : {E : Type 0} (bytes : List ℕ) (P : Bor (List ℕ) → Type 0) (Q : E → Type 0) (r : Result (Bor (List ℕ)) E)
    → MatchResult r P (λ e. (¬ IsUtf8 bytes) × Q e) → None ≡ result_ok r → ¬ IsUtf8 bytes
no_text bytes P Q (Ok text) cases none = absurd cc
no_text bytes P Q (Err e) cases none = cases.0

-- the text that bytes gave
pub same_text : {E : Type 0} (bytes : List ℕ) (P : Type 0) (Q : E → Type 0) (text : Bor (List ℕ)) (r : Result (Bor (List ℕ)) E)
    → MatchResult r (λ s. (s.now ≡ bytes) × P) Q → Some text ≡ result_ok r → text.now ≡ bytes
same_text bytes P Q text (Ok s) cases some = let e : text ≡ s = cc in ap (λ t. t.now) e ∙ cases.0
same_text bytes P Q text (Err e) cases some = absurd cc
