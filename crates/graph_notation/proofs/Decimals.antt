-- Bytes that write a number in decimal.
use Rattle.std.proofs.Common.{◌≡◌, ℕ, ℤ, ◌<◌, ◌^◌, List, None, Some, Result, Ok, Err, MatchResult, sym, ap, subst, ◌∙◌, arith}
use Rattle.std.specs.Prelude.{decimal}
use Rattle.std.specs.Fmt.{signed_decimal}
use Rattle.std.specs.Int.{w32, w64, Width}
use Rattle.std.specs.Int.RustNames.{FitsSigned}
use Rattle.std.specs.Int.Signed.{mag}
use Rattle.std.specs.Result.{result_ok}
use Rattle.std.specs.Str.{IsUtf8}
use Rattle.std.specs.Str.Parse.{ParsesSigned, ParsesUnsigned}
use Rattle.std.proofs.lemmas.Fmt.{IsAscii-signed, IsAscii-decimal, parse-signed_decimal, parse-decimal}
use Rattle.std.proofs.lemmas.Str.{IsUtf8-from_ascii}
use denote.Ref.{Bor}

pub small_w32 : (z : ℤ) → FitsSigned w32 z → mag z < 2 ^ 63
small_w32 z fits = omega arith

pub small_w64 : (z : ℤ) → FitsSigned w64 z → mag z < 2 ^ 63
small_w64 z fits = omega arith

-- a number's decimal is text
pub text_of_signed : (z : ℤ) (bytes : List ℕ) → mag z < 2 ^ 63 → bytes ≡ signed_decimal z → IsUtf8 bytes
text_of_signed z bytes small same = subst IsUtf8 (sym same) (IsUtf8-from_ascii (signed_decimal z) (IsAscii-signed z small))

pub text_of_number : (n : ℕ) (bytes : List ℕ) → n < 2 ^ 32 → bytes ≡ decimal n → IsUtf8 bytes
text_of_number n bytes small same = subst IsUtf8 (sym same) (IsUtf8-from_ascii (decimal n) (IsAscii-decimal n (omega arith)))

-- a number's decimal is parsed to the number
pub parsed_signed : {E : Type 0} (w : Width) (z : ℤ) (bytes : List ℕ) (r : Result ℤ E) → FitsSigned w z → mag z < 2 ^ 63 → bytes ≡ signed_decimal z
    → ParsesSigned w 10 bytes r → r ≡ Ok z
parsed_signed w z bytes r fits small same parses = parse-signed_decimal w z bytes r fits small same parses

pub parsed_number : {E : Type 0} (n : ℕ) (bytes : List ℕ) (r : Result ℕ E) → n < 2 ^ 32 → bytes ≡ decimal n → ParsesUnsigned 32 10 bytes r → r ≡ Ok n
parsed_number n bytes r fits same parses = parse-decimal 32 n bytes r fits (omega arith) same parses

-- bytes that gave no text aren't text
pub no_text : {E : Type 0} (bytes : List ℕ) (P : Bor (List ℕ) → Type 0) (Q : E → Type 0) (r : Result (Bor (List ℕ)) E)
    → MatchResult r P (λ e. (¬ IsUtf8 bytes) × Q e) → None ≡ result_ok r → ¬ IsUtf8 bytes
no_text bytes P Q (Ok text) cases none = absurd cc
no_text bytes P Q (Err e) cases none = cases.0

-- the text that bytes gave
pub same_text : {E : Type 0} (bytes : List ℕ) (P : Type 0) (Q : E → Type 0) (text : Bor (List ℕ)) (r : Result (Bor (List ℕ)) E)
    → MatchResult r (λ s. (s.now ≡ bytes) × P) Q → Some text ≡ result_ok r → text.now ≡ bytes
same_text bytes P Q text (Ok s) cases some = let e : text ≡ s = cc in ap (λ t. t.now) e ∙ cases.0
same_text bytes P Q text (Err e) cases some = absurd cc
