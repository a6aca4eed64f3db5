-- Bytes that write a number in decimal.
use Rattle.std.proofs.Common.{◌≡◌, ℕ, ◌<◌, ◌^◌, List, None, Some, Result, Ok, Err, MatchResult, subst, sym, ap, ◌∙◌, arith}
use Rattle.std.specs.Prelude.{decimal}
use Rattle.std.specs.Str.{IsUtf8}
use Rattle.std.specs.Str.Parse.{ParsesUnsigned}
use Rattle.std.specs.Result.{result_ok}
use Rattle.std.proofs.lemmas.Fmt.{IsAscii-decimal, parse-decimal}
use Rattle.std.proofs.lemmas.Str.{IsUtf8-from_ascii}
use denote.Ref.{Bor}

-- a number's decimal is text
pub number_is_text : (n : ℕ) (bytes : List ℕ) → n < 2 ^ 16 → bytes ≡ decimal n → IsUtf8 bytes
number_is_text n bytes fits same = subst IsUtf8 (sym same) (IsUtf8-from_ascii (decimal n) (IsAscii-decimal n (omega arith)))

-- a number's decimal is parsed to the number
pub parsed_number : {E : Type 0} (n : ℕ) (bytes : List ℕ) (r : Result ℕ E) → n < 2 ^ 16 → bytes ≡ decimal n → ParsesUnsigned 16 10 bytes r → r ≡ Ok n
parsed_number n bytes r fits same parses = parse-decimal 16 n bytes r fits (omega arith) same parses

-- bytes that gave no text aren't text
pub no_text : {E : Type 0} (bytes : List ℕ) (P : Bor (List ℕ) → Type 0) (Q : E → Type 0) (r : Result (Bor (List ℕ)) E)
    → MatchResult r P (λ e. (¬ IsUtf8 bytes) × Q e) → None ≡ result_ok r → ¬ IsUtf8 bytes
no_text bytes P Q (Ok text) cases none = absurd cc
no_text bytes P Q (Err e) cases none = cases.0

-- the text that bytes gave
pub same_text : {E : Type 0} (bytes : List ℕ) (P : Type 0) (Q : E → Type 0) (text : Bor (List ℕ)) (r : Result (Bor (List ℕ)) E)
    → MatchResult r (λ s. (s.now ≡ bytes) × P) Q → Some text ≡ result_ok r → text.now ≡ bytes
same_text bytes P Q text (Ok s) cases some = let e : text ≡ s = cc in ap (λ t. t.now) e ∙ cases.0
same_text bytes P Q text (Err e) cases some = absurd cc
