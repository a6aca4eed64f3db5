-- What is known of a token that was looked at.
use Rattle.std.specs.Prelude.{◌≡◌, ◌≢◌, ℕ, ℤ, ◌<◌, ◌^◌, List, [], ◌∷◌, ◌++◌, codes, decimal, Option, Some, None, FitsSigned}
use Rattle.std.specs.Fmt.{signed_decimal}
use Rattle.std.specs.Int.{w32, w64}
use Rattle.graph_notation.specs.declared.element.Mark.{Mark}
use Rattle.graph_notation.specs.declared.element.Element.{Element}
use Rattle.graph_notation.specs.Tokens.{Token}
use Rattle.graph_notation.specs.Elements.{Reads, mark_byte}

-- the element that the token is, or it is none
abbrev pub IsReading : Token → Option Element → Type 0
IsReading token None = (e : Element) → Reads token e → ⊥
IsReading token (Some e) = Reads token e

-- no value but a text, a list of bytes or a node
pub record IsNoValue (token : Token) : Type 0 where
  pub null : token ≢ codes "null"
  pub yes : token ≢ codes "true"
  pub no : token ≢ codes "false"
  pub int : (z : ℤ) → FitsSigned w32 z → token ≢ signed_decimal z
  pub long : (z : ℤ) → FitsSigned w64 z → token ≢ signed_decimal z ++ 0x4c ∷ []
  pub date : (z : ℤ) (digits : List ℕ) → FitsSigned w64 z → token ≡ 0x40 ∷ digits → digits ≢ signed_decimal z

abbrev pub IsNoMark : Token → Type 0
IsNoMark token = (mark : Mark) → token ≢ mark_byte mark ∷ []

abbrev pub IsNoReference : Token → Type 0
IsNoReference token = (k : ℕ) (digits : List ℕ) → k < 2 ^ 32 → token ≡ 0x23 ∷ digits → digits ≢ decimal k
