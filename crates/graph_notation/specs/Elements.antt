-- What each token is by itself, and the one token that is written for it.
use Rattle.std.specs.Prelude.{◌≡◌, ◌≢◌, ℕ, ℤ, ◌+◌, ◌*◌, ◌/◌, ◌%◌, ◌<◌, ◌≤◌, ◌^◌, Bool, true, false, ◌||◌, nat_lt, nat_eq, List, [], ◌∷◌, ◌++◌, length, map, codes, decimal, if◌then◌else◌, All, FitsSigned}
use Rattle.std.specs.Fmt.{signed_decimal}
use Rattle.std.specs.Int.{w32, w64}
use Rattle.std.specs.List.{flat_map}
use Rattle.std.specs.Char.{encode_utf8, IsScalar}
use Rattle.std.specs.Str.{IsUtf8}
use Rattle.hessian_graph.specs.declared.value.Value.{Value}
use Rattle.hessian_graph.specs.declared.value.Value.TheVariants as values
use Rattle.graph_notation.specs.declared.element.Mark.{Mark}
use Rattle.graph_notation.specs.declared.element.Mark.TheVariants as marks
use Rattle.graph_notation.specs.declared.element.Element.{Element}
use Rattle.graph_notation.specs.declared.element.Element.TheVariants.{Plain, Words, Reference, Sign}
use Rattle.graph_notation.specs.Tokens.{Token}

-- the byte of a mark
abbrev pub mark_byte : Mark → ℕ
mark_byte marks.BeginList = 0x5b
mark_byte marks.EndList = 0x5d
mark_byte marks.BeginMap = 0x7b
mark_byte marks.EndMap = 0x7d
mark_byte marks.BeginFields = 0x28
mark_byte marks.EndFields = 0x29
mark_byte marks.Comma = 0x2c
mark_byte marks.Colon = 0x3a
mark_byte marks.Named = 0x21

-- a hexadecimal digit, in lower case
abbrev pub hex_digit : ℕ → ℕ
hex_digit d = if nat_lt d 10 then 0x30 + d else 0x57 + d

-- a byte as two digits
abbrev pub hex_pair : ℕ → List ℕ
hex_pair b = hex_digit (b / 16) ∷ hex_digit (b % 16) ∷ []

-- the number that digits write, behind those that wrote `high`
abbrev pub hex_value : ℕ → List ℕ → ℕ
hex_value high [] = high
hex_value high (d ∷ ds) = hex_value (high * 16 + d) ds

-- U+0000 to U+001F and U+007F
abbrev pub is_control : ℕ → Bool
is_control b = nat_lt b 0x20 || nat_eq b 0x7f

-- what stands between the quotes of a text, and the bytes of the text: `\"`, `\\`, and `\u{h}` for any character
pub data Quoted : List ℕ → List ℕ → Type 0 where
  none : Quoted [] []
  plain : (b : ℕ) (more text : List ℕ) → is_control b ≡ false → b ≢ 0x22 → b ≢ 0x5c → Quoted more text → Quoted (b ∷ more) (b ∷ text)
  quote : (more text : List ℕ) → Quoted more text → Quoted (0x5c ∷ 0x22 ∷ more) (0x22 ∷ text)
  backslash : (more text : List ℕ) → Quoted more text → Quoted (0x5c ∷ 0x5c ∷ more) (0x5c ∷ text)
  code : (digits more text : List ℕ) (c : ℕ) → All (λ d. d < 16) digits → 1 ≤ length digits → length digits ≤ 6 → c ≡ hex_value 0 digits → IsScalar c → Quoted more text → Quoted (0x5c ∷ 0x75 ∷ 0x7b ∷ (map hex_digit digits ++ 0x7d ∷ more)) (encode_utf8 c ++ text)

-- what a token is: the rows of single tokens, each number in its range, each text in UTF-8
pub data Reads : Token → Element → Type 0 where
  null : Reads (codes "null") (Plain values.Null)
  yes : Reads (codes "true") (Plain (values.Bool true))
  no : Reads (codes "false") (Plain (values.Bool false))
  int : (z : ℤ) (token : Token) → FitsSigned w32 z → token ≡ signed_decimal z → Reads token (Plain (values.Int z))
  long : (z : ℤ) (token : Token) → FitsSigned w64 z → token ≡ signed_decimal z ++ 0x4c ∷ [] → Reads token (Plain (values.Long z))
  date : (z : ℤ) (digits : List ℕ) → FitsSigned w64 z → digits ≡ signed_decimal z → Reads (0x40 ∷ digits) (Plain (values.Date z))
  binary : (bytes digits : List ℕ) → All (λ b. b < 256) bytes → digits ≡ flat_map hex_pair bytes → Reads (0x78 ∷ digits) (Plain (values.Bytes bytes))
  words : (inner text : List ℕ) → Quoted inner text → IsUtf8 text → Reads (0x22 ∷ (inner ++ 0x22 ∷ [])) (Words text)
  reference : (k : ℕ) (digits : List ℕ) → k < 2 ^ 32 → digits ≡ decimal k → Reads (0x23 ∷ digits) (Reference k)
  sign : (mark : Mark) → Reads (mark_byte mark ∷ []) (Sign mark)

-- a number below 256 in hexadecimal, without a leading zero
abbrev pub short_hex : ℕ → List ℕ
short_hex b = if nat_lt b 16 then hex_digit b ∷ [] else hex_pair b

-- the writer's form of a byte of a text: of its quotes, its backslashes and its control characters
abbrev pub escaped : ℕ → List ℕ
escaped b =
    if nat_eq b 0x22 then 0x5c ∷ 0x22 ∷ []
    else (if nat_eq b 0x5c then 0x5c ∷ 0x5c ∷ []
    else (if is_control b then 0x5c ∷ 0x75 ∷ 0x7b ∷ (short_hex b ++ 0x7d ∷ []) else b ∷ []))

-- a text as it is written
abbrev pub quoted : List ℕ → List ℕ
quoted text = 0x22 ∷ (flat_map escaped text ++ 0x22 ∷ [])

-- a value that is neither a text nor a node as it is written
abbrev pub word_of : Value → List ℕ
word_of values.Null = codes "null"
word_of (values.Bool b) = if b then codes "true" else codes "false"
word_of (values.Int z) = signed_decimal z
word_of (values.Long z) = signed_decimal z ++ 0x4c ∷ []
word_of (values.Date z) = 0x40 ∷ signed_decimal z
word_of (values.Bytes bytes) = 0x78 ∷ flat_map hex_pair bytes
word_of (values.Text text) = quoted text
word_of (values.Node k) = 0x23 ∷ decimal k

-- the one token that is written
abbrev pub printed : Element → Token
printed (Plain v) = word_of v
printed (Words text) = quoted text
printed (Reference k) = 0x23 ∷ decimal k
printed (Sign mark) = mark_byte mark ∷ []
