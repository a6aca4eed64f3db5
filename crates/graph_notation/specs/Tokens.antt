-- How a text is cut into tokens.
use Rattle.std.specs.Prelude.{◌≡◌, ◌≢◌, ℕ, Bool, true, false, ◌||◌, ◌&&◌, nat_le, nat_eq, List, [], ◌∷◌, ◌++◌}

-- a token, as its bytes
abbrev pub Token : Type 0
Token = List ℕ

-- an ASCII letter, a digit, `-`, `@` or `#`
abbrev pub is_word_byte : ℕ → Bool
is_word_byte b = (nat_le 0x30 b && nat_le b 0x39) || (nat_le 0x41 b && nat_le b 0x5a) || (nat_le 0x61 b && nat_le b 0x7a)
    || nat_eq b 0x2d || nat_eq b 0x40 || nat_eq b 0x23

-- each byte is one of a word
abbrev pub AreWordBytes : List ℕ → Type 0
AreWordBytes [] = Unit {0}
AreWordBytes (b ∷ bs) = (is_word_byte b ≡ true) × AreWordBytes bs

-- the text goes on with no byte of a word
abbrev pub BeginsNoWord : List ℕ → Type 0
BeginsNoWord [] = Unit {0}
BeginsNoWord (b ∷ bs) = is_word_byte b ≡ false

-- each `"` in these bytes is escaped, by a `\` that isn't escaped itself
pub data Escaped : List ℕ → Type 0 where
  none : Escaped []
  plain : (b : ℕ) (more : List ℕ) → b ≢ 0x22 → b ≢ 0x5c → Escaped more → Escaped (b ∷ more)
  escape : (b : ℕ) (more : List ℕ) → Escaped more → Escaped (0x5c ∷ b ∷ more)

-- The token at the front of a text, and the rest of the text: a longest run of word bytes, a text from `"` to the first `"`
-- that isn't escaped, or else one byte. A text without its end goes to the end of all.
pub data IsToken : Token → List ℕ → Type 0 where
  word : (b : ℕ) (more rest : List ℕ) → AreWordBytes (b ∷ more) → BeginsNoWord rest → IsToken (b ∷ more) rest
  whole : (inner rest : List ℕ) → Escaped inner → IsToken (0x22 ∷ (inner ++ 0x22 ∷ [])) rest
  endless : (inner : List ℕ) → Escaped inner → IsToken (0x22 ∷ inner) []
  endless_escape : (inner : List ℕ) → Escaped inner → IsToken (0x22 ∷ (inner ++ 0x5c ∷ [])) []
  other : (b : ℕ) (rest : List ℕ) → is_word_byte b ≡ false → b ≢ 0x22 → IsToken (b ∷ []) rest

-- The text has these tokens at its front, one after another, and then this rest.
pub data Cut : List ℕ → List Token → List ℕ → Type 0 where
  none : (text : List ℕ) → Cut text [] text
  one : (token middle rest : List ℕ) (tokens : List Token) → IsToken token middle → Cut middle tokens rest → Cut (token ++ middle) (token ∷ tokens) rest
