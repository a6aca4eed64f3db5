-- Texts in UTF-8, in units of UTF-16, and their fronts of whole characters.
use Rattle.std.specs.Prelude.{◌≡◌, ℕ, ◌<◌, ◌≤◌, List, [], ◌∷◌, length, take, nat_lt, if◌then◌else◌}
use Rattle.std.specs.Char.Escape.{encode_utf16}
use Rattle.std.specs.List.{flat_map}
use Rattle.std.specs.Str.{chars, IsCharBoundary}
use Rattle.hessian_text.specs.Written.{CHUNK, first_chunk}

-- the units of a text
abbrev pub utf16 : List ℕ → List ℕ
utf16 text = flat_map encode_utf16 (chars text)

-- the units that a character counts at this byte of it: all of them at its first byte
abbrev pub byte_units : ℕ → ℕ
byte_units b = if nat_lt b 0x80 then 1 else if nat_lt b 0xc0 then 0 else if nat_lt b 0xf0 then 1 else 2

-- the first of these characters has more units
abbrev pub FitsNone : List ℕ → ℕ → Type 0
FitsNone [] room = Unit {0}
FitsNone (c ∷ cs) room = room < length (encode_utf16 c)

-- whole characters at the front of a text, in so many bytes and units; none only where the first has no room
pub record IsFront (text : List ℕ) (room len units : ℕ) : Type 0 where
  pub cut : IsCharBoundary text len
  pub units_are : units ≡ length (utf16 (take len text))
  pub fits : units ≤ room
  pub none : len ≡ 0 → FitsNone (chars text) room

-- the characters of the first chunk that the writer makes of a text
pub record IsFirstChunk (text : List ℕ) (len units : ℕ) : Type 0 where
  pub cut : IsCharBoundary text len
  pub units_are : units ≡ length (utf16 (take len text))
  pub few : units ≤ CHUNK
  pub more : len < length text → CHUNK < length (utf16 text)
  pub full : len < length text → units ≡ first_chunk (utf16 text)
