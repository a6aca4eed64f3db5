-- The spellings of null, booleans, ints, longs and dates: a rule for each row of the bytecode map
-- of the Hessian 2.0 Serialization Protocol. All bytes of a number stand with the highest first.
use Rattle.std.specs.Prelude.{◌≡◌, ℕ, ◌<◌, ◌≤◌, ◌*◌, ◌+◌, ℤ, pos, ◌+ℤ◌, ◌-ℤ◌, ◌*ℤ◌, true, false, List, [], ◌∷◌, ◌⊎◌}
use Rattle.std.specs.Int.{w32, w64, cast_signed, from_be_bytes}
use Rattle.hessian_scalars.specs.declared.scalar.Scalar.{Scalar}
use Rattle.hessian_scalars.specs.declared.scalar.Scalar.TheVariants as scalars

-- a code of a row that goes from one code to another
pub record IsCode (first last code : ℕ) : Type 0 where
  pub above : first ≤ code
  pub below : code ≤ last

-- four bytes
pub record AreBytes (b3 b2 b1 b0 : ℕ) : Type 0 where
  pub highest : b3 < 256
  pub high : b2 < 256
  pub low : b1 < 256
  pub lowest : b0 < 256

-- the signed number of four bytes, and of eight
abbrev pub int_of : List ℕ → ℤ
int_of bytes = cast_signed w32 (from_be_bytes w32 bytes)

abbrev pub long_of : List ℕ → ℤ
long_of bytes = cast_signed w64 (from_be_bytes w64 bytes)

-- the number that a code states by its distance from the row's code of zero, and the bytes after it
abbrev pub compact : (zero_code code weight low : ℕ) → ℤ
compact zero_code code weight low = ((pos code -ℤ pos zero_code) *ℤ pos weight) +ℤ pos low

-- these bytes spell this value
pub data ScalarSpelling : Scalar → List ℕ → Type 0 where
  null : ScalarSpelling scalars.Null (0x4e ∷ [])
  no : ScalarSpelling (scalars.Bool false) (0x46 ∷ [])
  yes : ScalarSpelling (scalars.Bool true) (0x54 ∷ [])
  -- an int: in its code, in its code and one byte or two, or whole behind `I`
  int_in_code : (code : ℕ) (z : ℤ) → IsCode 0x80 0xbf code → z ≡ pos code -ℤ pos 0x90 → ScalarSpelling (scalars.Int z) (code ∷ [])
  int_and_byte : (code b0 : ℕ) (z : ℤ) → IsCode 0xc0 0xcf code → b0 < 256 → z ≡ compact 0xc8 code 256 b0 → ScalarSpelling (scalars.Int z) (code ∷ b0 ∷ [])
  int_and_two : (code b1 b0 : ℕ) (z : ℤ) → IsCode 0xd0 0xd7 code → b1 < 256 → b0 < 256 → z ≡ compact 0xd4 code 65536 (b1 * 256 + b0) → ScalarSpelling (scalars.Int z) (code ∷ b1 ∷ b0 ∷ [])
  int_whole : (b3 b2 b1 b0 : ℕ) (z : ℤ) → AreBytes b3 b2 b1 b0 → z ≡ int_of (b3 ∷ b2 ∷ b1 ∷ b0 ∷ []) → ScalarSpelling (scalars.Int z) (0x49 ∷ b3 ∷ b2 ∷ b1 ∷ b0 ∷ [])
  -- a long: the same, and as an int behind x59, whole behind `L`
  long_in_code : (code : ℕ) (z : ℤ) → IsCode 0xd8 0xef code → z ≡ pos code -ℤ pos 0xe0 → ScalarSpelling (scalars.Long z) (code ∷ [])
  long_and_byte : (code b0 : ℕ) (z : ℤ) → IsCode 0xf0 0xff code → b0 < 256 → z ≡ compact 0xf8 code 256 b0 → ScalarSpelling (scalars.Long z) (code ∷ b0 ∷ [])
  long_and_two : (code b1 b0 : ℕ) (z : ℤ) → IsCode 0x38 0x3f code → b1 < 256 → b0 < 256 → z ≡ compact 0x3c code 65536 (b1 * 256 + b0) → ScalarSpelling (scalars.Long z) (code ∷ b1 ∷ b0 ∷ [])
  long_as_int : (b3 b2 b1 b0 : ℕ) (z : ℤ) → AreBytes b3 b2 b1 b0 → z ≡ int_of (b3 ∷ b2 ∷ b1 ∷ b0 ∷ []) → ScalarSpelling (scalars.Long z) (0x59 ∷ b3 ∷ b2 ∷ b1 ∷ b0 ∷ [])
  long_whole : (b7 b6 b5 b4 b3 b2 b1 b0 : ℕ) (z : ℤ) → AreBytes b7 b6 b5 b4 → AreBytes b3 b2 b1 b0 → z ≡ long_of (b7 ∷ b6 ∷ b5 ∷ b4 ∷ b3 ∷ b2 ∷ b1 ∷ b0 ∷ []) → ScalarSpelling (scalars.Long z) (0x4c ∷ b7 ∷ b6 ∷ b5 ∷ b4 ∷ b3 ∷ b2 ∷ b1 ∷ b0 ∷ [])
  -- a date: milliseconds since 1970 UTC, or minutes
  date_in_millis : (b7 b6 b5 b4 b3 b2 b1 b0 : ℕ) (z : ℤ) → AreBytes b7 b6 b5 b4 → AreBytes b3 b2 b1 b0 → z ≡ long_of (b7 ∷ b6 ∷ b5 ∷ b4 ∷ b3 ∷ b2 ∷ b1 ∷ b0 ∷ []) → ScalarSpelling (scalars.Date z) (0x4a ∷ b7 ∷ b6 ∷ b5 ∷ b4 ∷ b3 ∷ b2 ∷ b1 ∷ b0 ∷ [])
  date_in_minutes : (b3 b2 b1 b0 : ℕ) (z : ℤ) → AreBytes b3 b2 b1 b0 → z ≡ int_of (b3 ∷ b2 ∷ b1 ∷ b0 ∷ []) *ℤ pos 60000 → ScalarSpelling (scalars.Date z) (0x4b ∷ b3 ∷ b2 ∷ b1 ∷ b0 ∷ [])

-- the codes of doubles, which have no spelling here
abbrev pub IsDoubleCode : ℕ → Type 0
IsDoubleCode code = (code ≡ 0x44) ⊎ IsCode 0x5b 0x5f code
