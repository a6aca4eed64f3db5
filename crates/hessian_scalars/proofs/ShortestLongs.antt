-- No spelling of a long is shorter than the writer's.
use Rattle.std.proofs.Common.{◌≡◌, ℕ, ◌^◌, ◌<◌, ◌≤◌, ◌/◌, ◌%◌, List, [], ◌∷◌, ◌++◌, length, ℤ, pos, negsuc, ◌+ℤ◌, sym, ap, ◌∙◌, arith}
use Rattle.std.proofs.lemmas.Int.{ints, to_z-of_z}
use Rattle.std.proofs.lemmas.Nat.{from_be_bytes-to_be_bytes_8}
use Rattle.std.specs.Int.{w32, w64, from_be_bytes, to_be_bytes, cast_signed, cast_unsigned}
use Rattle.std.specs.Prelude.{FitsSigned, slice_index}
use Rattle.hessian_scalars.specs.declared.scalar.Scalar.TheVariants as scalars
use Rattle.hessian_scalars.specs.ScalarSpelling.{AreBytes, int_of, long_of, ScalarSpelling}
use Rattle.hessian_scalars.specs.ScalarSpelling.ScalarSpelling.{long_in_code, long_and_byte, long_and_two, long_as_int, long_whole}
use Rattle.hessian_scalars.specs.Written.{Appends}
use Rattle.hessian_scalars.proofs.Shortest.{IsWithin, read_back_4, are_bytes_4}

-- ---- how short a long's spelling may be

long_from_one : (z : ℤ) (other : List ℕ) → ScalarSpelling (scalars.Long z) other → 1 ≤ length other
long_from_one z other (long_in_code code z' i e) = omega arith
long_from_one z other (long_and_byte code b0 z' i l e) = omega arith
long_from_one z other (long_and_two code b1 b0 z' i l k e) = omega arith
long_from_one z other (long_as_int b3 b2 b1 b0 z' f e) = omega arith
long_from_one z other (long_whole b7 b6 b5 b4 b3 b2 b1 b0 z' g f e) = omega arith

long_from_two : (z : ℤ) (other : List ℕ) → (IsWithin (negsuc 7) (pos 15) z → ⊥) → ScalarSpelling (scalars.Long z) other → 2 ≤ length other
long_from_two z other h (long_in_code code z' i e) = absurd (h (omega (arith, ints), omega (arith, ints)))
long_from_two z other h (long_and_byte code b0 z' i l e) = omega arith
long_from_two z other h (long_and_two code b1 b0 z' i l k e) = omega arith
long_from_two z other h (long_as_int b3 b2 b1 b0 z' f e) = omega arith
long_from_two z other h (long_whole b7 b6 b5 b4 b3 b2 b1 b0 z' g f e) = omega arith

long_from_three : (z : ℤ) (other : List ℕ) → (IsWithin (negsuc 2047) (pos 2047) z → ⊥) → ScalarSpelling (scalars.Long z) other → 3 ≤ length other
long_from_three z other h (long_in_code code z' i e) = absurd (h (omega (arith, ints), omega (arith, ints)))
long_from_three z other h (long_and_byte code b0 z' i l e) = absurd (h (omega (arith, ints), omega (arith, ints)))
long_from_three z other h (long_and_two code b1 b0 z' i l k e) = omega arith
long_from_three z other h (long_as_int b3 b2 b1 b0 z' f e) = omega arith
long_from_three z other h (long_whole b7 b6 b5 b4 b3 b2 b1 b0 z' g f e) = omega arith

long_from_five : (z : ℤ) (other : List ℕ) → (IsWithin (negsuc 262143) (pos 262143) z → ⊥) → ScalarSpelling (scalars.Long z) other → 5 ≤ length other
long_from_five z other h (long_in_code code z' i e) = absurd (h (omega (arith, ints), omega (arith, ints)))
long_from_five z other h (long_and_byte code b0 z' i l e) = absurd (h (omega (arith, ints), omega (arith, ints)))
long_from_five z other h (long_and_two code b1 b0 z' i l k e) = absurd (h (omega (arith, ints), omega (arith, ints)))
long_from_five z other h (long_as_int b3 b2 b1 b0 z' f e) = omega arith
long_from_five z other h (long_whole b7 b6 b5 b4 b3 b2 b1 b0 z' g f e) = omega arith

within_fits : (z : ℤ) → IsWithin (negsuc 262143) (pos 262143) z → FitsSigned w32 z
within_fits z h = grind (arith, ints)

-- four bytes are a number of 32 bits
pub int_of_fits : (b3 b2 b1 b0 : ℕ) → AreBytes b3 b2 b1 b0 → FitsSigned w32 (int_of (b3 ∷ b2 ∷ b1 ∷ b0 ∷ []))
int_of_fits b3 b2 b1 b0 f = cast_fits (from_be_bytes w32 (b3 ∷ b2 ∷ b1 ∷ b0 ∷ [])) (omega (arith, f.highest, f.high, f.low, f.lowest))
  where
    cast_fits : (n : ℕ) → n < 2 ^ 32 → FitsSigned w32 (cast_signed w32 n)
    cast_fits n l = grind (arith, ints)

long_from_nine : (z : ℤ) (other : List ℕ) → (FitsSigned w32 z → ⊥) → ScalarSpelling (scalars.Long z) other → 9 ≤ length other
long_from_nine z other h (long_in_code code z' i e) = absurd (h (within_fits z (omega (arith, ints), omega (arith, ints))))
long_from_nine z other h (long_and_byte code b0 z' i l e) = absurd (h (within_fits z (omega (arith, ints), omega (arith, ints))))
long_from_nine z other h (long_and_two code b1 b0 z' i l k e) = absurd (h (within_fits z (omega (arith, ints), omega (arith, ints))))
long_from_nine z other h (long_as_int b3 b2 b1 b0 z' f e) = absurd (h (rw e (int_of_fits b3 b2 b1 b0 f)))
long_from_nine z other h (long_whole b7 b6 b5 b4 b3 b2 b1 b0 z' g f e) = omega arith

-- ---- the bytes of a number

pub read_back_8 : (z : ℤ) (n : ℕ) → FitsSigned w64 z → n ≡ cast_unsigned w64 z → z ≡ long_of (to_be_bytes w64 n)
read_back_8 z n f e = sym (ap (cast_signed w64) (from_be_bytes-to_be_bytes_8 n (rw e (grind (arith, ints)))) ∙ ap (cast_signed w64) e ∙ to_z-of_z w64 z f)

pub are_high_bytes : (n : ℕ) → AreBytes (n / 72057594037927936 % 256) (n / 281474976710656 % 256) (n / 1099511627776 % 256) (n / 4294967296 % 256)
are_high_bytes n = record { highest = omega arith; high = omega arith; low = omega arith; lowest = omega arith }

-- ---- what is appended

pub long_in_code_appended : (old new : List ℕ) (z : ℤ) (c : ℕ) → IsWithin (negsuc 7) (pos 15) z → pos c ≡ z +ℤ pos 0xe0 → new ≡ old ++ c ∷ [] → Appends old new (scalars.Long z)
long_in_code_appended old new z c i e h = record {
  spelling = c ∷ [];
  written = record { spells = long_in_code c z (record { above = omega (arith, ints); below = omega (arith, ints) }) (omega (arith, ints)); shortest = long_from_one z };
  joined = h;
}

pub long_and_byte_appended : (old new bytes : List ℕ) (z : ℤ) (n : ℕ) → IsWithin (negsuc 2047) (pos 2047) z → (IsWithin (negsuc 7) (pos 15) z → ⊥) → pos n ≡ z +ℤ pos 0xf800 → bytes ≡ to_be_bytes w32 n → new ≡ old ++ slice_index bytes 2 ∷ slice_index bytes 3 ∷ [] → Appends old new (scalars.Long z)
long_and_byte_appended old new bytes z n i o e k h = record {
  spelling = n / 256 % 256 ∷ n % 256 ∷ [];
  written = record { spells = long_and_byte (n / 256 % 256) (n % 256) z (record { above = omega (arith, ints); below = omega (arith, ints) }) (omega arith) (omega (arith, ints)); shortest = λ other s. long_from_two z other o s };
  joined = rw k at h;
}

pub long_and_two_appended : (old new bytes : List ℕ) (z : ℤ) (n : ℕ) → IsWithin (negsuc 262143) (pos 262143) z → (IsWithin (negsuc 2047) (pos 2047) z → ⊥) → pos n ≡ z +ℤ pos 0x3c0000 → bytes ≡ to_be_bytes w32 n → new ≡ old ++ slice_index bytes 1 ∷ slice_index bytes 2 ∷ slice_index bytes 3 ∷ [] → Appends old new (scalars.Long z)
long_and_two_appended old new bytes z n i o e k h = record {
  spelling = n / 65536 % 256 ∷ n / 256 % 256 ∷ n % 256 ∷ [];
  written = record { spells = long_and_two (n / 65536 % 256) (n / 256 % 256) (n % 256) z (record { above = omega (arith, ints); below = omega (arith, ints) }) (omega arith) (omega arith) (omega (arith, ints)); shortest = λ other s. long_from_three z other o s };
  joined = rw k at h;
}

pub long_as_int_appended : (old new bytes : List ℕ) (z : ℤ) (n : ℕ) → FitsSigned w32 z → (IsWithin (negsuc 262143) (pos 262143) z → ⊥) → n ≡ cast_unsigned w32 z → bytes ≡ to_be_bytes w32 n → new ≡ old ++ 0x59 ∷ slice_index bytes 0 ∷ slice_index bytes 1 ∷ slice_index bytes 2 ∷ slice_index bytes 3 ∷ [] → Appends old new (scalars.Long z)
long_as_int_appended old new bytes z n f o e k h = record {
  spelling = 0x59 ∷ to_be_bytes w32 n;
  written = record { spells = long_as_int (n / 16777216 % 256) (n / 65536 % 256) (n / 256 % 256) (n % 256) z (are_bytes_4 n) (read_back_4 z n f e); shortest = λ other s. long_from_five z other o s };
  joined = rw k at h;
}

pub long_whole_appended : (old new bytes : List ℕ) (z : ℤ) (n : ℕ) → FitsSigned w64 z → (FitsSigned w32 z → ⊥) → n ≡ cast_unsigned w64 z → bytes ≡ to_be_bytes w64 n → new ≡ old ++ 0x4c ∷ slice_index bytes 0 ∷ slice_index bytes 1 ∷ slice_index bytes 2 ∷ slice_index bytes 3 ∷ slice_index bytes 4 ∷ slice_index bytes 5 ∷ slice_index bytes 6 ∷ slice_index bytes 7 ∷ [] → Appends old new (scalars.Long z)
long_whole_appended old new bytes z n f o e k h = record {
  spelling = 0x4c ∷ to_be_bytes w64 n;
  written = record { spells = long_whole (n / 72057594037927936 % 256) (n / 281474976710656 % 256) (n / 1099511627776 % 256) (n / 4294967296 % 256) (n / 16777216 % 256) (n / 65536 % 256) (n / 256 % 256) (n % 256) z (are_high_bytes n) (are_bytes_4 n) (read_back_8 z n f e); shortest = λ other s. long_from_nine z other o s };
  joined = rw k at h;
}
