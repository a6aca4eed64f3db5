-- No spelling is shorter than the writer's.
use Rattle.std.proofs.Common.{◌≡◌, ℕ, ◌≤◌, ◌/◌, ◌%◌, List, [], ◌∷◌, ◌++◌, length, ℤ, pos, negsuc, ◌+ℤ◌, ◌≤ℤ◌, sym, ap, ◌∙◌, arith}
use Rattle.std.proofs.lemmas.Int.{ints, to_z-of_z}
use Rattle.std.proofs.lemmas.Nat.{from_be_bytes-to_be_bytes_4}
use Rattle.std.specs.Int.{w32, to_be_bytes, cast_signed, cast_unsigned}
use Rattle.std.specs.Prelude.{FitsSigned, slice_index}
use Rattle.hessian_scalars.specs.declared.scalar.Scalar.TheVariants as scalars
use Rattle.hessian_scalars.specs.ScalarSpelling.{AreBytes, int_of, ScalarSpelling}
use Rattle.hessian_scalars.specs.ScalarSpelling.ScalarSpelling.{int_in_code, int_and_byte, int_and_two, int_whole}
use Rattle.hessian_scalars.specs.Written.{Appends}

-- a number from low to high
abbrev pub IsWithin : ℤ → ℤ → ℤ → Type 0
IsWithin low high z = (low ≤ℤ z) × (z ≤ℤ high)

-- ---- how short an int's spelling may be

int_from_one : (z : ℤ) (other : List ℕ) → ScalarSpelling (scalars.Int z) other → 1 ≤ length other
int_from_one z other (int_in_code code z' i e) = omega arith
int_from_one z other (int_and_byte code b0 z' i l e) = omega arith
int_from_one z other (int_and_two code b1 b0 z' i l k e) = omega arith
int_from_one z other (int_whole b3 b2 b1 b0 z' f e) = omega arith

int_from_two : (z : ℤ) (other : List ℕ) → (IsWithin (negsuc 15) (pos 47) z → ⊥) → ScalarSpelling (scalars.Int z) other → 2 ≤ length other
int_from_two z other h (int_in_code code z' i e) = absurd (h (omega (arith, ints), omega (arith, ints)))
int_from_two z other h (int_and_byte code b0 z' i l e) = omega arith
int_from_two z other h (int_and_two code b1 b0 z' i l k e) = omega arith
int_from_two z other h (int_whole b3 b2 b1 b0 z' f e) = omega arith

int_from_three : (z : ℤ) (other : List ℕ) → (IsWithin (negsuc 2047) (pos 2047) z → ⊥) → ScalarSpelling (scalars.Int z) other → 3 ≤ length other
int_from_three z other h (int_in_code code z' i e) = absurd (h (omega (arith, ints), omega (arith, ints)))
int_from_three z other h (int_and_byte code b0 z' i l e) = absurd (h (omega (arith, ints), omega (arith, ints)))
int_from_three z other h (int_and_two code b1 b0 z' i l k e) = omega arith
int_from_three z other h (int_whole b3 b2 b1 b0 z' f e) = omega arith

int_from_five : (z : ℤ) (other : List ℕ) → (IsWithin (negsuc 262143) (pos 262143) z → ⊥) → ScalarSpelling (scalars.Int z) other → 5 ≤ length other
int_from_five z other h (int_in_code code z' i e) = absurd (h (omega (arith, ints), omega (arith, ints)))
int_from_five z other h (int_and_byte code b0 z' i l e) = absurd (h (omega (arith, ints), omega (arith, ints)))
int_from_five z other h (int_and_two code b1 b0 z' i l k e) = absurd (h (omega (arith, ints), omega (arith, ints)))
int_from_five z other h (int_whole b3 b2 b1 b0 z' f e) = omega arith

-- ---- the bytes of a number

pub read_back_4 : (z : ℤ) (n : ℕ) → FitsSigned w32 z → n ≡ cast_unsigned w32 z → z ≡ int_of (to_be_bytes w32 n)
read_back_4 z n f e = sym (ap (cast_signed w32) (from_be_bytes-to_be_bytes_4 n (rw e (grind (arith, ints)))) ∙ ap (cast_signed w32) e ∙ to_z-of_z w32 z f)

pub are_bytes_4 : (n : ℕ) → AreBytes (n / 16777216 % 256) (n / 65536 % 256) (n / 256 % 256) (n % 256)
are_bytes_4 n = record { highest = omega arith; high = omega arith; low = omega arith; lowest = omega arith }

-- ---- what is appended

pub int_in_code_appended : (old new : List ℕ) (z : ℤ) (c : ℕ) → IsWithin (negsuc 15) (pos 47) z → pos c ≡ z +ℤ pos 0x90 → new ≡ old ++ c ∷ [] → Appends old new (scalars.Int z)
int_in_code_appended old new z c i e h = record {
  spelling = c ∷ [];
  written = record { spells = int_in_code c z (record { above = omega (arith, ints); below = omega (arith, ints) }) (omega (arith, ints)); shortest = int_from_one z };
  joined = h;
}

pub int_and_byte_appended : (old new bytes : List ℕ) (z : ℤ) (n : ℕ) → IsWithin (negsuc 2047) (pos 2047) z → (IsWithin (negsuc 15) (pos 47) z → ⊥) → pos n ≡ z +ℤ pos 0xc800 → bytes ≡ to_be_bytes w32 n → new ≡ old ++ slice_index bytes 2 ∷ slice_index bytes 3 ∷ [] → Appends old new (scalars.Int z)
int_and_byte_appended old new bytes z n i o e k h = record {
  spelling = n / 256 % 256 ∷ n % 256 ∷ [];
  written = record { spells = int_and_byte (n / 256 % 256) (n % 256) z (record { above = omega (arith, ints); below = omega (arith, ints) }) (omega arith) (omega (arith, ints)); shortest = λ other s. int_from_two z other o s };
  joined = rw k at h;
}

pub int_and_two_appended : (old new bytes : List ℕ) (z : ℤ) (n : ℕ) → IsWithin (negsuc 262143) (pos 262143) z → (IsWithin (negsuc 2047) (pos 2047) z → ⊥) → pos n ≡ z +ℤ pos 0xd40000 → bytes ≡ to_be_bytes w32 n → new ≡ old ++ slice_index bytes 1 ∷ slice_index bytes 2 ∷ slice_index bytes 3 ∷ [] → Appends old new (scalars.Int z)
int_and_two_appended old new bytes z n i o e k h = record {
  spelling = n / 65536 % 256 ∷ n / 256 % 256 ∷ n % 256 ∷ [];
  written = record { spells = int_and_two (n / 65536 % 256) (n / 256 % 256) (n % 256) z (record { above = omega (arith, ints); below = omega (arith, ints) }) (omega arith) (omega arith) (omega (arith, ints)); shortest = λ other s. int_from_three z other o s };
  joined = rw k at h;
}

pub int_whole_appended : (old new bytes : List ℕ) (z : ℤ) (n : ℕ) → FitsSigned w32 z → (IsWithin (negsuc 262143) (pos 262143) z → ⊥) → n ≡ cast_unsigned w32 z → bytes ≡ to_be_bytes w32 n → new ≡ old ++ 0x49 ∷ slice_index bytes 0 ∷ slice_index bytes 1 ∷ slice_index bytes 2 ∷ slice_index bytes 3 ∷ [] → Appends old new (scalars.Int z)
int_whole_appended old new bytes z n f o e k h = record {
  spelling = 0x49 ∷ to_be_bytes w32 n;
  written = record { spells = int_whole (n / 16777216 % 256) (n / 65536 % 256) (n / 256 % 256) (n % 256) z (are_bytes_4 n) (read_back_4 z n f e); shortest = λ other s. int_from_five z other o s };
  joined = rw k at h;
}
