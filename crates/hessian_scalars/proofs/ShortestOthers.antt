-- No spelling of a date, of null or of a boolean is shorter than the writer's.
use Rattle.std.proofs.Common.{◌≡◌, ℕ, ◌≤◌, ◌/◌, ◌%◌, true, false, List, [], ◌∷◌, ◌++◌, length, ℤ, pos, ◌*ℤ◌, ap, ◌∙◌, arith}
use Rattle.std.specs.Int.{w32, w64, to_be_bytes, cast_unsigned}
use Rattle.std.specs.Prelude.{FitsSigned, slice_index}
use Rattle.hessian_scalars.specs.declared.scalar.Scalar.{Scalar}
use Rattle.hessian_scalars.specs.declared.scalar.Scalar.TheVariants as scalars
use Rattle.hessian_scalars.specs.ScalarSpelling.{int_of, ScalarSpelling}
use Rattle.hessian_scalars.specs.ScalarSpelling.ScalarSpelling.{null, no, yes, date_in_millis, date_in_minutes}
use Rattle.hessian_scalars.specs.Written.{IsShortest, Appends}
use Rattle.hessian_scalars.proofs.Fronts.{has_code}
use Rattle.hessian_scalars.proofs.Shortest.{read_back_4, are_bytes_4}
use Rattle.hessian_scalars.proofs.ShortestLongs.{int_of_fits, read_back_8, are_high_bytes}

date_from_five : (z : ℤ) (other : List ℕ) → ScalarSpelling (scalars.Date z) other → 5 ≤ length other
date_from_five z other (date_in_millis b7 b6 b5 b4 b3 b2 b1 b0 z' g f e) = omega arith
date_from_five z other (date_in_minutes b3 b2 b1 b0 z' f e) = omega arith

date_from_nine : (z : ℤ) (other : List ℕ) → ((m : ℤ) → FitsSigned w32 m → z ≡ m *ℤ pos 60000 → ⊥) → ScalarSpelling (scalars.Date z) other → 9 ≤ length other
date_from_nine z other h (date_in_millis b7 b6 b5 b4 b3 b2 b1 b0 z' g f e) = omega arith
date_from_nine z other h (date_in_minutes b3 b2 b1 b0 z' f e) = absurd (h (int_of (b3 ∷ b2 ∷ b1 ∷ b0 ∷ [])) (int_of_fits b3 b2 b1 b0 f) e)

pub date_in_millis_appended : (old new bytes : List ℕ) (z : ℤ) (n : ℕ) → FitsSigned w64 z → ((m : ℤ) → FitsSigned w32 m → z ≡ m *ℤ pos 60000 → ⊥) → n ≡ cast_unsigned w64 z → bytes ≡ to_be_bytes w64 n → new ≡ old ++ 0x4a ∷ slice_index bytes 0 ∷ slice_index bytes 1 ∷ slice_index bytes 2 ∷ slice_index bytes 3 ∷ slice_index bytes 4 ∷ slice_index bytes 5 ∷ slice_index bytes 6 ∷ slice_index bytes 7 ∷ [] → Appends old new (scalars.Date z)
date_in_millis_appended old new bytes z n f o e k h = record {
  spelling = 0x4a ∷ to_be_bytes w64 n;
  written = record { spells = date_in_millis (n / 72057594037927936 % 256) (n / 281474976710656 % 256) (n / 1099511627776 % 256) (n / 4294967296 % 256) (n / 16777216 % 256) (n / 65536 % 256) (n / 256 % 256) (n % 256) z (are_high_bytes n) (are_bytes_4 n) (read_back_8 z n f e); shortest = λ other s. date_from_nine z other o s };
  joined = rw k at h;
}

pub date_in_minutes_appended : (old new bytes : List ℕ) (z m : ℤ) (n : ℕ) → FitsSigned w32 m → z ≡ m *ℤ pos 60000 → n ≡ cast_unsigned w32 m → bytes ≡ to_be_bytes w32 n → new ≡ old ++ 0x4b ∷ slice_index bytes 0 ∷ slice_index bytes 1 ∷ slice_index bytes 2 ∷ slice_index bytes 3 ∷ [] → Appends old new (scalars.Date z)
date_in_minutes_appended old new bytes z m n f t e k h = record {
  spelling = 0x4b ∷ to_be_bytes w32 n;
  written = record { spells = date_in_minutes (n / 16777216 % 256) (n / 65536 % 256) (n / 256 % 256) (n % 256) z (are_bytes_4 n) (t ∙ ap (λ (k : ℤ). k *ℤ pos 60000) (read_back_4 m n f e)); shortest = date_from_five z };
  joined = rw k at h;
}

-- a spelling of one byte is the shortest
shortest_of_one : (v : Scalar) (c : ℕ) → ScalarSpelling v (c ∷ []) → IsShortest v (c ∷ [])
shortest_of_one v c s = record { spells = s; shortest = λ other t. omega (arith, has_code v other t) }

pub null_appended : (old new : List ℕ) (v : Scalar) → v ≡ scalars.Null → new ≡ old ++ 0x4e ∷ [] → Appends old new v
null_appended old new v e h = record { spelling = 0x4e ∷ []; written = rw e (shortest_of_one scalars.Null 0x4e null); joined = h }

pub no_appended : (old new : List ℕ) (v : Scalar) → v ≡ scalars.Bool false → new ≡ old ++ 0x46 ∷ [] → Appends old new v
no_appended old new v e h = record { spelling = 0x46 ∷ []; written = rw e (shortest_of_one (scalars.Bool false) 0x46 no); joined = h }

pub yes_appended : (old new : List ℕ) (v : Scalar) → v ≡ scalars.Bool true → new ≡ old ++ 0x54 ∷ [] → Appends old new v
yes_appended old new v e h = record { spelling = 0x54 ∷ []; written = rw e (shortest_of_one (scalars.Bool true) 0x54 yes); joined = h }
