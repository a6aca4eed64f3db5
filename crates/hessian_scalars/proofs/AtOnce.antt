-- A scalar whose bytes stand at the front of a list.
use Rattle.std.proofs.Common.{◌≡◌, ℕ, ◌+◌, ◌*◌, ◌≤◌, List, [], ◌∷◌, length, take, ℤ, pos, ◌-ℤ◌, arith}
use Rattle.std.specs.Prelude.{slice_index}
use Rattle.hessian_scalars.specs.declared.scalar.Scalar.{Scalar}
use Rattle.hessian_scalars.specs.declared.scalar.Scalar.TheVariants as scalars
use Rattle.hessian_scalars.specs.declared.front.Front.{Front}
use Rattle.hessian_scalars.specs.declared.front.Front.TheVariants as fronts
use Rattle.hessian_scalars.specs.ScalarSpelling.{IsCode, int_of, compact, ScalarSpelling}
use Rattle.hessian_scalars.specs.ScalarSpelling.ScalarSpelling.{int_in_code, int_and_byte, int_and_two, int_whole, long_in_code, long_and_byte, long_and_two, long_as_int}
use Rattle.hessian_scalars.specs.Codes.{front_of}
use Rattle.hessian_scalars.proofs.Whole.{IsBytes}
use Rattle.hessian_scalars.proofs.Fronts.{Shows, shown}

-- ---- an int, by its row

pub int_in_code_front : (bytes : List ℕ) (z : ℤ) → 1 ≤ length bytes → IsCode 0x80 0xbf (slice_index bytes 0) → z ≡ pos (slice_index bytes 0) -ℤ pos 0x90 → ScalarSpelling (scalars.Int z) (take 1 bytes)
int_in_code_front [] z l i e = absurd (omega arith)
int_in_code_front (c ∷ bs) z l i e = int_in_code c z i e

pub int_and_byte_front : (bytes : List ℕ) (z : ℤ) → 2 ≤ length bytes → IsBytes bytes → IsCode 0xc0 0xcf (slice_index bytes 0) → z ≡ compact 0xc8 (slice_index bytes 0) 256 (slice_index bytes 1) → ScalarSpelling (scalars.Int z) (take 2 bytes)
int_and_byte_front [] z l f i e = absurd (omega arith)
int_and_byte_front (c ∷ []) z l f i e = absurd (omega arith)
int_and_byte_front (c ∷ b0 ∷ bs) z l f i e = int_and_byte c b0 z i (f 1) e

pub int_and_two_front : (bytes : List ℕ) (z : ℤ) → 3 ≤ length bytes → IsBytes bytes → IsCode 0xd0 0xd7 (slice_index bytes 0) → z ≡ compact 0xd4 (slice_index bytes 0) 65536 (slice_index bytes 1 * 256 + slice_index bytes 2) → ScalarSpelling (scalars.Int z) (take 3 bytes)
int_and_two_front [] z l f i e = absurd (omega arith)
int_and_two_front (c ∷ []) z l f i e = absurd (omega arith)
int_and_two_front (c ∷ b1 ∷ []) z l f i e = absurd (omega arith)
int_and_two_front (c ∷ b1 ∷ b0 ∷ bs) z l f i e = int_and_two c b1 b0 z i (f 1) (f 2) e

pub int_whole_front : (bytes : List ℕ) (z : ℤ) → 5 ≤ length bytes → IsBytes bytes → slice_index bytes 0 ≡ 0x49 → z ≡ int_of (slice_index bytes 1 ∷ slice_index bytes 2 ∷ slice_index bytes 3 ∷ slice_index bytes 4 ∷ []) → ScalarSpelling (scalars.Int z) (take 5 bytes)
int_whole_front [] z l f i e = absurd (omega arith)
int_whole_front (c ∷ []) z l f i e = absurd (omega arith)
int_whole_front (c ∷ b3 ∷ []) z l f i e = absurd (omega arith)
int_whole_front (c ∷ b3 ∷ b2 ∷ []) z l f i e = absurd (omega arith)
int_whole_front (c ∷ b3 ∷ b2 ∷ b1 ∷ []) z l f i e = absurd (omega arith)
int_whole_front (c ∷ b3 ∷ b2 ∷ b1 ∷ b0 ∷ bs) z l f i e = rw i (int_whole b3 b2 b1 b0 z (record { highest = f 1; high = f 2; low = f 3; lowest = f 4 }) e)

-- ---- a long, by its row

pub long_in_code_front : (bytes : List ℕ) (z : ℤ) → 1 ≤ length bytes → IsCode 0xd8 0xef (slice_index bytes 0) → z ≡ pos (slice_index bytes 0) -ℤ pos 0xe0 → ScalarSpelling (scalars.Long z) (take 1 bytes)
long_in_code_front [] z l i e = absurd (omega arith)
long_in_code_front (c ∷ bs) z l i e = long_in_code c z i e

pub long_and_byte_front : (bytes : List ℕ) (z : ℤ) → 2 ≤ length bytes → IsBytes bytes → IsCode 0xf0 0xff (slice_index bytes 0) → z ≡ compact 0xf8 (slice_index bytes 0) 256 (slice_index bytes 1) → ScalarSpelling (scalars.Long z) (take 2 bytes)
long_and_byte_front [] z l f i e = absurd (omega arith)
long_and_byte_front (c ∷ []) z l f i e = absurd (omega arith)
long_and_byte_front (c ∷ b0 ∷ bs) z l f i e = long_and_byte c b0 z i (f 1) e

pub long_and_two_front : (bytes : List ℕ) (z : ℤ) → 3 ≤ length bytes → IsBytes bytes → IsCode 0x38 0x3f (slice_index bytes 0) → z ≡ compact 0x3c (slice_index bytes 0) 65536 (slice_index bytes 1 * 256 + slice_index bytes 2) → ScalarSpelling (scalars.Long z) (take 3 bytes)
long_and_two_front [] z l f i e = absurd (omega arith)
long_and_two_front (c ∷ []) z l f i e = absurd (omega arith)
long_and_two_front (c ∷ b1 ∷ []) z l f i e = absurd (omega arith)
long_and_two_front (c ∷ b1 ∷ b0 ∷ bs) z l f i e = long_and_two c b1 b0 z i (f 1) (f 2) e

pub long_as_int_front : (bytes : List ℕ) (z : ℤ) → 5 ≤ length bytes → IsBytes bytes → slice_index bytes 0 ≡ 0x59 → z ≡ int_of (slice_index bytes 1 ∷ slice_index bytes 2 ∷ slice_index bytes 3 ∷ slice_index bytes 4 ∷ []) → ScalarSpelling (scalars.Long z) (take 5 bytes)
long_as_int_front [] z l f i e = absurd (omega arith)
long_as_int_front (c ∷ []) z l f i e = absurd (omega arith)
long_as_int_front (c ∷ b3 ∷ []) z l f i e = absurd (omega arith)
long_as_int_front (c ∷ b3 ∷ b2 ∷ []) z l f i e = absurd (omega arith)
long_as_int_front (c ∷ b3 ∷ b2 ∷ b1 ∷ []) z l f i e = absurd (omega arith)
long_as_int_front (c ∷ b3 ∷ b2 ∷ b1 ∷ b0 ∷ bs) z l f i e = rw i (long_as_int b3 b2 b1 b0 z (record { highest = f 1; high = f 2; low = f 3; lowest = f 4 }) e)

-- ---- what is found at the front

-- what is found whole is spelled there
whole_by : (bytes : List ℕ) (f : Front) (v : Scalar) (len : ℕ) → Shows bytes f → f ≡ fronts.Whole v len → ScalarSpelling v (take len bytes)
whole_by bytes (fronts.Whole w n) v len s e =
    let value : w ≡ v = cc in
    let count : n ≡ len = cc in
    rw (← value, ← count) s.1
whole_by bytes fronts.Part v len s e = absurd cc
whole_by bytes (fronts.Double c) v len s e = absurd cc
whole_by bytes (fronts.Other c) v len s e = absurd cc

pub whole_front : (bytes : List ℕ) (v : Scalar) (len : ℕ) → IsBytes bytes → front_of bytes ≡ fronts.Whole v len → ScalarSpelling v (take len bytes)
whole_front bytes v len f e = whole_by bytes (front_of bytes) v len (shown bytes f) e
