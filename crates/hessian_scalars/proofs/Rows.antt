-- Each row of the table as a reader goes through it: what its code opens, and the value of its bytes.
use Rattle.std.proofs.Common.{◌≡◌, ℕ, ◌+◌, ◌*◌, List, [], ◌∷◌, length, pos, ◌-ℤ◌, ◌*ℤ◌, refl, inl, inr, arith}
use Rattle.std.specs.Prelude.{slice_index}
use Rattle.std.proofs.lemmas.Bool.Decides.{nat_tests}
use Rattle.hessian_scalars.specs.declared.scalar.Scalar.{Scalar}
use Rattle.hessian_scalars.specs.declared.scalar.Scalar.TheVariants as scalars
use Rattle.hessian_scalars.specs.declared.code.Opening.TheVariants as openings
use Rattle.hessian_scalars.specs.ScalarSpelling.{IsCode, IsDoubleCode, int_of, long_of, compact, ScalarSpelling}
use Rattle.hessian_scalars.specs.ScalarSpelling.ScalarSpelling.{null, no, yes, int_in_code, int_and_byte, int_and_two, int_whole, long_in_code, long_and_byte, long_and_two, long_as_int, long_whole, date_in_millis, date_in_minutes}
use Rattle.hessian_scalars.specs.Codes.{opening_of, value_of}

-- ---- what the codes of a range open

opens_int_in_code : (c : ℕ) → IsCode 0x80 0xbf c → opening_of c ≡ openings.Spelling 1
unfolding opening_of
opens_int_in_code c i = grind (arith, nat_tests, i.above, i.below)

opens_int_and_byte : (c : ℕ) → IsCode 0xc0 0xcf c → opening_of c ≡ openings.Spelling 2
unfolding opening_of
opens_int_and_byte c i = grind (arith, nat_tests, i.above, i.below)

opens_int_and_two : (c : ℕ) → IsCode 0xd0 0xd7 c → opening_of c ≡ openings.Spelling 3
unfolding opening_of
opens_int_and_two c i = grind (arith, nat_tests, i.above, i.below)

opens_long_in_code : (c : ℕ) → IsCode 0xd8 0xef c → opening_of c ≡ openings.Spelling 1
unfolding opening_of
opens_long_in_code c i = grind (arith, nat_tests, i.above, i.below)

opens_long_and_byte : (c : ℕ) → IsCode 0xf0 0xff c → opening_of c ≡ openings.Spelling 2
unfolding opening_of
opens_long_and_byte c i = grind (arith, nat_tests, i.above, i.below)

opens_long_and_two : (c : ℕ) → IsCode 0x38 0x3f c → opening_of c ≡ openings.Spelling 3
unfolding opening_of
opens_long_and_two c i = grind (arith, nat_tests, i.above, i.below)

opens_late_double : (c : ℕ) → IsCode 0x5b 0x5f c → opening_of c ≡ openings.Double
unfolding opening_of
opens_late_double c i = grind (arith, nat_tests, i.above, i.below)

pub opens_double : (c : ℕ) → IsDoubleCode c → opening_of c ≡ openings.Double
unfolding opening_of
opens_double c (inl e) = rw e refl
opens_double c (inr i) = opens_late_double c i

-- ---- the values of the rows

pub value_int_in_code : (c : ℕ) → IsCode 0x80 0xbf c → value_of (c ∷ []) ≡ scalars.Int (pos c -ℤ pos 0x90)
unfolding value_of
value_int_in_code c i = grind (arith, nat_tests, i.above, i.below)

pub value_int_and_byte : (c b0 : ℕ) → IsCode 0xc0 0xcf c → value_of (c ∷ b0 ∷ []) ≡ scalars.Int (compact 0xc8 c 256 b0)
unfolding value_of
value_int_and_byte c b0 i = grind (arith, nat_tests, i.above, i.below)

pub value_int_and_two : (c b1 b0 : ℕ) → IsCode 0xd0 0xd7 c → value_of (c ∷ b1 ∷ b0 ∷ []) ≡ scalars.Int (compact 0xd4 c 65536 (b1 * 256 + b0))
unfolding value_of
value_int_and_two c b1 b0 i = grind (arith, nat_tests, i.above, i.below)

pub value_long_in_code : (c : ℕ) → IsCode 0xd8 0xef c → value_of (c ∷ []) ≡ scalars.Long (pos c -ℤ pos 0xe0)
unfolding value_of
value_long_in_code c i = grind (arith, nat_tests, i.above, i.below)

pub value_long_and_byte : (c b0 : ℕ) → IsCode 0xf0 0xff c → value_of (c ∷ b0 ∷ []) ≡ scalars.Long (compact 0xf8 c 256 b0)
unfolding value_of
value_long_and_byte c b0 i = grind (arith, nat_tests, i.above, i.below)

pub value_long_and_two : (c b1 b0 : ℕ) → IsCode 0x38 0x3f c → value_of (c ∷ b1 ∷ b0 ∷ []) ≡ scalars.Long (compact 0x3c c 65536 (b1 * 256 + b0))
unfolding value_of
value_long_and_two c b1 b0 i = grind (arith, nat_tests, i.above, i.below)

pub value_int_whole : (b3 b2 b1 b0 : ℕ) → value_of (0x49 ∷ b3 ∷ b2 ∷ b1 ∷ b0 ∷ []) ≡ scalars.Int (int_of (b3 ∷ b2 ∷ b1 ∷ b0 ∷ []))
unfolding value_of
value_int_whole b3 b2 b1 b0 = refl

pub value_long_as_int : (b3 b2 b1 b0 : ℕ) → value_of (0x59 ∷ b3 ∷ b2 ∷ b1 ∷ b0 ∷ []) ≡ scalars.Long (int_of (b3 ∷ b2 ∷ b1 ∷ b0 ∷ []))
unfolding value_of
value_long_as_int b3 b2 b1 b0 = refl

pub value_date_in_minutes : (b3 b2 b1 b0 : ℕ) → value_of (0x4b ∷ b3 ∷ b2 ∷ b1 ∷ b0 ∷ []) ≡ scalars.Date (int_of (b3 ∷ b2 ∷ b1 ∷ b0 ∷ []) *ℤ pos 60000)
unfolding value_of
value_date_in_minutes b3 b2 b1 b0 = refl

pub value_long_whole : (b7 b6 b5 b4 b3 b2 b1 b0 : ℕ) → value_of (0x4c ∷ b7 ∷ b6 ∷ b5 ∷ b4 ∷ b3 ∷ b2 ∷ b1 ∷ b0 ∷ []) ≡ scalars.Long (long_of (b7 ∷ b6 ∷ b5 ∷ b4 ∷ b3 ∷ b2 ∷ b1 ∷ b0 ∷ []))
unfolding value_of
value_long_whole b7 b6 b5 b4 b3 b2 b1 b0 = refl

pub value_date_in_millis : (b7 b6 b5 b4 b3 b2 b1 b0 : ℕ) → value_of (0x4a ∷ b7 ∷ b6 ∷ b5 ∷ b4 ∷ b3 ∷ b2 ∷ b1 ∷ b0 ∷ []) ≡ scalars.Date (long_of (b7 ∷ b6 ∷ b5 ∷ b4 ∷ b3 ∷ b2 ∷ b1 ∷ b0 ∷ []))
unfolding value_of
value_date_in_millis b7 b6 b5 b4 b3 b2 b1 b0 = refl

-- ---- what is spelled is found

-- the code opens a spelling of this length, and its value is v
pub record IsWhole (v : Scalar) (s : List ℕ) : Type 0 where
  pub opens : opening_of (slice_index s 0) ≡ openings.Spelling (length s)
  pub value : value_of s ≡ v

pub complete : (v : Scalar) (s : List ℕ) → ScalarSpelling v s → IsWhole v s
unfolding opening_of value_of
complete v s null = record { opens = refl; value = refl }
complete v s no = record { opens = refl; value = refl }
complete v s yes = record { opens = refl; value = refl }
complete v s (int_in_code c z i e) = record { opens = opens_int_in_code c i; value = rw e (value_int_in_code c i) }
complete v s (int_and_byte c b0 z i l e) = record { opens = opens_int_and_byte c i; value = rw e (value_int_and_byte c b0 i) }
complete v s (int_and_two c b1 b0 z i k l e) = record { opens = opens_int_and_two c i; value = rw e (value_int_and_two c b1 b0 i) }
complete v s (int_whole b3 b2 b1 b0 z f e) = record { opens = refl; value = rw e refl }
complete v s (long_in_code c z i e) = record { opens = opens_long_in_code c i; value = rw e (value_long_in_code c i) }
complete v s (long_and_byte c b0 z i l e) = record { opens = opens_long_and_byte c i; value = rw e (value_long_and_byte c b0 i) }
complete v s (long_and_two c b1 b0 z i k l e) = record { opens = opens_long_and_two c i; value = rw e (value_long_and_two c b1 b0 i) }
complete v s (long_as_int b3 b2 b1 b0 z f e) = record { opens = refl; value = rw e refl }
complete v s (long_whole b7 b6 b5 b4 b3 b2 b1 b0 z g f e) = record { opens = refl; value = rw e refl }
complete v s (date_in_millis b7 b6 b5 b4 b3 b2 b1 b0 z g f e) = record { opens = refl; value = rw e refl }
complete v s (date_in_minutes b3 b2 b1 b0 z f e) = record { opens = refl; value = rw e refl }
