-- Bytes of the length that their code opens are a spelling.
use Rattle.std.proofs.Common.{◌≡◌, ℕ, suc, ◌<◌, ◌≤◌, Bool, true, false, cond, eqb, List, [], ◌∷◌, length, take, get_or, refl, inl, inr, arith}
use Rattle.std.specs.Int.{is_in_range}
use Rattle.std.proofs.lemmas.Bool.{eqb-true}
use Rattle.std.proofs.lemmas.List.{length-take}
use Rattle.std.proofs.lemmas.Bool.Decides.{nat_tests}
use Rattle.hessian_scalars.specs.declared.code.Opening.{Opening}
use Rattle.hessian_scalars.specs.declared.code.Opening.TheVariants as openings
use Rattle.hessian_scalars.specs.ScalarSpelling.{IsCode, IsDoubleCode, AreBytes, ScalarSpelling}
use Rattle.hessian_scalars.specs.ScalarSpelling.ScalarSpelling.{null, no, yes, int_in_code, int_and_byte, int_and_two, int_whole, long_in_code, long_and_byte, long_and_two, long_as_int, long_whole, date_in_millis, date_in_minutes}
use Rattle.hessian_scalars.specs.Codes.{IsLength, opening_of, value_of}
use Rattle.hessian_scalars.proofs.Rows.{value_int_in_code, value_int_and_byte, value_int_and_two, value_long_in_code, value_long_and_byte, value_long_and_two}

abbrev pub IsBytes : List ℕ → Type 0
IsBytes bytes = (i : ℕ) → get_or bytes i 0 < 256

pub inside : (lo hi c : ℕ) → is_in_range lo hi c ≡ true → IsCode lo hi c
inside lo hi c e = record { above = grind (arith, nat_tests); below = grind (arith, nat_tests) }

-- ---- a fact of each code, row by row

by_test : (P : Opening → Type 0) (b : Bool) (x y : Opening) → (b ≡ true → P x) → (b ≡ false → P y) → P (cond b x y)
by_test P true x y f g = f refl
by_test P false x y f g = g refl

at_code : (P : ℕ → Opening → Type 0) (k c : ℕ) (o : Opening) → P k o → eqb c k ≡ true → P c o
at_code P k c o p e = rw (eqb-true c k e) p

-- what is to be shown of each row
pub record Rows (P : ℕ → Opening → Type 0) : Type 0 where
  pub ones : (c : ℕ) → IsCode 0x80 0xbf c → P c (openings.Spelling 1)
  pub twos : (c : ℕ) → IsCode 0xc0 0xcf c → P c (openings.Spelling 2)
  pub threes : (c : ℕ) → IsCode 0xd0 0xd7 c → P c (openings.Spelling 3)
  pub long_ones : (c : ℕ) → IsCode 0xd8 0xef c → P c (openings.Spelling 1)
  pub long_twos : (c : ℕ) → IsCode 0xf0 0xff c → P c (openings.Spelling 2)
  pub long_threes : (c : ℕ) → IsCode 0x38 0x3f c → P c (openings.Spelling 3)
  pub int : P 0x49 (openings.Spelling 5)
  pub millis : P 0x4a (openings.Spelling 9)
  pub minutes : P 0x4b (openings.Spelling 5)
  pub long : P 0x4c (openings.Spelling 9)
  pub long_int : P 0x59 (openings.Spelling 5)
  pub f : P 0x46 (openings.Spelling 1)
  pub n : P 0x4e (openings.Spelling 1)
  pub t : P 0x54 (openings.Spelling 1)
  pub doubles : (c : ℕ) → IsDoubleCode c → P c openings.Double
  pub others : (c : ℕ) → P c openings.Nothing

pub by_rows : (P : ℕ → Opening → Type 0) → Rows P → (c : ℕ) → P c (opening_of c)
unfolding opening_of
by_rows P r c =
    by_test (P c) (is_in_range 0x80 0xbf c) _ _ (λ h. r.ones c (inside _ _ c h)) (λ h0.
    by_test (P c) (is_in_range 0xc0 0xcf c) _ _ (λ h. r.twos c (inside _ _ c h)) (λ h1.
    by_test (P c) (is_in_range 0xd0 0xd7 c) _ _ (λ h. r.threes c (inside _ _ c h)) (λ h2.
    by_test (P c) (is_in_range 0xd8 0xef c) _ _ (λ h. r.long_ones c (inside _ _ c h)) (λ h3.
    by_test (P c) (is_in_range 0xf0 0xff c) _ _ (λ h. r.long_twos c (inside _ _ c h)) (λ h4.
    by_test (P c) (is_in_range 0x38 0x3f c) _ _ (λ h. r.long_threes c (inside _ _ c h)) (λ h5.
    by_test (P c) (eqb c 0x49) _ _ (at_code P 0x49 c _ r.int) (λ h6.
    by_test (P c) (eqb c 0x4a) _ _ (at_code P 0x4a c _ r.millis) (λ h7.
    by_test (P c) (eqb c 0x4b) _ _ (at_code P 0x4b c _ r.minutes) (λ h8.
    by_test (P c) (eqb c 0x4c) _ _ (at_code P 0x4c c _ r.long) (λ h9.
    by_test (P c) (eqb c 0x59) _ _ (at_code P 0x59 c _ r.long_int) (λ h10.
    by_test (P c) (eqb c 0x46) _ _ (at_code P 0x46 c _ r.f) (λ h11.
    by_test (P c) (eqb c 0x4e) _ _ (at_code P 0x4e c _ r.n) (λ h12.
    by_test (P c) (eqb c 0x54) _ _ (at_code P 0x54 c _ r.t) (λ h13.
    by_test (P c) (eqb c 0x44) _ _ (λ h. r.doubles c (inl (eqb-true c 0x44 h))) (λ h14.
    by_test (P c) (is_in_range 0x5b 0x5f c) _ _ (λ h. r.doubles c (inr (inside _ _ c h))) (λ h15. r.others c))))))))))))))))

-- ---- the lengths of spellings

pub same_length : (m n : ℕ) → openings.Spelling m ≡ openings.Spelling n → m ≡ n
same_length m n e = cc

pub length_opened : (c len : ℕ) → opening_of c ≡ openings.Spelling len → IsLength len
length_opened c len = by_rows Opened (record {
  ones = λ c i len e. omega (arith, same_length _ _ e);
  twos = λ c i len e. omega (arith, same_length _ _ e);
  threes = λ c i len e. omega (arith, same_length _ _ e);
  long_ones = λ c i len e. omega (arith, same_length _ _ e);
  long_twos = λ c i len e. omega (arith, same_length _ _ e);
  long_threes = λ c i len e. omega (arith, same_length _ _ e);
  int = λ len e. omega (arith, same_length _ _ e);
  millis = λ len e. omega (arith, same_length _ _ e);
  minutes = λ len e. omega (arith, same_length _ _ e);
  long = λ len e. omega (arith, same_length _ _ e);
  long_int = λ len e. omega (arith, same_length _ _ e);
  f = λ len e. omega (arith, same_length _ _ e);
  n = λ len e. omega (arith, same_length _ _ e);
  t = λ len e. omega (arith, same_length _ _ e);
  doubles = λ c d len e. absurd cc;
  others = λ c len e. absurd cc;
}) c len
  where
    Opened : ℕ → Opening → Type 0
    Opened c o = (len : ℕ) → o ≡ openings.Spelling len → IsLength len

-- ---- the shapes of bytes of each length

abbrev Spells : List ℕ → Type 0
Spells bytes = ScalarSpelling (value_of bytes) bytes

of_one : (c : ℕ) (bs : List ℕ) → 1 ≡ suc (length bs) → Spells (c ∷ []) → Spells (c ∷ bs)
of_one c [] e s = s
of_one c (b ∷ bs) e s = absurd (omega arith)

of_two : (c : ℕ) (bs : List ℕ) → 2 ≡ suc (length bs) → IsBytes (c ∷ bs) → ((b0 : ℕ) → b0 < 256 → Spells (c ∷ b0 ∷ [])) → Spells (c ∷ bs)
of_two c [] e fits s = absurd (omega arith)
of_two c (b0 ∷ []) e fits s = s b0 (fits 1)
of_two c (b0 ∷ b ∷ bs) e fits s = absurd (omega arith)

of_three : (c : ℕ) (bs : List ℕ) → 3 ≡ suc (length bs) → IsBytes (c ∷ bs) → ((b1 b0 : ℕ) → b1 < 256 → b0 < 256 → Spells (c ∷ b1 ∷ b0 ∷ [])) → Spells (c ∷ bs)
of_three c [] e fits s = absurd (omega arith)
of_three c (b1 ∷ []) e fits s = absurd (omega arith)
of_three c (b1 ∷ b0 ∷ []) e fits s = s b1 b0 (fits 1) (fits 2)
of_three c (b1 ∷ b0 ∷ b ∷ bs) e fits s = absurd (omega arith)

of_five : (c : ℕ) (bs : List ℕ) → 5 ≡ suc (length bs) → IsBytes (c ∷ bs) → ((b3 b2 b1 b0 : ℕ) → AreBytes b3 b2 b1 b0 → Spells (c ∷ b3 ∷ b2 ∷ b1 ∷ b0 ∷ [])) → Spells (c ∷ bs)
of_five c [] e fits s = absurd (omega arith)
of_five c (b3 ∷ []) e fits s = absurd (omega arith)
of_five c (b3 ∷ b2 ∷ []) e fits s = absurd (omega arith)
of_five c (b3 ∷ b2 ∷ b1 ∷ []) e fits s = absurd (omega arith)
of_five c (b3 ∷ b2 ∷ b1 ∷ b0 ∷ []) e fits s = s b3 b2 b1 b0 (record { highest = fits 1; high = fits 2; low = fits 3; lowest = fits 4 })
of_five c (b3 ∷ b2 ∷ b1 ∷ b0 ∷ b ∷ bs) e fits s = absurd (omega arith)

of_nine : (c : ℕ) (bs : List ℕ) → 9 ≡ suc (length bs) → IsBytes (c ∷ bs) → ((b7 b6 b5 b4 b3 b2 b1 b0 : ℕ) → AreBytes b7 b6 b5 b4 → AreBytes b3 b2 b1 b0 → Spells (c ∷ b7 ∷ b6 ∷ b5 ∷ b4 ∷ b3 ∷ b2 ∷ b1 ∷ b0 ∷ [])) → Spells (c ∷ bs)
of_nine c (b7 ∷ b6 ∷ b5 ∷ b4 ∷ b3 ∷ b2 ∷ b1 ∷ b0 ∷ []) e fits s = s b7 b6 b5 b4 b3 b2 b1 b0 (record { highest = fits 1; high = fits 2; low = fits 3; lowest = fits 4 }) (record { highest = fits 5; high = fits 6; low = fits 7; lowest = fits 8 })
of_nine c (b7 ∷ b6 ∷ b5 ∷ b4 ∷ b3 ∷ b2 ∷ b1 ∷ b0 ∷ b ∷ bs) e fits s = absurd (omega arith)
of_nine c [] e fits s = absurd (omega arith)
of_nine c (b7 ∷ []) e fits s = absurd (omega arith)
of_nine c (b7 ∷ b6 ∷ []) e fits s = absurd (omega arith)
of_nine c (b7 ∷ b6 ∷ b5 ∷ []) e fits s = absurd (omega arith)
of_nine c (b7 ∷ b6 ∷ b5 ∷ b4 ∷ []) e fits s = absurd (omega arith)
of_nine c (b7 ∷ b6 ∷ b5 ∷ b4 ∷ b3 ∷ []) e fits s = absurd (omega arith)
of_nine c (b7 ∷ b6 ∷ b5 ∷ b4 ∷ b3 ∷ b2 ∷ []) e fits s = absurd (omega arith)
of_nine c (b7 ∷ b6 ∷ b5 ∷ b4 ∷ b3 ∷ b2 ∷ b1 ∷ []) e fits s = absurd (omega arith)

pub sound : (c : ℕ) (bs : List ℕ) → opening_of c ≡ openings.Spelling (suc (length bs)) → IsBytes (c ∷ bs) → ScalarSpelling (value_of (c ∷ bs)) (c ∷ bs)
unfolding value_of
sound c bs = by_rows Sound (record {
  ones = λ c i bs e fits. of_one c bs (same_length _ _ e) (rw (value_int_in_code c i) (int_in_code c _ i refl));
  twos = λ c i bs e fits. of_two c bs (same_length _ _ e) fits (λ b0 l. rw (value_int_and_byte c b0 i) (int_and_byte c b0 _ i l refl));
  threes = λ c i bs e fits. of_three c bs (same_length _ _ e) fits (λ b1 b0 k l. rw (value_int_and_two c b1 b0 i) (int_and_two c b1 b0 _ i k l refl));
  long_ones = λ c i bs e fits. of_one c bs (same_length _ _ e) (rw (value_long_in_code c i) (long_in_code c _ i refl));
  long_twos = λ c i bs e fits. of_two c bs (same_length _ _ e) fits (λ b0 l. rw (value_long_and_byte c b0 i) (long_and_byte c b0 _ i l refl));
  long_threes = λ c i bs e fits. of_three c bs (same_length _ _ e) fits (λ b1 b0 k l. rw (value_long_and_two c b1 b0 i) (long_and_two c b1 b0 _ i k l refl));
  int = λ bs e fits. of_five 0x49 bs (same_length _ _ e) fits (λ b3 b2 b1 b0 f. int_whole b3 b2 b1 b0 _ f refl);
  millis = λ bs e fits. of_nine 0x4a bs (same_length _ _ e) fits (λ b7 b6 b5 b4 b3 b2 b1 b0 g f. date_in_millis b7 b6 b5 b4 b3 b2 b1 b0 _ g f refl);
  minutes = λ bs e fits. of_five 0x4b bs (same_length _ _ e) fits (λ b3 b2 b1 b0 f. date_in_minutes b3 b2 b1 b0 _ f refl);
  long = λ bs e fits. of_nine 0x4c bs (same_length _ _ e) fits (λ b7 b6 b5 b4 b3 b2 b1 b0 g f. long_whole b7 b6 b5 b4 b3 b2 b1 b0 _ g f refl);
  long_int = λ bs e fits. of_five 0x59 bs (same_length _ _ e) fits (λ b3 b2 b1 b0 f. long_as_int b3 b2 b1 b0 _ f refl);
  f = λ bs e fits. of_one 0x46 bs (same_length _ _ e) no;
  n = λ bs e fits. of_one 0x4e bs (same_length _ _ e) null;
  t = λ bs e fits. of_one 0x54 bs (same_length _ _ e) yes;
  doubles = λ c d bs e fits. absurd cc;
  others = λ c bs e fits. absurd cc;
}) c bs
  where
    Sound : ℕ → Opening → Type 0
    Sound c o = (bs : List ℕ) → o ≡ openings.Spelling (suc (length bs)) → IsBytes (c ∷ bs) → ScalarSpelling (value_of (c ∷ bs)) (c ∷ bs)

-- as many bytes as a code opens
pub taken_length : (c len : ℕ) (bytes : List ℕ) (o : Opening) → o ≡ opening_of c → o ≡ openings.Spelling len → len ≤ length bytes → IsLength (length (take len bytes))
taken_length c len bytes o e i l =
    let n : length (take len bytes) ≡ len = omega (arith, length-take len bytes) in
    rw n (length_opened c len (cc))
