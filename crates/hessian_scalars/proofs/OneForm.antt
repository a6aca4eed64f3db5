-- A value has one spelling of each length, and so one shortest.
use Rattle.std.proofs.Common.{◌≡◌, ℕ, ◌^◌, ◌<◌, Bool, List, [], ◌∷◌, length, ℤ, pos, ◌*ℤ◌, refl, sym, ap, ◌∙◌, arith}
use Rattle.std.proofs.lemmas.Int.{ints, of_z-to_z}
use Rattle.std.proofs.lemmas.Nat.{be_bytes_4, be_bytes_8}
use Rattle.std.specs.Int.{w32, w64, from_be_bytes, to_be_bytes, cast_unsigned}
use Rattle.hessian_scalars.specs.declared.scalar.Scalar.{Scalar}
use Rattle.hessian_scalars.specs.declared.scalar.Scalar.TheVariants as scalars
use Rattle.hessian_scalars.specs.ScalarSpelling.{AreBytes, int_of, long_of, ScalarSpelling}
use Rattle.hessian_scalars.specs.ScalarSpelling.ScalarSpelling.{null, no, yes, int_in_code, int_and_byte, int_and_two, int_whole, long_in_code, long_and_byte, long_and_two, long_as_int, long_whole, date_in_millis, date_in_minutes}
use Rattle.hessian_scalars.specs.Written.{IsShortest}
use Rattle.hessian_scalars.proofs.Bytes.{IsBytes-nil, IsBytes-four}

-- ---- the bytes of a number are known from it

four_known : (b3 b2 b1 b0 : ℕ) (z : ℤ) → AreBytes b3 b2 b1 b0 → z ≡ int_of (b3 ∷ b2 ∷ b1 ∷ b0 ∷ []) → to_be_bytes w32 (cast_unsigned w32 z) ≡ b3 ∷ b2 ∷ b1 ∷ b0 ∷ []
four_known b3 b2 b1 b0 z f e =
    let below : from_be_bytes w32 (b3 ∷ b2 ∷ b1 ∷ b0 ∷ []) < 2 ^ 32 = omega (arith, f.highest, f.high, f.low, f.lowest) in
    be_bytes_4 (b3 ∷ b2 ∷ b1 ∷ b0 ∷ []) (cast_unsigned w32 z) refl (IsBytes-four b3 b2 b1 b0 [] f IsBytes-nil) (ap (cast_unsigned w32) e ∙ of_z-to_z w32 _ below)

eight_known : (b7 b6 b5 b4 b3 b2 b1 b0 : ℕ) (z : ℤ) → AreBytes b7 b6 b5 b4 → AreBytes b3 b2 b1 b0 → z ≡ long_of (b7 ∷ b6 ∷ b5 ∷ b4 ∷ b3 ∷ b2 ∷ b1 ∷ b0 ∷ []) → to_be_bytes w64 (cast_unsigned w64 z) ≡ b7 ∷ b6 ∷ b5 ∷ b4 ∷ b3 ∷ b2 ∷ b1 ∷ b0 ∷ []
eight_known b7 b6 b5 b4 b3 b2 b1 b0 z g f e =
    let below : from_be_bytes w64 (b7 ∷ b6 ∷ b5 ∷ b4 ∷ b3 ∷ b2 ∷ b1 ∷ b0 ∷ []) < 2 ^ 64 = omega (arith, g.highest, g.high, g.low, g.lowest, f.highest, f.high, f.low, f.lowest) in
    be_bytes_8 (b7 ∷ b6 ∷ b5 ∷ b4 ∷ b3 ∷ b2 ∷ b1 ∷ b0 ∷ []) (cast_unsigned w64 z) refl (IsBytes-four b7 b6 b5 b4 (b3 ∷ b2 ∷ b1 ∷ b0 ∷ []) g (IsBytes-four b3 b2 b1 b0 [] f IsBytes-nil)) (ap (cast_unsigned w64) e ∙ of_z-to_z w64 _ below)

behind : (c : ℕ) (a b x : List ℕ) → x ≡ a → x ≡ b → c ∷ a ≡ c ∷ b
behind c a b x p q = ap (λ (l : List ℕ). c ∷ l) (sym p ∙ q)

minutes_known : (m n : ℤ) → m *ℤ pos 60000 ≡ n *ℤ pos 60000 → m ≡ n
minutes_known m n e = omega (arith, ints)

-- ---- two spellings of one length

same_int : (z : ℤ) (a b : List ℕ) → ScalarSpelling (scalars.Int z) a → ScalarSpelling (scalars.Int z) b → length a ≡ length b → a ≡ b
same_int z a b (int_in_code c1 z1 i1 e1) (int_in_code c2 z2 i2 e2) h = let code : c1 ≡ c2 = omega (arith, ints) in ap (λ (x : ℕ). x ∷ []) code
same_int z a b (int_in_code c1 z1 i1 e1) (int_and_byte c2 b02 z2 i2 l2 e2) h = absurd (omega arith)
same_int z a b (int_in_code c1 z1 i1 e1) (int_and_two c2 b12 b02 z2 i2 k2 l2 e2) h = absurd (omega arith)
same_int z a b (int_in_code c1 z1 i1 e1) (int_whole b32 b22 b12 b02 z2 f2 e2) h = absurd (omega arith)
same_int z a b (int_and_byte c1 b01 z1 i1 l1 e1) (int_in_code c2 z2 i2 e2) h = absurd (omega arith)
same_int z a b (int_and_byte c1 b01 z1 i1 l1 e1) (int_and_byte c2 b02 z2 i2 l2 e2) h = let code : c1 ≡ c2 = omega (arith, ints) in let low : b01 ≡ b02 = omega (arith, ints) in cc
same_int z a b (int_and_byte c1 b01 z1 i1 l1 e1) (int_and_two c2 b12 b02 z2 i2 k2 l2 e2) h = absurd (omega arith)
same_int z a b (int_and_byte c1 b01 z1 i1 l1 e1) (int_whole b32 b22 b12 b02 z2 f2 e2) h = absurd (omega arith)
same_int z a b (int_and_two c1 b11 b01 z1 i1 k1 l1 e1) (int_in_code c2 z2 i2 e2) h = absurd (omega arith)
same_int z a b (int_and_two c1 b11 b01 z1 i1 k1 l1 e1) (int_and_byte c2 b02 z2 i2 l2 e2) h = absurd (omega arith)
same_int z a b (int_and_two c1 b11 b01 z1 i1 k1 l1 e1) (int_and_two c2 b12 b02 z2 i2 k2 l2 e2) h = let code : c1 ≡ c2 = omega (arith, ints) in let high : b11 ≡ b12 = omega (arith, ints) in let low : b01 ≡ b02 = omega (arith, ints) in cc
same_int z a b (int_and_two c1 b11 b01 z1 i1 k1 l1 e1) (int_whole b32 b22 b12 b02 z2 f2 e2) h = absurd (omega arith)
same_int z a b (int_whole b31 b21 b11 b01 z1 f1 e1) (int_in_code c2 z2 i2 e2) h = absurd (omega arith)
same_int z a b (int_whole b31 b21 b11 b01 z1 f1 e1) (int_and_byte c2 b02 z2 i2 l2 e2) h = absurd (omega arith)
same_int z a b (int_whole b31 b21 b11 b01 z1 f1 e1) (int_and_two c2 b12 b02 z2 i2 k2 l2 e2) h = absurd (omega arith)
same_int z a b (int_whole b31 b21 b11 b01 z1 f1 e1) (int_whole b32 b22 b12 b02 z2 f2 e2) h = behind 0x49 _ _ _ (four_known b31 b21 b11 b01 _ f1 e1) (four_known b32 b22 b12 b02 _ f2 e2)

same_long : (z : ℤ) (a b : List ℕ) → ScalarSpelling (scalars.Long z) a → ScalarSpelling (scalars.Long z) b → length a ≡ length b → a ≡ b
same_long z a b (long_in_code c1 z1 i1 e1) (long_in_code c2 z2 i2 e2) h = let code : c1 ≡ c2 = omega (arith, ints) in ap (λ (x : ℕ). x ∷ []) code
same_long z a b (long_in_code c1 z1 i1 e1) (long_and_byte c2 b02 z2 i2 l2 e2) h = absurd (omega arith)
same_long z a b (long_in_code c1 z1 i1 e1) (long_and_two c2 b12 b02 z2 i2 k2 l2 e2) h = absurd (omega arith)
same_long z a b (long_in_code c1 z1 i1 e1) (long_as_int b32 b22 b12 b02 z2 f2 e2) h = absurd (omega arith)
same_long z a b (long_in_code c1 z1 i1 e1) (long_whole b72 b62 b52 b42 b32 b22 b12 b02 z2 g2 f2 e2) h = absurd (omega arith)
same_long z a b (long_and_byte c1 b01 z1 i1 l1 e1) (long_in_code c2 z2 i2 e2) h = absurd (omega arith)
same_long z a b (long_and_byte c1 b01 z1 i1 l1 e1) (long_and_byte c2 b02 z2 i2 l2 e2) h = let code : c1 ≡ c2 = omega (arith, ints) in let low : b01 ≡ b02 = omega (arith, ints) in cc
same_long z a b (long_and_byte c1 b01 z1 i1 l1 e1) (long_and_two c2 b12 b02 z2 i2 k2 l2 e2) h = absurd (omega arith)
same_long z a b (long_and_byte c1 b01 z1 i1 l1 e1) (long_as_int b32 b22 b12 b02 z2 f2 e2) h = absurd (omega arith)
same_long z a b (long_and_byte c1 b01 z1 i1 l1 e1) (long_whole b72 b62 b52 b42 b32 b22 b12 b02 z2 g2 f2 e2) h = absurd (omega arith)
same_long z a b (long_and_two c1 b11 b01 z1 i1 k1 l1 e1) (long_in_code c2 z2 i2 e2) h = absurd (omega arith)
same_long z a b (long_and_two c1 b11 b01 z1 i1 k1 l1 e1) (long_and_byte c2 b02 z2 i2 l2 e2) h = absurd (omega arith)
same_long z a b (long_and_two c1 b11 b01 z1 i1 k1 l1 e1) (long_and_two c2 b12 b02 z2 i2 k2 l2 e2) h = let code : c1 ≡ c2 = omega (arith, ints) in let high : b11 ≡ b12 = omega (arith, ints) in let low : b01 ≡ b02 = omega (arith, ints) in cc
same_long z a b (long_and_two c1 b11 b01 z1 i1 k1 l1 e1) (long_as_int b32 b22 b12 b02 z2 f2 e2) h = absurd (omega arith)
same_long z a b (long_and_two c1 b11 b01 z1 i1 k1 l1 e1) (long_whole b72 b62 b52 b42 b32 b22 b12 b02 z2 g2 f2 e2) h = absurd (omega arith)
same_long z a b (long_as_int b31 b21 b11 b01 z1 f1 e1) (long_in_code c2 z2 i2 e2) h = absurd (omega arith)
same_long z a b (long_as_int b31 b21 b11 b01 z1 f1 e1) (long_and_byte c2 b02 z2 i2 l2 e2) h = absurd (omega arith)
same_long z a b (long_as_int b31 b21 b11 b01 z1 f1 e1) (long_and_two c2 b12 b02 z2 i2 k2 l2 e2) h = absurd (omega arith)
same_long z a b (long_as_int b31 b21 b11 b01 z1 f1 e1) (long_as_int b32 b22 b12 b02 z2 f2 e2) h = behind 0x59 _ _ _ (four_known b31 b21 b11 b01 _ f1 e1) (four_known b32 b22 b12 b02 _ f2 e2)
same_long z a b (long_as_int b31 b21 b11 b01 z1 f1 e1) (long_whole b72 b62 b52 b42 b32 b22 b12 b02 z2 g2 f2 e2) h = absurd (omega arith)
same_long z a b (long_whole b71 b61 b51 b41 b31 b21 b11 b01 z1 g1 f1 e1) (long_in_code c2 z2 i2 e2) h = absurd (omega arith)
same_long z a b (long_whole b71 b61 b51 b41 b31 b21 b11 b01 z1 g1 f1 e1) (long_and_byte c2 b02 z2 i2 l2 e2) h = absurd (omega arith)
same_long z a b (long_whole b71 b61 b51 b41 b31 b21 b11 b01 z1 g1 f1 e1) (long_and_two c2 b12 b02 z2 i2 k2 l2 e2) h = absurd (omega arith)
same_long z a b (long_whole b71 b61 b51 b41 b31 b21 b11 b01 z1 g1 f1 e1) (long_as_int b32 b22 b12 b02 z2 f2 e2) h = absurd (omega arith)
same_long z a b (long_whole b71 b61 b51 b41 b31 b21 b11 b01 z1 g1 f1 e1) (long_whole b72 b62 b52 b42 b32 b22 b12 b02 z2 g2 f2 e2) h = behind 0x4c _ _ _ (eight_known b71 b61 b51 b41 b31 b21 b11 b01 _ g1 f1 e1) (eight_known b72 b62 b52 b42 b32 b22 b12 b02 _ g2 f2 e2)

same_date : (z : ℤ) (a b : List ℕ) → ScalarSpelling (scalars.Date z) a → ScalarSpelling (scalars.Date z) b → length a ≡ length b → a ≡ b
same_date z a b (date_in_minutes b31 b21 b11 b01 z1 f1 e1) (date_in_minutes b32 b22 b12 b02 z2 f2 e2) h = behind 0x4b _ _ _ (four_known b31 b21 b11 b01 _ f1 refl) (four_known b32 b22 b12 b02 _ f2 (minutes_known (int_of (b31 ∷ b21 ∷ b11 ∷ b01 ∷ [])) (int_of (b32 ∷ b22 ∷ b12 ∷ b02 ∷ [])) (sym e1 ∙ e2)))
same_date z a b (date_in_minutes b31 b21 b11 b01 z1 f1 e1) (date_in_millis b72 b62 b52 b42 b32 b22 b12 b02 z2 g2 f2 e2) h = absurd (omega arith)
same_date z a b (date_in_millis b71 b61 b51 b41 b31 b21 b11 b01 z1 g1 f1 e1) (date_in_minutes b32 b22 b12 b02 z2 f2 e2) h = absurd (omega arith)
same_date z a b (date_in_millis b71 b61 b51 b41 b31 b21 b11 b01 z1 g1 f1 e1) (date_in_millis b72 b62 b52 b42 b32 b22 b12 b02 z2 g2 f2 e2) h = behind 0x4a _ _ _ (eight_known b71 b61 b51 b41 b31 b21 b11 b01 _ g1 f1 e1) (eight_known b72 b62 b52 b42 b32 b22 b12 b02 _ g2 f2 e2)

same_null : (a b : List ℕ) → ScalarSpelling scalars.Null a → ScalarSpelling scalars.Null b → a ≡ b
same_null a b null null = refl

same_bool : (x : Bool) (a b : List ℕ) → ScalarSpelling (scalars.Bool x) a → ScalarSpelling (scalars.Bool x) b → a ≡ b
same_bool x a b no no = refl
same_bool x a b yes yes = refl

same_form : (v : Scalar) (a b : List ℕ) → ScalarSpelling v a → ScalarSpelling v b → length a ≡ length b → a ≡ b
same_form scalars.Null a b s t h = same_null a b s t
same_form (scalars.Bool x) a b s t h = same_bool x a b s t
same_form (scalars.Int z) a b s t h = same_int z a b s t h
same_form (scalars.Long z) a b s t h = same_long z a b s t h
same_form (scalars.Date z) a b s t h = same_date z a b s t h

pub one_shortest : (v : Scalar) (a b : List ℕ) → IsShortest v a → IsShortest v b → a ≡ b
one_shortest v a b s t = same_form v a b s.spells t.spells (omega (arith, s.shortest b t.spells, t.shortest a s.spells))
