-- The five shapes of a character's form, as ranges of its bytes.
use Rattle.std.proofs.Common.{◌≡◌, ℕ, ◌+◌, ◌*◌, ◌-◌, ◌/◌, ◌%◌, ◌<◌, ◌≤◌, List, [], ◌∷◌, ◌++◌, length, refl, sym, ap, ◌∙◌, arith, inl, inr, ◌⊎◌}
use Rattle.std.proofs.lemmas.Bool.Decides.{nat_tests}
use Rattle.std.proofs.lemmas.Bool.{cases_lt}
use Rattle.std.specs.Char.{IsScalar}
use Rattle.std.specs.Char.Escape.{encode_utf16}
use Rattle.std.specs.List.{flat_map}
use lib.Utf8.{encode, scalar_cases}
use Rattle.hessian_text.specs.ChunkHead.{IsCode}
use Rattle.hessian_text.specs.Items.{IsCharacter}
use Rattle.hessian_text.specs.Steps.{pair_code}

pub record IsThree (a b c : ℕ) : Type 0 where
  pub first : IsCode 0xe0 0xef a
  pub second : IsCode 0x80 0xbf b
  pub third : IsCode 0x80 0xbf c
  pub least : a ≡ 0xe0 → 0xa0 ≤ b
  pub no_surrogate : a ≡ 0xed → b ≤ 0x9f

pub record IsFour (a b c d : ℕ) : Type 0 where
  pub first : IsCode 0xf0 0xf4 a
  pub second : IsCode 0x80 0xbf b
  pub third : IsCode 0x80 0xbf c
  pub fourth : IsCode 0x80 0xbf d
  pub least : a ≡ 0xf0 → 0x90 ≤ b
  pub most : a ≡ 0xf4 → b ≤ 0x8f

pub record IsPair (a b c d e f : ℕ) : Type 0 where
  pub first : a ≡ 0xed
  pub second : IsCode 0xa0 0xaf b
  pub third : IsCode 0x80 0xbf c
  pub fourth : d ≡ 0xed
  pub fifth : IsCode 0xb0 0xbf e
  pub sixth : IsCode 0x80 0xbf f

pub data Shape : List ℕ → ℕ → List ℕ → Type 0 where
  one : (a : ℕ) → a < 0x80 → Shape (a ∷ []) 1 (a ∷ [])
  two : (a b : ℕ) → IsCode 0xc2 0xdf a → IsCode 0x80 0xbf b → Shape (a ∷ b ∷ []) 1 (a ∷ b ∷ [])
  three : (a b c : ℕ) → IsThree a b c → Shape (a ∷ b ∷ c ∷ []) 1 (a ∷ b ∷ c ∷ [])
  four : (a b c d : ℕ) → IsFour a b c d → Shape (a ∷ b ∷ c ∷ d ∷ []) 2 (a ∷ b ∷ c ∷ d ∷ [])
  surrogates : (a b c d e f : ℕ) (value : List ℕ) → IsPair a b c d e f → value ≡ encode (pair_code b c e f) → Shape value 2 (a ∷ b ∷ c ∷ d ∷ e ∷ f ∷ [])

pub encode_one : (u : ℕ) → u < 0x80 → encode u ≡ u ∷ []
unfolding encode
encode_one u h = grind (arith, nat_tests)

pub encode_two : (u : ℕ) → 0x80 ≤ u → u < 0x800 → encode u ≡ (192 + u / 64) ∷ (128 + u % 64) ∷ []
unfolding encode
encode_two u l h = grind (arith, nat_tests)

pub encode_three : (u : ℕ) → 0x800 ≤ u → u < 0x10000 → encode u ≡ (224 + u / 4096) ∷ (128 + u / 64 % 64) ∷ (128 + u % 64) ∷ []
unfolding encode
encode_three u l h = grind (arith, nat_tests)

pub encode_four : (u : ℕ) → 0x10000 ≤ u → encode u ≡ (240 + u / 262144) ∷ (128 + u / 4096 % 64) ∷ (128 + u / 64 % 64) ∷ (128 + u % 64) ∷ []
unfolding encode
encode_four u l = grind (arith, nat_tests)

pub units_low : (u : ℕ) → u < 0x10000 → encode_utf16 u ≡ u ∷ []
units_low u h = grind (arith, nat_tests)

pub units_high : (u : ℕ) → 0x10000 ≤ u → encode_utf16 u ≡ (0xd800 + (u - 0x10000) / 0x400) ∷ (0xdc00 + (u - 0x10000) % 0x400) ∷ []
units_high u h = grind (arith, nat_tests)

pub list_2 : (a b x y : ℕ) → a ≡ x → b ≡ y → a ∷ b ∷ [] ≡ x ∷ y ∷ []
list_2 a b x y p q = cc

pub list_3 : (a b c x y z : ℕ) → a ≡ x → b ≡ y → c ≡ z → a ∷ b ∷ c ∷ [] ≡ x ∷ y ∷ z ∷ []
list_3 a b c x y z p q r = cc

pub list_4 : (a b c d x y z w : ℕ) → a ≡ x → b ≡ y → c ≡ z → d ≡ w → a ∷ b ∷ c ∷ d ∷ [] ≡ x ∷ y ∷ z ∷ w ∷ []
list_4 a b c d x y z w p q r s = cc

-- the forms of a character below U+10000 are one
form_low : (u : ℕ) (form : List ℕ) → u < 0x10000 → (form ≡ encode u) ⊎ (form ≡ flat_map encode (encode_utf16 u)) → form ≡ encode u
form_low u form h (inl e) = e
form_low u form h (inr e) = e ∙ ap (flat_map encode) (units_low u h) ∙ append_nil (encode u)
  where
    append_nil : (xs : List ℕ) → xs ++ [] ≡ xs
    append_nil [] = refl
    append_nil (x ∷ xs) = ap (λ ys. x ∷ ys) (append_nil xs)

reshape : (v w form g : List ℕ) (n m : ℕ) → v ≡ w → n ≡ m → form ≡ g → Shape w m g → Shape v n form
reshape v w form g n m p q r s = rw (p, q, r) s

shape_one : (u : ℕ) (v form : List ℕ) (n : ℕ) → u < 0x80 → v ≡ encode u → n ≡ length (encode_utf16 u) → form ≡ encode u → Shape v n form
shape_one u v form n h p q r = reshape v (u ∷ []) form (u ∷ []) n 1 (p ∙ encode_one u h) (q ∙ ap length (units_low u (omega arith))) (r ∙ encode_one u h) (one u h)

shape_two : (u : ℕ) (v form : List ℕ) (n : ℕ) → 0x80 ≤ u → u < 0x800 → v ≡ encode u → n ≡ length (encode_utf16 u) → form ≡ encode u → Shape v n form
shape_two u v form n l h p q r = reshape v _ form _ n 1 (p ∙ encode_two u l h) (q ∙ ap length (units_low u (omega arith))) (r ∙ encode_two u l h) (two (192 + u / 64) (128 + u % 64) (record { low = omega arith; high = omega arith }) (record { low = omega arith; high = omega arith }))

shape_three : (u : ℕ) (v form : List ℕ) (n : ℕ) → 0x800 ≤ u → u < 0x10000 → (u < 0xd800) ⊎ ((0xe000 ≤ u) × (u < 0x110000)) → v ≡ encode u → n ≡ length (encode_utf16 u) → form ≡ encode u → Shape v n form
shape_three u v form n l h s p q r = reshape v _ form _ n 1 (p ∙ encode_three u l h) (q ∙ ap length (units_low u (omega arith))) (r ∙ encode_three u l h) (three (224 + u / 4096) (128 + u / 64 % 64) (128 + u % 64) (record { first = record { low = omega arith; high = omega arith }; second = record { low = omega arith; high = omega arith }; third = record { low = omega arith; high = omega arith }; least = λ e. omega arith; no_surrogate = λ e. no_surrogate s e }))
  where
    no_surrogate : (u < 0xd800) ⊎ ((0xe000 ≤ u) × (u < 0x110000)) → 224 + u / 4096 ≡ 0xed → 128 + u / 64 % 64 ≤ 0x9f
    no_surrogate (inl k) e = omega arith
    no_surrogate (inr k) e = omega arith

shape_four : (u : ℕ) (v form : List ℕ) (n : ℕ) → 0x10000 ≤ u → u < 0x110000 → v ≡ encode u → n ≡ length (encode_utf16 u) → form ≡ encode u → Shape v n form
shape_four u v form n l h p q r = reshape v _ form _ n 2 (p ∙ encode_four u l) (q ∙ ap length (units_high u l)) (r ∙ encode_four u l) (four (240 + u / 262144) (128 + u / 4096 % 64) (128 + u / 64 % 64) (128 + u % 64) (record { first = record { low = omega arith; high = omega arith }; second = record { low = omega arith; high = omega arith }; third = record { low = omega arith; high = omega arith }; fourth = record { low = omega arith; high = omega arith }; least = λ e. omega arith; most = λ e. omega arith }))

-- two surrogates, each in its three bytes
pair_form : (high low : ℕ) → 0xd800 ≤ high → high < 0xdc00 → 0xdc00 ≤ low → low < 0xe000 → flat_map encode (high ∷ low ∷ []) ≡ 0xed ∷ (128 + high / 64 % 64) ∷ (128 + high % 64) ∷ 0xed ∷ (128 + low / 64 % 64) ∷ (128 + low % 64) ∷ []
pair_form high low a b c d = rw (encode_three high (omega arith) (omega arith), encode_three low (omega arith) (omega arith)) (let p : 224 + high / 4096 ≡ 0xed = omega arith in let q : 224 + low / 4096 ≡ 0xed = omega arith in rw (p, q) refl)

shape_pair : (u : ℕ) (v form : List ℕ) (n : ℕ) → 0x10000 ≤ u → u < 0x110000 → v ≡ encode u → n ≡ length (encode_utf16 u) → form ≡ flat_map encode (encode_utf16 u) → Shape v n form
shape_pair u v form n l h p q r =
    let high = 0xd800 + (u - 0x10000) / 0x400 in
    let low = 0xdc00 + (u - 0x10000) % 0x400 in
    let is : pair_code (128 + high / 64 % 64) (128 + high % 64) (128 + low / 64 % 64) (128 + low % 64) ≡ u = omega arith in
    reshape v v form _ n 2 refl (q ∙ ap length (units_high u l)) (r ∙ ap (flat_map encode) (units_high u l) ∙ pair_form high low (omega arith) (omega arith) (omega arith) (omega arith)) (surrogates 0xed (128 + high / 64 % 64) (128 + high % 64) 0xed (128 + low / 64 % 64) (128 + low % 64) v (record { first = refl; second = record { low = omega arith; high = omega arith }; third = record { low = omega arith; high = omega arith }; fourth = refl; fifth = record { low = omega arith; high = omega arith }; sixth = record { low = omega arith; high = omega arith } }) (p ∙ ap encode (sym is)))

pub to_shape : (v : List ℕ) (n : ℕ) (form : List ℕ) → IsCharacter v n form → Shape v n form
to_shape v n form i =
    elim (cases_lt i.char 0x80) [
      | inl h ↦ shape_one i.char v form n h i.value_is i.units_are (form_low i.char form (omega arith) i.form_is)
      | inr l ↦ elim (cases_lt i.char 0x800) [
        | inl h ↦ shape_two i.char v form n l h i.value_is i.units_are (form_low i.char form (omega arith) i.form_is)
        | inr l ↦ elim (cases_lt i.char 0x10000) [
          | inl h ↦ shape_three i.char v form n l h (scalar_cases i.char i.scalar) i.value_is i.units_are (form_low i.char form h i.form_is)
          | inr l ↦ elim i.form_is [
            | inl e ↦ shape_four i.char v form n l (high (scalar_cases i.char i.scalar) l) i.value_is i.units_are e
            | inr e ↦ shape_pair i.char v form n l (high (scalar_cases i.char i.scalar) l) i.value_is i.units_are e
          ]
        ]
      ]
    ]
  where
    high : (i.char < 0xd800) ⊎ ((0xe000 ≤ i.char) × (i.char < 0x110000)) → 0x10000 ≤ i.char → i.char < 0x110000
    high (inl k) l = omega arith
    high (inr k) l = omega arith

-- ---- and back

low_scalar : (u : ℕ) → u < 0xd800 → IsScalar u
low_scalar u h = grind (arith, nat_tests)

high_scalar : (u : ℕ) → 0xe000 ≤ u → u < 0x110000 → IsScalar u
high_scalar u l h = grind (arith, nat_tests)

pub of_one : (a : ℕ) → a < 0x80 → IsCharacter (a ∷ []) 1 (a ∷ [])
of_one a h = record { char = a; scalar = low_scalar a (omega arith); value_is = sym (encode_one a h); units_are = sym (ap length (units_low a (omega arith))); form_is = inl (sym (encode_one a h)) }

pub of_two : (a b : ℕ) → IsCode 0xc2 0xdf a → IsCode 0x80 0xbf b → IsCharacter (a ∷ b ∷ []) 1 (a ∷ b ∷ [])
of_two a b p q =
    let u = (a - 0xc0) * 64 + (b - 0x80) in
    let e : a ∷ b ∷ [] ≡ encode u = sym (encode_two u (omega arith) (omega arith) ∙ list_2 _ _ a b (omega arith) (omega arith)) in
    record { char = u; scalar = low_scalar u (omega arith); value_is = e; units_are = sym (ap length (units_low u (omega arith))); form_is = inl e }

three_least : (u a b c : ℕ) → IsThree a b c → u ≡ (a - 0xe0) * 4096 + (b - 0x80) * 64 + (c - 0x80) → 0x800 ≤ u
three_least u a b c t e = grind arith

three_past : (u a b c : ℕ) → IsThree a b c → u ≡ (a - 0xe0) * 4096 + (b - 0x80) * 64 + (c - 0x80) → 0xd800 ≤ u → 0xe000 ≤ u
three_past u a b c t e l = grind arith

four_least : (u a b c d : ℕ) → IsFour a b c d → u ≡ (a - 0xf0) * 262144 + (b - 0x80) * 4096 + (c - 0x80) * 64 + (d - 0x80) → 0x10000 ≤ u
four_least u a b c d t e = grind arith

four_most : (u a b c d : ℕ) → IsFour a b c d → u ≡ (a - 0xf0) * 262144 + (b - 0x80) * 4096 + (c - 0x80) * 64 + (d - 0x80) → u < 0x110000
four_most u a b c d t e = grind arith

three_scalar : (u a b c : ℕ) → IsThree a b c → u ≡ (a - 0xe0) * 4096 + (b - 0x80) * 64 + (c - 0x80) → IsScalar u
three_scalar u a b c t e = elim (cases_lt u 0xd800) [ inl h ↦ low_scalar u h | inr l ↦ high_scalar u (three_past u a b c t e l) (omega arith) ]

pub of_three : (a b c : ℕ) → IsThree a b c → IsCharacter (a ∷ b ∷ c ∷ []) 1 (a ∷ b ∷ c ∷ [])
of_three a b c t =
    let u = (a - 0xe0) * 4096 + (b - 0x80) * 64 + (c - 0x80) in
    let e : a ∷ b ∷ c ∷ [] ≡ encode u = sym (encode_three u (three_least u a b c t refl) (omega arith) ∙ list_3 _ _ _ a b c (omega arith) (omega arith) (omega arith)) in
    record { char = u; scalar = three_scalar u a b c t refl; value_is = e; units_are = sym (ap length (units_low u (omega arith))); form_is = inl e }

pub of_four : (a b c d : ℕ) → IsFour a b c d → IsCharacter (a ∷ b ∷ c ∷ d ∷ []) 2 (a ∷ b ∷ c ∷ d ∷ [])
of_four a b c d t =
    let u = (a - 0xf0) * 262144 + (b - 0x80) * 4096 + (c - 0x80) * 64 + (d - 0x80) in
    let least = four_least u a b c d t refl in
    let most = four_most u a b c d t refl in
    let e : a ∷ b ∷ c ∷ d ∷ [] ≡ encode u = sym (encode_four u least ∙ list_4 _ _ _ _ a b c d (omega arith) (omega arith) (omega arith) (omega arith)) in
    record { char = u; scalar = high_scalar u (omega (arith, least)) most; value_is = e; units_are = sym (ap length (units_high u least)); form_is = inl e }

pub of_pair : (a b c d e f : ℕ) → IsPair a b c d e f → IsCharacter (encode (pair_code b c e f)) 2 (a ∷ b ∷ c ∷ d ∷ e ∷ f ∷ [])
of_pair a b c d e f t =
    let u = pair_code b c e f in
    let high = 0xd800 + (u - 0x10000) / 0x400 in
    let low = 0xdc00 + (u - 0x10000) % 0x400 in
    record { char = u; scalar = high_scalar u (omega arith) (omega arith); value_is = refl; units_are = sym (ap length (units_high u (omega arith))); form_is = inr (six a b c d e f _ _ _ _ t.first (omega arith) (omega arith) t.fourth (omega arith) (omega arith) ∙ sym (ap (flat_map encode) (units_high u (omega arith)) ∙ pair_form high low (omega arith) (omega arith) (omega arith) (omega arith))) }
  where
    six : (a b c d e f x y z w : ℕ) → a ≡ 0xed → b ≡ x → c ≡ y → d ≡ 0xed → e ≡ z → f ≡ w → a ∷ b ∷ c ∷ d ∷ e ∷ f ∷ [] ≡ 0xed ∷ x ∷ y ∷ 0xed ∷ z ∷ w ∷ []
    six a b c d e f x y z w p q r s t u = cc
