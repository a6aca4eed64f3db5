-- Each scalar has a shortest spelling.
use Rattle.std.proofs.Common.{◌≡◌, ℕ, suc, ◌+◌, ◌-◌, ◌/◌, ◌%◌, ◌<◌, ◌≤◌, Bool, true, false, List, [], ◌∷◌, ℤ, pos, negsuc, ◌+ℤ◌, ◌*ℤ◌, refl, inl, inr, ◌⊎◌, arith}
use Rattle.std.proofs.lemmas.Int.{ints}
use Rattle.std.proofs.lemmas.Bool.{cases_lt, cases_eq}
use Rattle.std.proofs.Math.Nat.{div-add-mod}
use Rattle.std.specs.Int.{w32, w64, to_be_bytes, cast_unsigned}
use Rattle.std.specs.Prelude.{FitsSigned, slice_index}
use Rattle.hessian_scalars.specs.declared.scalar.Scalar.{Scalar}
use Rattle.hessian_scalars.specs.declared.scalar.Scalar.TheVariants as scalars
use Rattle.hessian_scalars.specs.Written.{Appends, IsShortest}
use Rattle.hessian_scalars.proofs.Shortest.{IsWithin, int_in_code_appended, int_and_byte_appended, int_and_two_appended, int_whole_appended}
use Rattle.hessian_scalars.proofs.ShortestLongs.{long_in_code_appended, long_and_byte_appended, long_and_two_appended, long_as_int_appended, long_whole_appended}
use Rattle.hessian_scalars.proofs.ShortestOthers.{date_in_millis_appended, date_in_minutes_appended, null_appended, no_appended, yes_appended}

of_appended : (new : List ℕ) (v : Scalar) → Appends [] new v → (bytes : List ℕ) × IsShortest v bytes
of_appended new v a = (a.spelling, a.written)

-- a number is within bounds or not
within_or_not : (a b : ℕ) (z : ℤ) → IsWithin (negsuc a) (pos b) z ⊎ (IsWithin (negsuc a) (pos b) z → ⊥)
within_or_not a b (pos n) = elim (cases_lt b n) [
  | inl above ↦ inr (λ h. let k = h.1 in absurd (omega (arith, ints, above, k)))
  | inr below ↦ inl (omega (arith, ints), omega (arith, ints, below))
]
within_or_not a b (negsuc n) = elim (cases_lt a n) [
  | inl beyond ↦ inr (λ h. let k = h.0 in absurd (omega (arith, ints, beyond, k)))
  | inr inside ↦ inl (omega (arith, ints, inside), omega (arith, ints))
]

-- a number within bounds that is moved up is natural
moved_up : (a b k : ℕ) (z : ℤ) → IsWithin (negsuc a) (pos b) z → a < k → (n : ℕ) × (pos n ≡ z +ℤ pos k)
moved_up a b k (pos n) i h = (n + k, omega (arith, ints))
moved_up a b k (negsuc n) i h = let l = i.0 in (k - suc n, omega (arith, ints, l, h))

pub some_int : (z : ℤ) → FitsSigned w32 z → (bytes : List ℕ) × IsShortest (scalars.Int z) bytes
some_int z fits = elim (within_or_not 15 47 z) [
  | inl one ↦
      let n = moved_up 15 47 0x90 z one (omega arith) in
      of_appended (n.0 ∷ []) (scalars.Int z) (int_in_code_appended [] (n.0 ∷ []) z n.0 one n.1 refl)
  | inr not_one ↦ elim (within_or_not 2047 2047 z) [
    | inl two ↦
        let n = moved_up 2047 2047 0xc800 z two (omega arith) in
        let bytes : List ℕ = to_be_bytes w32 n.0 in
        of_appended (slice_index bytes 2 ∷ slice_index bytes 3 ∷ []) (scalars.Int z) (int_and_byte_appended [] (slice_index bytes 2 ∷ slice_index bytes 3 ∷ []) bytes z n.0 two not_one n.1 refl refl)
    | inr not_two ↦ elim (within_or_not 262143 262143 z) [
      | inl three ↦
          let n = moved_up 262143 262143 0xd40000 z three (omega arith) in
          let bytes : List ℕ = to_be_bytes w32 n.0 in
          of_appended (slice_index bytes 1 ∷ slice_index bytes 2 ∷ slice_index bytes 3 ∷ []) (scalars.Int z) (int_and_two_appended [] (slice_index bytes 1 ∷ slice_index bytes 2 ∷ slice_index bytes 3 ∷ []) bytes z n.0 three not_two n.1 refl refl)
      | inr not_three ↦
          let n : ℕ = cast_unsigned w32 z in
          let bytes : List ℕ = to_be_bytes w32 n in
          let new : List ℕ = 0x49 ∷ slice_index bytes 0 ∷ slice_index bytes 1 ∷ slice_index bytes 2 ∷ slice_index bytes 3 ∷ [] in
          of_appended new (scalars.Int z) (int_whole_appended [] new bytes z n fits not_three refl refl refl)
    ]
  ]
]

fits_32 : (z : ℤ) → IsWithin (negsuc 2147483647) (pos 2147483647) z → FitsSigned w32 z
fits_32 z h = let a = h.0 in let b = h.1 in grind (arith, ints)

beyond_32 : (z : ℤ) → (IsWithin (negsuc 2147483647) (pos 2147483647) z → ⊥) → FitsSigned w32 z → ⊥
beyond_32 z h f = h (grind (arith, ints), grind (arith, ints))

pub some_long : (z : ℤ) → FitsSigned w64 z → (bytes : List ℕ) × IsShortest (scalars.Long z) bytes
some_long z fits = elim (within_or_not 7 15 z) [
  | inl one ↦
      let n = moved_up 7 15 0xe0 z one (omega arith) in
      of_appended (n.0 ∷ []) (scalars.Long z) (long_in_code_appended [] (n.0 ∷ []) z n.0 one n.1 refl)
  | inr not_one ↦ elim (within_or_not 2047 2047 z) [
    | inl two ↦
        let n = moved_up 2047 2047 0xf800 z two (omega arith) in
        let bytes : List ℕ = to_be_bytes w32 n.0 in
        of_appended (slice_index bytes 2 ∷ slice_index bytes 3 ∷ []) (scalars.Long z) (long_and_byte_appended [] (slice_index bytes 2 ∷ slice_index bytes 3 ∷ []) bytes z n.0 two not_one n.1 refl refl)
    | inr not_two ↦ elim (within_or_not 262143 262143 z) [
      | inl three ↦
          let n = moved_up 262143 262143 0x3c0000 z three (omega arith) in
          let bytes : List ℕ = to_be_bytes w32 n.0 in
          of_appended (slice_index bytes 1 ∷ slice_index bytes 2 ∷ slice_index bytes 3 ∷ []) (scalars.Long z) (long_and_two_appended [] (slice_index bytes 1 ∷ slice_index bytes 2 ∷ slice_index bytes 3 ∷ []) bytes z n.0 three not_two n.1 refl refl)
      | inr not_three ↦ elim (within_or_not 2147483647 2147483647 z) [
        | inl five ↦
            let n : ℕ = cast_unsigned w32 z in
            let bytes : List ℕ = to_be_bytes w32 n in
            let new : List ℕ = 0x59 ∷ slice_index bytes 0 ∷ slice_index bytes 1 ∷ slice_index bytes 2 ∷ slice_index bytes 3 ∷ [] in
            of_appended new (scalars.Long z) (long_as_int_appended [] new bytes z n (fits_32 z five) not_three refl refl refl)
        | inr not_five ↦
            let n : ℕ = cast_unsigned w64 z in
            let bytes : List ℕ = to_be_bytes w64 n in
            let new : List ℕ = 0x4c ∷ slice_index bytes 0 ∷ slice_index bytes 1 ∷ slice_index bytes 2 ∷ slice_index bytes 3 ∷ slice_index bytes 4 ∷ slice_index bytes 5 ∷ slice_index bytes 6 ∷ slice_index bytes 7 ∷ [] in
            of_appended new (scalars.Long z) (long_whole_appended [] new bytes z n fits (beyond_32 z not_five) refl refl refl)
      ]
    ]
  ]
]

-- the whole minutes of a date, where they are a number of 32 bits
abbrev Minutes : ℤ → ℤ → Type 0
Minutes z m = FitsSigned w32 m × (z ≡ m *ℤ pos 60000)

minutes_of : (z : ℤ) → ((m : ℤ) × Minutes z m) ⊎ ((m : ℤ) → FitsSigned w32 m → z ≡ m *ℤ pos 60000 → ⊥)
minutes_of (pos n) =
    let whole = div-add-mod n 60000 in
    elim (cases_eq (n % 60000) 0) [
      | inl none ↦ elim (cases_lt (n / 60000) 2147483648) [
        | inl small ↦ inl (pos (n / 60000), (fits_32 (pos (n / 60000)) (omega (arith, ints), omega (arith, ints, small)), omega (arith, ints, whole, none)))
        | inr large ↦ inr (λ m f e. beyond (n / 60000) m large f (omega (arith, ints, whole, none, e)))
      ]
      | inr some ↦ inr (λ m f e. absurd (omega (arith, ints, whole, some, e)))
    ]
  where
    beyond : (q : ℕ) (m : ℤ) → 2147483648 ≤ q → FitsSigned w32 m → m ≡ pos q → ⊥
    beyond q m h f e = grind (arith, ints)
minutes_of (negsuc n) =
    let whole = div-add-mod (suc n) 60000 in
    elim (cases_eq (suc n % 60000) 0) [
      | inl none ↦ elim (cases_lt (suc n / 60000) 2147483649) [
        | inl small ↦
            let q : ℕ = suc n / 60000 in
            let some : 0 < q = omega (arith, whole, none) in
            inl (negsuc (q - 1), (fits_32 (negsuc (q - 1)) (omega (arith, ints, small, some), omega (arith, ints)), omega (arith, ints, whole, none, some)))
        | inr large ↦ inr (λ m f e. beyond (suc n / 60000) m large f (omega (arith, ints, whole, none, e)))
      ]
      | inr some ↦ inr (λ m f e. absurd (omega (arith, ints, whole, some, e)))
    ]
  where
    beyond : (q : ℕ) (m : ℤ) → 2147483649 ≤ q → FitsSigned w32 m → m +ℤ pos q ≡ pos 0 → ⊥
    beyond q m h f e = grind (arith, ints)

pub some_date : (z : ℤ) → FitsSigned w64 z → (bytes : List ℕ) × IsShortest (scalars.Date z) bytes
some_date z fits = elim (minutes_of z) [
  | inl m ↦
      let n : ℕ = cast_unsigned w32 m.0 in
      let bytes : List ℕ = to_be_bytes w32 n in
      let new : List ℕ = 0x4b ∷ slice_index bytes 0 ∷ slice_index bytes 1 ∷ slice_index bytes 2 ∷ slice_index bytes 3 ∷ [] in
      of_appended new (scalars.Date z) (date_in_minutes_appended [] new bytes z m.0 n m.1.0 m.1.1 refl refl refl)
  | inr none ↦
      let n : ℕ = cast_unsigned w64 z in
      let bytes : List ℕ = to_be_bytes w64 n in
      let new : List ℕ = 0x4a ∷ slice_index bytes 0 ∷ slice_index bytes 1 ∷ slice_index bytes 2 ∷ slice_index bytes 3 ∷ slice_index bytes 4 ∷ slice_index bytes 5 ∷ slice_index bytes 6 ∷ slice_index bytes 7 ∷ [] in
      of_appended new (scalars.Date z) (date_in_millis_appended [] new bytes z n fits none refl refl refl)
]

pub some_null : (bytes : List ℕ) × IsShortest scalars.Null bytes
some_null = of_appended (0x4e ∷ []) scalars.Null (null_appended [] (0x4e ∷ []) scalars.Null refl refl)

pub some_bool : (b : Bool) → (bytes : List ℕ) × IsShortest (scalars.Bool b) bytes
some_bool true = of_appended (0x54 ∷ []) (scalars.Bool true) (yes_appended [] (0x54 ∷ []) (scalars.Bool true) refl refl)
some_bool false = of_appended (0x46 ∷ []) (scalars.Bool false) (no_appended [] (0x46 ∷ []) (scalars.Bool false) refl refl)

-- a number that an int counts
pub some_count : (n : ℕ) → n < 2147483648 → (bytes : List ℕ) × IsShortest (scalars.Int (pos n)) bytes
some_count n h = some_int (pos n) (fits_32 (pos n) (omega (arith, ints), omega (arith, ints, h)))
