-- The writer's spelling of a text of at most 255 bytes is short.
use Rattle.std.proofs.Common.{◌≡◌, ℕ, ◌+◌, ◌*◌, ◌/◌, ◌%◌, ◌<◌, ◌≤◌, List, [], ◌∷◌, length, ap, inl, inr, length-append, arith}
use Rattle.std.specs.Prelude.{encode_utf8_all}
use Rattle.std.specs.Char.Escape.{encode_utf16}
use Rattle.std.specs.List.{flat_map}
use Rattle.std.proofs.Math.Utf8.{encode}
use Rattle.std.proofs.lemmas.Bool.{cases_lt}
use Rattle.std.proofs.lemmas.Bool.Decides.{nat_tests}
use Rattle.std.proofs.lemmas.Str.{length-encode, len_utf8_bounds}
use Rattle.hessian_text.specs.Written.{text_head, by_units, WrittenUnits, WrittenText}
use Rattle.hessian_text.specs.Written.WrittenUnits.{last as last_units, chunk as chunk_units}
use Rattle.hessian_text.proofs.Shapes.{units_low, units_high, encode_four}

-- ---- heads

head_in_code : (n : ℕ) → n < 32 → text_head n ≡ n ∷ []
head_in_code n h = grind (arith, nat_tests)

head_and_byte : (n : ℕ) → 32 ≤ n → n < 1024 → text_head n ≡ (0x30 + n / 256) ∷ n % 256 ∷ []
head_and_byte n l h = grind (arith, nat_tests)

head_short : (n : ℕ) → n < 1024 → length (text_head n) ≤ 2
head_short n few = elim (cases_lt n 32) [
  | inl h ↦ rw (head_in_code n h) (omega arith)
  | inr l ↦ rw (head_and_byte n l few) (omega arith)
]

-- ---- characters

units_of_one : (c : ℕ) → length (encode_utf16 c) ≤ length (encode c)
units_of_one c = elim (cases_lt c 0x10000) [
  | inl h ↦ rw (units_low c h) (omega (arith, length-encode c, (len_utf8_bounds c).0))
  | inr l ↦ rw (units_high c l, encode_four c l) (omega arith)
]

units_few : (cs : List ℕ) → length (flat_map encode_utf16 cs) ≤ length (encode_utf8_all cs)
units_few [] = omega arith
units_few (c ∷ cs) = omega (arith, units_of_one c, units_few cs, length-append (encode_utf16 c) (flat_map encode_utf16 cs), length-append (encode c) (encode_utf8_all cs))

by_units_short : (units : List ℕ) → length (by_units units) ≤ 4 * length units
by_units_short [] = omega arith
by_units_short (u ∷ us) = omega (arith, length-encode u, (len_utf8_bounds u).1, by_units_short us, length-append (encode u) (by_units us))

-- ---- texts

units_written_short : (units written : List ℕ) → length units ≤ 255 → WrittenUnits units written → length written ≤ 1022
units_written_short units written few (last_units u fit) =
    omega (arith, head_short (length units) (omega arith), by_units_short units, length-append (text_head (length units)) (by_units units))
units_written_short units written few (chunk_units u rest n many m more) = absurd (omega arith)

few_units : (text : List ℕ) (written : List ℕ) → length text ≤ 255 → (w : WrittenText text written) → length (flat_map encode_utf16 w.chars) ≤ 255
few_units text written few w = omega (arith, units_few w.chars, ap length w.are_chars)

pub text_short_written : (text written : List ℕ) → length text ≤ 255 → WrittenText text written → length written ≤ 1022
text_short_written text written few w = units_written_short (flat_map encode_utf16 w.chars) written (few_units text written few w) w.written
