-- A text of at most 255 bytes is written in fewer than a body may have, and so is the reply of a status with it.
use Rattle.std.proofs.Common.{◌≡◌, ℕ, ◌+◌, ◌*◌, ◌/◌, ◌%◌, ◌≤◌, List, [], ◌∷◌, length, refl, ap, inl, inr, length-append, arith}
use Rattle.std.specs.Prelude.{encode_utf8_all}
use Rattle.std.specs.Char.Escape.{encode_utf16}
use Rattle.std.specs.List.{flat_map}
use Rattle.std.proofs.Math.Utf8.{encode}
use Rattle.std.proofs.lemmas.Bool.{cases_lt}
use Rattle.std.proofs.lemmas.Bool.Decides.{nat_tests}
use Rattle.std.proofs.lemmas.Str.{length-encode, len_utf8_bounds}
use Rattle.hessian_graph.specs.Shape.{Text}
use Rattle.hessian_text.specs.Written.{text_head, by_units, WrittenUnits, WrittenText}
use Rattle.hessian_text.specs.Written.WrittenUnits.{last as last_units, chunk as chunk_units}
use Rattle.hessian_text.proofs.Shapes.{units_low, units_high, encode_four}
use Rattle.hessian_writer.specs.Leaves.{hessian, hessian_forms}
use Rattle.dubbo_bodies.specs.declared.message.Reply.{Reply}
use Rattle.dubbo_bodies.specs.declared.message.Reply.TheVariants.{Status}
use Rattle.dubbo_bodies.specs.WrittenBody.{WrittenReply}
use Rattle.dubbo_bodies.specs.WrittenBody.WrittenReply.{exception, value, null, status}

-- no more bytes than three stand before the units of a chunk
head_few : (n : ℕ) → length (text_head n) ≤ 3
head_few n = elim (cases_lt n 32) [
  | inl less ↦ let head : text_head n ≡ n ∷ [] = grind (arith, nat_tests) in omega (arith, ap length head)
  | inr more ↦ elim (cases_lt n 1024) [
    | inl less ↦ let head : text_head n ≡ (0x30 + n / 256) ∷ n % 256 ∷ [] = grind (arith, nat_tests) in omega (arith, ap length head)
    | inr far ↦ let head : text_head n ≡ 0x53 ∷ n / 256 ∷ n % 256 ∷ [] = grind (arith, nat_tests) in omega (arith, ap length head)
  ]
]

-- a character has no more units than bytes, and a unit no more bytes than four
char_units : (c : ℕ) → length (encode_utf16 c) ≤ length (encode c)
char_units c = elim (cases_lt c 0x10000) [
  | inl low ↦ rw (units_low c low) (omega (arith, length-encode c, (len_utf8_bounds c).0))
  | inr high ↦ rw (units_high c high, encode_four c high) (omega arith)
]

text_units : (chars : List ℕ) → length (flat_map encode_utf16 chars) ≤ length (encode_utf8_all chars)
text_units [] = omega arith
text_units (c ∷ chars) = omega (arith, char_units c, text_units chars, length-append (encode_utf16 c) (flat_map encode_utf16 chars), length-append (encode c) (encode_utf8_all chars))

unit_bytes : (units : List ℕ) → length (by_units units) ≤ 4 * length units
unit_bytes [] = omega arith
unit_bytes (u ∷ units) = omega (arith, length-encode u, (len_utf8_bounds u).1, unit_bytes units, length-append (encode u) (by_units units))

units_written : (units bytes : List ℕ) → length units ≤ 255 → WrittenUnits units bytes → length bytes ≤ 1023
units_written units bytes few (last_units all fit) = omega (arith, head_few (length units), unit_bytes units, length-append (text_head (length units)) (by_units units))
units_written units bytes few (chunk_units all rest n many first later) = absurd (omega (arith, few, many))

text_written : (text bytes : List ℕ) → length text ≤ 255 → WrittenText text bytes → length bytes ≤ 1023
text_written text bytes few w = units_written (flat_map encode_utf16 w.chars) bytes (omega (arith, few, text_units w.chars, ap length w.are_chars)) w.written

reply_written : (reply : Reply) (code : ℕ) (text : Text) (body : List ℕ) → WrittenReply hessian hessian_forms reply body → reply ≡ Status code text → length text ≤ 255 → length body ≤ 1023
reply_written reply code text body (exception g kind values a b) same few = absurd (cc)
reply_written reply code text body (value g kind values some a b) same few = absurd (cc)
reply_written reply code text body (null g kind none a) same few = absurd (cc)
reply_written reply code text body (status other words bytes is) same few = let e : words ≡ text = cc in text_written words body (omega (arith, few, ap length e)) is

pub status_short : (code : ℕ) (text : Text) (body : List ℕ) → WrittenReply hessian hessian_forms (Status code text) body → length text ≤ 255 → length body ≤ 8388608
status_short code text body w few = let short = reply_written (Status code text) code text body w refl few in omega (arith, short)
