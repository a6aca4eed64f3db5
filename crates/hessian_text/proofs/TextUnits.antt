-- Texts in UTF-8 and their units.
use Rattle.std.proofs.Common.{◌≡◌, ℕ, ◌+◌, ◌*◌, ◌-◌, ◌/◌, ◌%◌, ◌<◌, ◌≤◌, true, List, [], ◌∷◌, ◌++◌, length, get_or, take, drop, refl, sym, ap, ◌∙◌, subst, arith, inl, inr, ◌⊎◌, length-append}
use Rattle.std.specs.Prelude.{All, slice_index, slice_range, encode_utf8_all, IsUtf8}
use Rattle.std.specs.Str.{all_scalars, chars, IsCharBoundary}
use Rattle.std.specs.Char.{len_utf8}
use Rattle.std.specs.Char.Escape.{encode_utf16}
use Rattle.std.specs.List.{flat_map, sum_by}
use lib.Utf8.{encode, scalar, scalar_cases}
use Rattle.std.proofs.lemmas.Bool.{cases_lt, and_parts}
use Rattle.std.proofs.lemmas.Bool.Decides.{nat_tests}
use Rattle.std.proofs.Math.Seq.{take-add, take-append_seam}
use Rattle.std.proofs.lemmas.List.{append-nil, get_or-append-add, get_or-drop, get_or-take, length-drop, length-take-le, take-append-drop, take-take}
use Rattle.std.proofs.lemmas.List.Concat.{flat_map-append}
use Rattle.std.proofs.lemmas.List.Sums.{sum_by-append, sum_by-le, sum_by-take-le}
use Rattle.std.proofs.lemmas.Str.{chars-nil, chars-append, chars_past_char, encodes-chars, scalars-chars, length-encode, IsUtf8-append, IsUtf8-take, IsUtf8-past_char, len_utf8_bounds, IsCharBoundary-start, IsCharBoundary-at_seam, IsCharBoundary-from_rest}
use Rattle.hessian_text.specs.Units.{utf16, byte_units, FitsNone, IsFront}
use Rattle.hessian_text.specs.Written.{by_units}
use Rattle.hessian_text.proofs.Shapes.{encode_one, encode_two, encode_three, encode_four, units_low, units_high}

-- ---- how many

byte_one : (b : ℕ) → b < 0x80 → byte_units b ≡ 1
byte_one b h = grind (arith, nat_tests)

byte_later : (b : ℕ) → 0x80 ≤ b → b < 0xc0 → byte_units b ≡ 0
byte_later b l h = grind (arith, nat_tests)

byte_first : (b : ℕ) → 0xc0 ≤ b → b < 0xf0 → byte_units b ≡ 1
byte_first b l h = grind (arith, nat_tests)

byte_four : (b : ℕ) → 0xf0 ≤ b → byte_units b ≡ 2
byte_four b l = grind (arith, nat_tests)

pub byte_most : (b : ℕ) → byte_units b ≤ 2
byte_most b = grind (arith, nat_tests)

sum_one : (f : ℕ → ℕ) (a x : ℕ) → f a ≡ x → sum_by f (a ∷ []) ≡ x
sum_one f a x p = omega arith

sum_two : (f : ℕ → ℕ) (a b x y : ℕ) → f a ≡ x → f b ≡ y → sum_by f (a ∷ b ∷ []) ≡ x + y
sum_two f a b x y p q = omega arith

sum_three : (f : ℕ → ℕ) (a b c x y z : ℕ) → f a ≡ x → f b ≡ y → f c ≡ z → sum_by f (a ∷ b ∷ c ∷ []) ≡ x + y + z
sum_three f a b c x y z p q r = omega arith

sum_four : (f : ℕ → ℕ) (a b c d x y z w : ℕ) → f a ≡ x → f b ≡ y → f c ≡ z → f d ≡ w → sum_by f (a ∷ b ∷ c ∷ d ∷ []) ≡ x + y + z + w
sum_four f a b c d x y z w p q r s = omega arith

scalar_most : (c : ℕ) → (c < 0xd800) ⊎ ((0xe000 ≤ c) × (c < 0x110000)) → c < 0x110000
scalar_most c (inl h) = omega arith
scalar_most c (inr h) = h.1

char_units : (c : ℕ) → c < 0x110000 → sum_by byte_units (encode c) ≡ length (encode_utf16 c)
char_units c most = elim (cases_lt c 0x80) [
  | inl h ↦ ap (sum_by byte_units) (encode_one c h) ∙ sum_one byte_units c 1 (byte_one c h) ∙ sym (ap length (units_low c (omega arith)))
  | inr l ↦ elim (cases_lt c 0x800) [
    | inl h ↦ ap (sum_by byte_units) (encode_two c l h) ∙ sum_two byte_units (192 + c / 64) (128 + c % 64) 1 0 (byte_first (192 + c / 64) (omega arith) (omega arith)) (byte_later (128 + c % 64) (omega arith) (omega arith)) ∙ sym (ap length (units_low c (omega arith)))
    | inr l ↦ elim (cases_lt c 0x10000) [
      | inl h ↦ ap (sum_by byte_units) (encode_three c l h) ∙ sum_three byte_units (224 + c / 4096) (128 + c / 64 % 64) (128 + c % 64) 1 0 0 (byte_first (224 + c / 4096) (omega arith) (omega arith)) (byte_later (128 + c / 64 % 64) (omega arith) (omega arith)) (byte_later (128 + c % 64) (omega arith) (omega arith)) ∙ sym (ap length (units_low c h))
      | inr l ↦ ap (sum_by byte_units) (encode_four c l) ∙ sum_four byte_units (240 + c / 262144) (128 + c / 4096 % 64) (128 + c / 64 % 64) (128 + c % 64) 2 0 0 0 (byte_four (240 + c / 262144) (omega arith)) (byte_later (128 + c / 4096 % 64) (omega arith) (omega arith)) (byte_later (128 + c / 64 % 64) (omega arith) (omega arith)) (byte_later (128 + c % 64) (omega arith) (omega arith)) ∙ sym (ap length (units_high c l))
    ]
  ]
]

char_len : (c : ℕ) → length (encode_utf16 c) ≤ length (encode c)
char_len c = elim (cases_lt c 0x80) [
  | inl h ↦ let p : length (encode c) ≡ 1 = ap length (encode_one c h) in let q : length (encode_utf16 c) ≡ 1 = ap length (units_low c (omega arith)) in omega arith
  | inr l ↦ elim (cases_lt c 0x800) [
    | inl h ↦ let p : length (encode c) ≡ 2 = ap length (encode_two c l h) in let q : length (encode_utf16 c) ≡ 1 = ap length (units_low c (omega arith)) in omega arith
    | inr l ↦ elim (cases_lt c 0x10000) [
      | inl h ↦ let p : length (encode c) ≡ 3 = ap length (encode_three c l h) in let q : length (encode_utf16 c) ≡ 1 = ap length (units_low c h) in omega arith
      | inr l ↦ let p : length (encode c) ≡ 4 = ap length (encode_four c l) in let q : length (encode_utf16 c) ≡ 2 = ap length (units_high c l) in omega arith
    ]
  ]
]

pub first_scalar : (c : ℕ) (cs : List ℕ) → all_scalars (c ∷ cs) ≡ true → scalar c ≡ true
first_scalar c cs h = (and_parts (scalar c) (all_scalars cs) h).0

pub later_scalars : (c : ℕ) (cs : List ℕ) → all_scalars (c ∷ cs) ≡ true → all_scalars cs ≡ true
later_scalars c cs h = (and_parts (scalar c) (all_scalars cs) h).1

chars_count : (cs : List ℕ) → all_scalars cs ≡ true → sum_by byte_units (encode_utf8_all cs) ≡ length (flat_map encode_utf16 cs)
chars_count [] h = refl
chars_count (c ∷ cs) h =
    let one = char_units c (scalar_most c (scalar_cases c (first_scalar c cs h))) in
    let rest = chars_count cs (later_scalars c cs h) in
    sum_by-append byte_units (encode c) (encode_utf8_all cs) ∙ ap (λ n. n + sum_by byte_units (encode_utf8_all cs)) one ∙ ap (λ n. length (encode_utf16 c) + n) rest ∙ sym (length-append (encode_utf16 c) (flat_map encode_utf16 cs))

chars_len : (cs : List ℕ) → length (flat_map encode_utf16 cs) ≤ length (encode_utf8_all cs)
chars_len [] = omega arith
chars_len (c ∷ cs) =
    let one = char_len c in
    let rest = chars_len cs in
    let p = length-append (encode_utf16 c) (flat_map encode_utf16 cs) in
    let q = length-append (encode c) (encode_utf8_all cs) in
    omega (arith, one, rest, p, q)

pub text_count : (text : List ℕ) → IsUtf8 text → sum_by byte_units text ≡ length (utf16 text)
text_count text u = subst (λ x. sum_by byte_units x ≡ length (utf16 text)) (encodes-chars text u) (chars_count (chars text) (scalars-chars text u))

pub front_most : (xs : List ℕ) (n : ℕ) → n ≤ length xs → sum_by byte_units (take n xs) ≤ 2 * n
front_most xs n within =
    let each : All (λ x. byte_units x ≤ 2) (take n xs) = λ k d l. byte_most (get_or (take n xs) k d) in
    let most = sum_by-le byte_units 2 (take n xs) each in
    let len : length (take n xs) ≡ n = length-take-le n xs within in
    omega (arith, most, len)

block_more : (xs : List ℕ) (at n : ℕ) → sum_by byte_units (take at xs) + sum_by byte_units (take n (drop at xs)) ≡ sum_by byte_units (take (at + n) xs)
block_more xs at n = sym (ap (sum_by byte_units) (take-add at n xs) ∙ sum_by-append byte_units (take at xs) (take n (drop at xs)))

pub block_count : (xs : List ℕ) (at n next : ℕ) → at + n ≡ next → sum_by byte_units (take at xs) + sum_by byte_units (take n (drop at xs)) ≡ sum_by byte_units (take next xs)
block_count xs at n next is = block_more xs at n ∙ ap (λ k. sum_by byte_units (take k xs)) is

-- a text has no more units than bytes
pub units_most : (text : List ℕ) → IsUtf8 text → length (utf16 text) ≤ length text
units_most text u = subst (λ x. length (utf16 text) ≤ length x) (encodes-chars text u) (chars_len (chars text))

-- the bytes of a text count no more units than there are bytes
pub front_fits : (text : List ℕ) (n : ℕ) → IsUtf8 text → sum_by byte_units (take n text) ≤ length text
front_fits text n u =
    let part = sum_by-take-le byte_units text n in
    let all = text_count text u in
    let most = units_most text u in
    omega (arith, part, all, most)

pub utf16_append : (xs ys : List ℕ) → IsUtf8 xs → utf16 (xs ++ ys) ≡ utf16 xs ++ utf16 ys
utf16_append xs ys u = ap (flat_map encode_utf16) (chars-append xs ys u) ∙ flat_map-append encode_utf16 (chars xs) (chars ys)

-- ---- characters of one unit

-- no byte begins a character of four
abbrev pub AreLow : List ℕ → Type 0
AreLow bytes = (k : ℕ) → k < length bytes → slice_index bytes k < 0xf0

low_head : (b : ℕ) (rest xs : List ℕ) → AreLow (xs ++ rest) → (more : List ℕ) → xs ≡ b ∷ more → b < 0xf0
low_head b rest xs h more e = let k : AreLow (b ∷ (more ++ rest)) = subst (λ x. AreLow (x ++ rest)) e h in k 0 (omega arith)

low_first : (c : ℕ) (rest : List ℕ) → AreLow (encode c ++ rest) → c < 0x10000
low_first c rest h = elim (cases_lt c 0x10000) [
  | inl k ↦ k
  | inr l ↦ let k : 240 + c / 262144 < 0xf0 = low_head (240 + c / 262144) rest (encode c) h _ (encode_four c l) in absurd (omega arith)
]

low_rest : (xs ys : List ℕ) → AreLow (xs ++ ys) → AreLow ys
low_rest xs ys h = λ k l. subst (λ b. b < 0xf0) (get_or-append-add xs ys k 0) (h (length xs + k) (let e = length-append xs ys in omega (arith, e)))

chars_low : (cs : List ℕ) → AreLow (encode_utf8_all cs) → by_units (flat_map encode_utf16 cs) ≡ encode_utf8_all cs
chars_low [] h = refl
chars_low (c ∷ cs) h = ap (λ x. by_units (x ++ flat_map encode_utf16 cs)) (units_low c (low_first c (encode_utf8_all cs) h)) ∙ ap (λ x. encode c ++ x) (chars_low cs (low_rest (encode c) (encode_utf8_all cs) h))

low_text : (text : List ℕ) → IsUtf8 text → AreLow text → by_units (utf16 text) ≡ text
low_text text u h = chars_low (chars text) (subst AreLow (sym (encodes-chars text u)) h) ∙ encodes-chars text u

-- the place before a character of four bytes, or the end
pub low_cut : (text : List ℕ) (n : ℕ) → n ≤ length text → (n < length text → 0xf0 ≤ slice_index text n) → IsCharBoundary text n
low_cut text n within ends = (within, λ l h. let k = ends l in omega (arith, k))

pub low_front : (text : List ℕ) (n : ℕ) → IsUtf8 text → n ≤ length text → ((k : ℕ) → k < n → slice_index text k < 0xf0) → (n < length text → 0xf0 ≤ slice_index text n) → by_units (utf16 (take n text)) ≡ take n text
low_front text n u within low ends =
    let len : length (take n text) ≡ n = length-take-le n text within in
    low_text (take n text) (IsUtf8-take text n u (low_cut text n within ends)) (λ k l. subst (λ b. b < 0xf0) (sym (get_or-take n text k 0 (omega (arith, len)))) (low k (omega (arith, len))))

-- ---- one character

front_is : (c : ℕ) (text rest : List ℕ) → text ≡ encode c ++ rest → take (len_utf8 c) text ≡ encode c
front_is c text rest e = subst (λ n. take n text ≡ encode c) (length-encode c) (ap (take (length (encode c))) e ∙ take-append_seam (encode c) rest)

pub first_cut : (c : ℕ) (text rest : List ℕ) → IsUtf8 text → text ≡ encode c ++ rest → IsCharBoundary text (len_utf8 c)
first_cut c text rest u e = subst (λ n. IsCharBoundary text n) (length-encode c) (IsCharBoundary-at_seam text (encode c) rest e (IsUtf8-past_char text rest c u e))

pub first_units : (c : ℕ) (text rest : List ℕ) → IsUtf8 text → text ≡ encode c ++ rest → utf16 (take (len_utf8 c) text) ≡ encode_utf16 c
first_units c text rest u e =
    let is : take (len_utf8 c) text ≡ encode c = front_is c text rest e in
    let v : IsUtf8 (take (len_utf8 c) text) = IsUtf8-take text (len_utf8 c) u (first_cut c text rest u e) in
    let one : chars (take (len_utf8 c) text) ≡ c ∷ chars [] = chars_past_char (take (len_utf8 c) text) [] c v (is ∙ sym (append-nil (encode c))) in
    ap (flat_map encode_utf16) (one ∙ ap (λ x. c ∷ x) chars-nil) ∙ append-nil (encode_utf16 c)

-- ---- a front and what follows

-- a place in what follows a place
pub cut_on : (text : List ℕ) (at n : ℕ) → IsCharBoundary text at → IsCharBoundary (drop at text) n → IsCharBoundary text (at + n)
cut_on text at n a b = IsCharBoundary-from_rest text at n a.0 b

pub front_on : (text : List ℕ) (at n : ℕ) → IsUtf8 text → IsCharBoundary text at → utf16 (take (at + n) text) ≡ utf16 (take at text) ++ utf16 (take n (drop at text))
front_on text at n u a = ap utf16 (take-add at n text) ∙ utf16_append (take at text) (take n (drop at text)) (IsUtf8-take text at u a)

pub parts_of : (text : List ℕ) (at : ℕ) → IsUtf8 text → IsCharBoundary text at → utf16 text ≡ utf16 (take at text) ++ utf16 (drop at text)
parts_of text at u a = ap utf16 (sym (take-append-drop at text)) ∙ utf16_append (take at text) (drop at text) (IsUtf8-take text at u a)

-- a part from a place on, and a front of it
pub utf8_on : (piece : List ℕ) (at n v : ℕ) → IsUtf8 (take at piece) → IsUtf8 (take v (take n (drop at piece))) → v ≤ n → IsUtf8 (take (at + v) piece)
utf8_on piece at n v u w fit =
    let same : take v (take n (drop at piece)) ≡ take v (drop at piece) = take-take v n (drop at piece) fit in
    subst IsUtf8 (sym (take-add at v piece)) (IsUtf8-append (take at piece) (take v (drop at piece)) u (subst IsUtf8 same w))

pub utf8_window : (piece : List ℕ) (at end : ℕ) → IsUtf8 (take at piece) → IsUtf8 (take (end - at) (drop at piece)) → at ≤ end → IsUtf8 (take end piece)
utf8_window piece at end u w order =
    let is : at + (end - at) ≡ end = omega arith in
    subst (λ n. IsUtf8 (take n piece)) is (subst IsUtf8 (sym (take-add at (end - at) piece)) (IsUtf8-append (take at piece) (take (end - at) (drop at piece)) u w))

pub whole_slice : (text : List ℕ) (n : ℕ) → slice_range text 0 n ≡ take n text
whole_slice text n = let e : n - 0 ≡ n = omega arith in ap (λ k. take k text) e

pub low_more : (text : List ℕ) (at size most : ℕ) → size ≡ 64 → at + 64 ≤ length text → ((k : ℕ) → k < at → slice_index text k < 0xf0) → ((k : ℕ) → k < length (take size (drop at text)) → slice_index (take size (drop at text)) k ≤ most) → most < 0xf0 → (k : ℕ) → k < at + 64 → slice_index text k < 0xf0
low_more text at size most is within low here few k h = elim (cases_lt k at) [
  | inl l ↦ low k l
  | inr l ↦
      let rest : length (drop at text) ≡ length text - at = length-drop at text in
      let len : length (take size (drop at text)) ≡ size = length-take-le size (drop at text) (omega (arith, rest)) in
      let top = here (k - at) (omega (arith, len)) in
      let same : slice_index (take size (drop at text)) (k - at) ≡ slice_index text (at + (k - at)) = get_or-take size (drop at text) (k - at) 0 (omega arith) ∙ get_or-drop at text (k - at) 0 in
      let place : slice_index text (at + (k - at)) ≡ slice_index text k = ap (slice_index text) (let e : at + (k - at) ≡ k = omega arith in e) in
      omega (arith, top, same, place, few)
]

pub nothing_more : (xs : List ℕ) → xs ≡ xs ++ by_units (utf16 [])
nothing_more xs = sym (ap (λ ys. xs ++ by_units (flat_map encode_utf16 ys)) chars-nil ∙ append-nil xs)

pub nothing_len : 0 ≡ length (utf16 [])
nothing_len = sym (ap (λ ys. length (flat_map encode_utf16 ys)) chars-nil)

-- ---- the first character of a text

pub none_empty : (text : List ℕ) (room : ℕ) → length text ≡ 0 → FitsNone (chars text) room
none_empty [] room e = subst (λ cs. FitsNone cs room) (sym chars-nil) tt
none_empty (b ∷ bs) room e = absurd (omega arith)

pub none_long : (text rest : List ℕ) (c room : ℕ) → IsUtf8 text → text ≡ encode c ++ rest → room < length (encode_utf16 c) → FitsNone (chars text) room
none_long text rest c room u e h = subst (λ cs. FitsNone cs room) (sym (chars_past_char text rest c u e)) h

pub front_none : (text : List ℕ) (room : ℕ) → IsUtf8 text → FitsNone (chars text) room → IsFront text room 0 0
front_none text room u h = record { cut = IsCharBoundary-start text u; units_are = nothing_len; fits = omega arith; none = λ e. h }

pub units_len : (c n : ℕ) → (c < 0x10000 → n ≡ 1) → (0x10000 ≤ c → n ≡ 2) → n ≡ length (encode_utf16 c)
units_len c n one two = elim (cases_lt c 0x10000) [
  | inl h ↦ one h ∙ sym (ap length (units_low c h))
  | inr l ↦ two l ∙ sym (ap length (units_high c l))
]

pub front_first : (text rest : List ℕ) (c room len units : ℕ) → IsUtf8 text → text ≡ encode c ++ rest → len ≡ len_utf8 c → units ≡ length (encode_utf16 c) → units ≤ room → IsFront text room len units
front_first text rest c room len units u e is size fit = record {
  cut = subst (λ n. IsCharBoundary text n) (sym is) (first_cut c text rest u e);
  units_are = size ∙ sym (ap length (first_units c text rest u e)) ∙ ap (λ n. length (utf16 (take n text))) (sym is);
  fits = fit;
  none = λ z. absurd (let some = (len_utf8_bounds c).0 in omega (arith, some, is, z));
}
