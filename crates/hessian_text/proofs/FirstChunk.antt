-- Where the first chunk of a text ends.
use Rattle.std.proofs.Common.{◌≡◌, ℕ, zero, suc, ◌+◌, ◌-◌, ◌/◌, ◌%◌, ◌<◌, ◌≤◌, true, List, [], ◌∷◌, ◌++◌, length, take, drop, refl, sym, ap, ◌∙◌, subst, arith, inl, inr, ◌⊎◌, length-append}
use Rattle.std.specs.Prelude.{slice_index, IsUtf8, encode_utf8_all}
use Rattle.std.specs.Str.{all_scalars, chars, IsCharBoundary}
use Rattle.std.specs.Char.Escape.{encode_utf16}
use Rattle.std.specs.List.{flat_map}
use lib.Utf8.{scalar_cases}
use Rattle.std.proofs.lemmas.Bool.{cases_lt}
use Rattle.std.proofs.lemmas.Bool.Decides.{nat_tests}
use Rattle.std.proofs.lemmas.List.{append-nil, get_or-append-add, length-drop}
use Rattle.std.proofs.Math.ListN.{get_or-append}
use Rattle.std.proofs.lemmas.Str.{encodes-chars, scalars-chars, IsUtf8-take, IsUtf8-drop}
use Rattle.hessian_text.specs.Units.{utf16, FitsNone, IsFirstChunk}
use Rattle.hessian_text.specs.Written.{CHUNK, first_chunk}
use Rattle.hessian_text.proofs.Shapes.{units_low, units_high}
use Rattle.hessian_text.proofs.TextBack.{first_low, first_high, first_pair}
use Rattle.hessian_text.proofs.TextUnits.{first_scalar, later_scalars, front_on, nothing_len, parts_of}

-- no high surrogate
abbrev IsLow : ℕ → Type 0
IsLow x = (x < 0xd800) ⊎ (0xdc00 ≤ x)

scalar_low : (c : ℕ) → (c < 0xd800) ⊎ ((0xe000 ≤ c) × (c < 0x110000)) → IsLow c
scalar_low c (inl h) = inl h
scalar_low c (inr h) = inr (omega arith)

units_some : (c : ℕ) → 0 < length (encode_utf16 c)
units_some c = elim (cases_lt c 0x10000) [
  | inl h ↦ let e : length (encode_utf16 c) ≡ 1 = ap length (units_low c h) in omega arith
  | inr l ↦ let e : length (encode_utf16 c) ≡ 2 = ap length (units_high c l) in omega arith
]

last_one : (c n : ℕ) → (c < 0xd800) ⊎ ((0xe000 ≤ c) × (c < 0x110000)) → suc n ≡ length (encode_utf16 c ++ []) → IsLow (slice_index (encode_utf16 c ++ []) n)
last_one c n s e = elim (cases_lt c 0x10000) [
  | inl h ↦
      let is : encode_utf16 c ++ [] ≡ c ∷ [] = append-nil (encode_utf16 c) ∙ units_low c h in
      let size : n ≡ 0 = let k : length (encode_utf16 c ++ []) ≡ 1 = ap length is in omega arith in
      subst (λ xs. IsLow (slice_index xs n)) (sym is) (subst (λ m. IsLow (slice_index (c ∷ []) m)) (sym size) (scalar_low c s))
  | inr l ↦
      let a = 0xd800 + (c - 0x10000) / 0x400 in
      let b = 0xdc00 + (c - 0x10000) % 0x400 in
      let is : encode_utf16 c ++ [] ≡ a ∷ b ∷ [] = append-nil (encode_utf16 c) ∙ units_high c l in
      let size : n ≡ 1 = let k : length (encode_utf16 c ++ []) ≡ 2 = ap length is in omega arith in
      let low : IsLow b = inr (omega arith) in
      subst (λ xs. IsLow (slice_index xs n)) (sym is) (subst (λ m. IsLow (slice_index (a ∷ b ∷ []) m)) (sym size) low)
]

-- the last unit of whole characters is no high surrogate
last_low : (cs : List ℕ) (n : ℕ) → all_scalars cs ≡ true → suc n ≡ length (flat_map encode_utf16 cs) → IsLow (slice_index (flat_map encode_utf16 cs) n)
last_low [] n s e = absurd (omega arith)
last_low (c ∷ []) n s e = last_one c n (scalar_cases c (first_scalar c [] s)) e
last_low (c ∷ d ∷ ds) n s e = on (λ m k. last_low (d ∷ ds) m (later_scalars c (d ∷ ds) s) k)
  where
    on : ((m : ℕ) → suc m ≡ length (flat_map encode_utf16 (d ∷ ds)) → IsLow (slice_index (flat_map encode_utf16 (d ∷ ds)) m)) → IsLow (slice_index (encode_utf16 c ++ flat_map encode_utf16 (d ∷ ds)) n)
    on rec =
        let rest = flat_map encode_utf16 (d ∷ ds) in
        let whole : length (encode_utf16 c ++ rest) ≡ length (encode_utf16 c) + length rest = length-append (encode_utf16 c) rest in
        let more : length rest ≡ length (encode_utf16 d) + length (flat_map encode_utf16 ds) = length-append (encode_utf16 d) (flat_map encode_utf16 ds) in
        let some = units_some d in
        let m = n - length (encode_utf16 c) in
        let at : length (encode_utf16 c) + m ≡ n = omega (arith, whole, more, some, e) in
        let k : suc m ≡ length rest = omega (arith, whole, more, some, e, at) in
        subst (λ i. IsLow (slice_index (encode_utf16 c ++ rest) i)) at (subst IsLow (sym (get_or-append-add (encode_utf16 c) rest m 0)) (rec m k))

first_of : (us : List ℕ) → IsLow (slice_index us 32767) → first_chunk us ≡ 32768
first_of us (inl h) = first_low us h
first_of us (inr h) = first_high us h

-- a chunk that is full of whole characters
first_full : (us front rest cs : List ℕ) → us ≡ front ++ rest → front ≡ flat_map encode_utf16 cs → all_scalars cs ≡ true → length front ≡ 32768 → first_chunk us ≡ 32768
first_full us front rest cs e f s full =
    let here : slice_index us 32767 ≡ slice_index front 32767 = ap (λ x. slice_index x 32767) e ∙ get_or-append front rest 0 32767 (omega arith) in
    let low : IsLow (slice_index (flat_map encode_utf16 cs) 32767) = last_low cs 32767 s (omega (arith, ap length f, full)) in
    first_of us (subst IsLow (sym (here ∙ ap (λ x. slice_index x 32767) f)) low)

-- a pair of surrogates would be parted
first_before : (us front rest : List ℕ) (c : ℕ) → us ≡ front ++ (encode_utf16 c ++ rest) → 0x10000 ≤ c → c < 0x110000 → length front ≡ 32767 → first_chunk us ≡ 32767
first_before us front rest c e l most full =
    let a = 0xd800 + (c - 0x10000) / 0x400 in
    let b = 0xdc00 + (c - 0x10000) % 0x400 in
    let at : length front + 0 ≡ 32767 = omega arith in
    let here : slice_index us 32767 ≡ a = subst (λ n. slice_index us n ≡ a) at (ap (λ x. slice_index x (length front + 0)) e ∙ get_or-append-add front (encode_utf16 c ++ rest) 0 0 ∙ ap (λ x. slice_index (x ++ rest) 0) (units_high c l)) in
    first_pair us (omega (arith, here)) (omega (arith, here))

scalar_most : (c : ℕ) → (c < 0xd800) ⊎ ((0xe000 ≤ c) × (c < 0x110000)) → c < 0x110000
scalar_most c (inl h) = omega arith
scalar_most c (inr h) = h.1

-- the next character has no room
pub record IsFull (us : List ℕ) (units : ℕ) : Type 0 where
  pub more : CHUNK < length us
  pub full : units ≡ first_chunk us

full_at : (us front : List ℕ) (c : ℕ) (cs ds : List ℕ) (units : ℕ) → us ≡ front ++ flat_map encode_utf16 (c ∷ cs) → front ≡ flat_map encode_utf16 ds → all_scalars ds ≡ true → all_scalars (c ∷ cs) ≡ true → units ≡ length front → units ≤ 32768 → 32768 - units < length (encode_utf16 c) → IsFull us units
full_at us front c cs ds units e f s t size few room =
    let rest = flat_map encode_utf16 cs in
    let whole : length us ≡ length front + (length (encode_utf16 c) + length rest) = ap length e ∙ length-append front (encode_utf16 c ++ rest) ∙ ap (λ n. length front + n) (length-append (encode_utf16 c) rest) in
    record {
      more = omega (arith, whole, size, room);
      full = elim (cases_lt units 32768) [
        | inr h ↦ let k : units ≡ 32768 = omega arith in k ∙ sym (first_full us front (encode_utf16 c ++ rest) ds e f s (sym size ∙ k))
        | inl h ↦ elim (cases_lt c 0x10000) [
          | inl low ↦ let one : length (encode_utf16 c) ≡ 1 = ap length (units_low c low) in absurd (omega (arith, room, one))
          | inr high ↦
              let two : length (encode_utf16 c) ≡ 2 = ap length (units_high c high) in
              let k : units ≡ 32767 = omega (arith, room, two) in
              k ∙ sym (first_before us front rest c e high (scalar_most c (scalar_cases c (first_scalar c cs t))) (sym size ∙ k))
        ]
      ];
    }

pub is_first_chunk : (text : List ℕ) (len units : ℕ) → IsUtf8 text → IsCharBoundary text len → units ≡ length (utf16 (take len text)) → units ≤ CHUNK → FitsNone (chars (drop len text)) (CHUNK - units) → IsFirstChunk text len units
is_first_chunk text len units u cut size few none = record {
  cut = cut;
  units_are = size;
  few = few;
  more = λ l. (behind l).more;
  full = λ l. (behind l).full;
}
  where
    by_chars : (ds : List ℕ) → chars (drop len text) ≡ ds → FitsNone ds (CHUNK - units) → len < length text → IsFull (utf16 text) units
    by_chars [] e f l =
        let nothing : length (drop len text) ≡ 0 = ap length (sym (encodes-chars (drop len text) (IsUtf8-drop text len u cut)) ∙ ap encode_utf8_all e) in
        let rest : length (drop len text) ≡ length text - len = length-drop len text in
        absurd (omega (arith, nothing, rest, l))
    by_chars (c ∷ cs) e f l = full_at (utf16 text) (utf16 (take len text)) c cs (chars (take len text)) units (parts_of text len u cut ∙ ap (λ x. utf16 (take len text) ++ flat_map encode_utf16 x) e) refl (scalars-chars (take len text) (IsUtf8-take text len u cut)) (subst (λ x. all_scalars x ≡ true) e (scalars-chars (drop len text) (IsUtf8-drop text len u cut))) size few f

    behind : len < length text → IsFull (utf16 text) units
    behind l = by_chars (chars (drop len text)) refl none l

-- one front more
pub units_on : (text : List ℕ) (len n units more : ℕ) → IsUtf8 text → IsCharBoundary text len → units ≡ length (utf16 (take len text)) → more ≡ length (utf16 (take n (drop len text))) → units + more ≡ length (utf16 (take (len + n) text))
units_on text len n units more u cut size next =
    let e : length (utf16 (take (len + n) text)) ≡ length (utf16 (take len text)) + length (utf16 (take n (drop len text))) = ap length (front_on text len n u cut) ∙ length-append (utf16 (take len text)) (utf16 (take n (drop len text))) in
    omega (arith, e, size, next)

first_most : (us : List ℕ) → 0 < first_chunk us
first_most us = grind (arith, nat_tests)

-- a chunk that is not the last has characters
pub chunk_some : (text : List ℕ) (len units : ℕ) → IsFirstChunk text len units → len < length text → 0 < len
chunk_some text zero units f l =
    let some = first_most (utf16 text) in
    let is = f.full l in
    let none : length (utf16 []) ≡ 0 = sym nothing_len in
    omega (arith, some, is, none, f.units_are)
chunk_some text (suc n) units f l = omega arith
