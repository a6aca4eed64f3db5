-- The writer's form is a spelling.
use Rattle.std.proofs.Common.{◌≡◌, ℕ, suc, ◌+◌, ◌/◌, ◌%◌, ◌<◌, ◌≤◌, true, List, [], ◌∷◌, ◌++◌, length, take, drop, refl, sym, subst, arith, inl, inr, length-append}
use Rattle.std.specs.Prelude.{encode_utf8_all}
use Rattle.std.specs.Str.{all_scalars}
use Rattle.std.specs.Char.Escape.{encode_utf16}
use Rattle.std.specs.List.{flat_map}
use lib.Utf8.{encode, encodes, scalar}
use Rattle.std.proofs.lemmas.Bool.{cases_lt, and_parts}
use Rattle.std.proofs.lemmas.Bool.Decides.{nat_tests}
use Rattle.std.proofs.lemmas.Grind.{flat_map-append}
use Rattle.std.proofs.lemmas.List.{take-append-drop, length-take-le}
use Rattle.hessian_text.specs.declared.stage.Kind.TheVariants.{Text, Binary}
use Rattle.hessian_text.specs.declared.stage.Part.TheVariants.{Final}
use Rattle.hessian_text.specs.ChunkHead.{ChunkHead}
use Rattle.hessian_text.specs.ChunkHead.ChunkHead.{text_short, text_middle, text_final, binary_short, binary_middle, binary_final, binary_inner}
use Rattle.hessian_text.specs.Items.{Contents}
use Rattle.hessian_text.specs.Items.Contents.{none, item}
use Rattle.hessian_text.specs.Spelling.{AreBytes, Spelling}
use Rattle.hessian_text.specs.Spelling.Spelling.{last, chunk}
use Rattle.hessian_text.specs.Written.{CHUNK, binary_head, text_head, by_units, WrittenBinary}
use Rattle.hessian_text.specs.Written.WrittenBinary.{last as last_binary, chunk as chunk_binary}
use Rattle.hessian_text.proofs.Running.{first_small, later_small}
use Rattle.hessian_text.proofs.Answering.{take_bytes, drop_bytes}

-- ---- binaries

pub bytes_contents : (xs : List ℕ) → AreBytes xs → Contents Binary xs (length xs) xs
bytes_contents [] h = none
bytes_contents (x ∷ xs) h = subst (λ n. Contents Binary (x ∷ xs) n (x ∷ xs)) (let e : 1 + length xs ≡ suc (length xs) = omega arith in e) (item (x ∷ []) (x ∷ []) xs xs 1 (length xs) (record { byte = x; small = first_small x xs h; value_is = refl; units_are = refl; form_is = refl }) (bytes_contents xs (later_small x xs h)))

binary_head_1 : (n : ℕ) → n < 16 → binary_head n ≡ (0x20 + n) ∷ []
binary_head_1 n h = grind (arith, nat_tests)

binary_head_2 : (n : ℕ) → 16 ≤ n → n < 1024 → binary_head n ≡ (0x34 + n / 256) ∷ n % 256 ∷ []
binary_head_2 n l h = grind (arith, nat_tests)

binary_head_3 : (n : ℕ) → 1024 ≤ n → binary_head n ≡ 0x42 ∷ n / 256 ∷ n % 256 ∷ []
binary_head_3 n l = grind (arith, nat_tests)

binary_begins : (n : ℕ) → n ≤ 32768 → ChunkHead Binary Final n (binary_head n)
binary_begins n few = elim (cases_lt n 16) [
  | inl h ↦ rw (binary_head_1 n h) (binary_short (0x20 + n) n (record { low = omega arith; high = omega arith }) (omega arith))
  | inr l ↦ elim (cases_lt n 1024) [
    | inl h ↦ rw (binary_head_2 n l h) (binary_middle (0x34 + n / 256) (n % 256) n (record { low = omega arith; high = omega arith }) (omega arith) (omega arith))
    | inr l ↦ rw (binary_head_3 n l) (binary_final (n / 256) (n % 256) n (omega arith) (omega arith) (omega arith))
  ]
]

pub binary_spells : (contents written : List ℕ) → AreBytes contents → WrittenBinary contents written → Spelling Binary contents written
binary_spells contents written small (last_binary xs few) = last xs (binary_head (length xs)) xs (length xs) (binary_begins (length xs) few) (bytes_contents xs small)
binary_spells contents written small (chunk_binary xs rest far later) =
    let front = bytes_contents (take CHUNK xs) (take_bytes CHUNK xs small (omega arith)) in
    let size : length (take CHUNK xs) ≡ 32768 = length-take-le CHUNK xs (omega arith) in
    let one = chunk (take CHUNK xs) (drop CHUNK xs) (0x41 ∷ 0x80 ∷ 0x00 ∷ []) (take CHUNK xs) rest 32768 (binary_inner 0x80 0x00 32768 (omega arith) (omega arith) (omega arith)) (subst (λ n. Contents Binary (take CHUNK xs) n (take CHUNK xs)) size front) (binary_spells (drop CHUNK xs) rest (drop_bytes CHUNK xs small) later) in
    subst (λ v. Spelling Binary v (0x41 ∷ 0x80 ∷ 0x00 ∷ (take CHUNK xs ++ rest))) (take-append-drop CHUNK xs) one

-- ---- texts

text_head_1 : (n : ℕ) → n < 32 → text_head n ≡ n ∷ []
text_head_1 n h = grind (arith, nat_tests)

text_head_2 : (n : ℕ) → 32 ≤ n → n < 1024 → text_head n ≡ (0x30 + n / 256) ∷ n % 256 ∷ []
text_head_2 n l h = grind (arith, nat_tests)

text_head_3 : (n : ℕ) → 1024 ≤ n → text_head n ≡ 0x53 ∷ n / 256 ∷ n % 256 ∷ []
text_head_3 n l = grind (arith, nat_tests)

pub text_begins : (n : ℕ) → n ≤ 32768 → ChunkHead Text Final n (text_head n)
text_begins n few = elim (cases_lt n 32) [
  | inl h ↦ rw (text_head_1 n h) (text_short n n (record { low = omega arith; high = omega arith }) refl)
  | inr l ↦ elim (cases_lt n 1024) [
    | inl h ↦ rw (text_head_2 n l h) (text_middle (0x30 + n / 256) (n % 256) n (record { low = omega arith; high = omega arith }) (omega arith) (omega arith))
    | inr l ↦ rw (text_head_3 n l) (text_final (n / 256) (n % 256) n (omega arith) (omega arith) (omega arith))
  ]
]

first_scalar : (c : ℕ) (cs : List ℕ) → all_scalars (c ∷ cs) ≡ true → scalar c ≡ true
first_scalar c cs h = (and_parts (scalar c) (all_scalars cs) h).0

later_scalars : (c : ℕ) (cs : List ℕ) → all_scalars (c ∷ cs) ≡ true → all_scalars cs ≡ true
later_scalars c cs h = (and_parts (scalar c) (all_scalars cs) h).1

-- characters, each of their units by itself
pub chars_contents : (cs : List ℕ) → all_scalars cs ≡ true → Contents Text (encode_utf8_all cs) (length (flat_map encode_utf16 cs)) (by_units (flat_map encode_utf16 cs))
chars_contents [] h = none
chars_contents (c ∷ cs) h =
    let rest = flat_map encode_utf16 cs in
    let one = item (encode c) (by_units (encode_utf16 c)) (encode_utf8_all cs) (by_units rest) (length (encode_utf16 c)) (length rest) (record { char = c; scalar = first_scalar c cs h; value_is = refl; units_are = refl; form_is = inr refl }) (chars_contents cs (later_scalars c cs h)) in
    let forms = sym (flat_map-append encode (encode_utf16 c) rest) in
    let size = sym (length-append (encode_utf16 c) rest) in
    subst (λ n. Contents Text (encode c ++ encode_utf8_all cs) n (by_units (encode_utf16 c ++ rest))) size (subst (λ f. Contents Text (encode c ++ encode_utf8_all cs) (length (encode_utf16 c) + length rest) f) forms one)
