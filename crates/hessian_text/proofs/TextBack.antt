-- The writer's form of a text is a spelling: no chunk of it parts a pair of surrogates.
use Rattle.std.proofs.Common.{◌≡◌, ℕ, zero, suc, ◌+◌, ◌-◌, ◌/◌, ◌%◌, ◌<◌, ◌≤◌, true, List, [], ◌∷◌, ◌++◌, length, take, drop, refl, sym, ap, ◌∙◌, subst, arith, inl, inr, ◌⊎◌}
use Rattle.std.specs.Prelude.{slice_index, encode_utf8_all, ◌&&◌}
use Rattle.std.specs.Str.{all_scalars}
use Rattle.std.specs.Char.Escape.{encode_utf16}
use Rattle.std.specs.List.{flat_map}
use lib.Utf8.{scalar, scalar_cases}
use Rattle.std.proofs.lemmas.Bool.{cases_lt, and_parts}
use Rattle.std.proofs.lemmas.Bool.Decides.{nat_tests}
use Rattle.std.proofs.lemmas.List.{length-take-le}
use Rattle.std.proofs.lemmas.Str.{encodes-append}
use Rattle.hessian_text.specs.declared.stage.Kind.TheVariants.{Text}
use Rattle.hessian_text.specs.ChunkHead.ChunkHead.{text_inner}
use Rattle.hessian_text.specs.Items.{Contents}
use Rattle.hessian_text.specs.Spelling.{Spelling}
use Rattle.hessian_text.specs.Spelling.Spelling.{last, chunk}
use Rattle.hessian_text.specs.Written.{text_head, by_units, first_chunk, WrittenUnits, WrittenText}
use Rattle.hessian_text.specs.Written.WrittenUnits.{last as last_units, chunk as chunk_units}
use Rattle.hessian_text.proofs.Shapes.{units_low, units_high}
use Rattle.hessian_text.proofs.ReadBack.{text_begins, chars_contents}

abbrev pub units_of : List ℕ → List ℕ
units_of cs = flat_map encode_utf16 cs

-- the unit before a cut begins no pair, or the unit behind it ends none
abbrev pub PartsNone : List ℕ → ℕ → Type 0
PartsNone xs zero = Unit {0}
PartsNone xs (suc n) = (slice_index xs n < 0xd800) ⊎ ((0xdc00 ≤ slice_index xs n) ⊎ (slice_index xs (suc n) < 0xdc00))

parts_later : (x : ℕ) (xs : List ℕ) (n : ℕ) → PartsNone (x ∷ xs) (suc n) → PartsNone xs n
parts_later x xs zero p = tt
parts_later x xs (suc n) p = p

-- the characters before a cut and behind it
pub record IsCut (cs : List ℕ) (n : ℕ) : Type 0 where
  pub before : List ℕ
  pub behind : List ℕ
  pub parts : cs ≡ before ++ behind
  pub front : take n (units_of cs) ≡ units_of before
  pub back : drop n (units_of cs) ≡ units_of behind

low_cut : (c n : ℕ) (cs : List ℕ) → encode_utf16 c ≡ c ∷ [] → IsCut cs n → IsCut (c ∷ cs) (suc n)
low_cut c n cs e k = record {
  before = c ∷ k.before;
  behind = k.behind;
  parts = ap (λ x. c ∷ x) k.parts;
  front = ap (λ x. take (suc n) (x ++ units_of cs)) e ∙ ap (λ x. c ∷ x) k.front ∙ sym (ap (λ x. x ++ units_of k.before) e);
  back = ap (λ x. drop (suc n) (x ++ units_of cs)) e ∙ k.back;
}

high_cut : (c a b n : ℕ) (cs : List ℕ) → encode_utf16 c ≡ a ∷ b ∷ [] → IsCut cs n → IsCut (c ∷ cs) (suc (suc n))
high_cut c a b n cs e k = record {
  before = c ∷ k.before;
  behind = k.behind;
  parts = ap (λ x. c ∷ x) k.parts;
  front = ap (λ x. take (suc (suc n)) (x ++ units_of cs)) e ∙ ap (λ x. a ∷ b ∷ x) k.front ∙ sym (ap (λ x. x ++ units_of k.before) e);
  back = ap (λ x. drop (suc (suc n)) (x ++ units_of cs)) e ∙ k.back;
}

-- no cut stands inside a pair
no_cut : (a b : ℕ) (xs : List ℕ) → 0xd800 ≤ a → a < 0xdc00 → 0xdc00 ≤ b → PartsNone (a ∷ b ∷ xs) 1 → ⊥
no_cut a b xs l h k (inl p) = omega arith
no_cut a b xs l h k (inr (inl p)) = omega arith
no_cut a b xs l h k (inr (inr p)) = omega arith

scalar_most : (c : ℕ) → 0x10000 ≤ c → (c < 0xd800) ⊎ ((0xe000 ≤ c) × (c < 0x110000)) → c < 0x110000
scalar_most c l (inl h) = omega arith
scalar_most c l (inr h) = h.1

high_at : (c n : ℕ) (cs : List ℕ) → 0x10000 ≤ c → c < 0x110000 → ((m : ℕ) → m ≤ length (units_of cs) → PartsNone (units_of cs) m → IsCut cs m) → suc n ≤ length (units_of (c ∷ cs)) → PartsNone (units_of (c ∷ cs)) (suc n) → IsCut (c ∷ cs) (suc n)
high_at c zero cs l h rec few p = absurd (no_cut (0xd800 + (c - 0x10000) / 0x400) (0xdc00 + (c - 0x10000) % 0x400) (units_of cs) (omega arith) (omega arith) (omega arith) (subst (λ x. PartsNone (x ++ units_of cs) 1) (units_high c l) p))
high_at c (suc m) cs l h rec few p =
    let a = 0xd800 + (c - 0x10000) / 0x400 in
    let b = 0xdc00 + (c - 0x10000) % 0x400 in
    let q : PartsNone (a ∷ b ∷ units_of cs) (suc (suc m)) = subst (λ x. PartsNone (x ++ units_of cs) (suc (suc m))) (units_high c l) p in
    let size : length (units_of (c ∷ cs)) ≡ suc (suc (length (units_of cs))) = ap (λ x. length (x ++ units_of cs)) (units_high c l) in
    high_cut c a b m cs (units_high c l) (rec m (omega (arith, size)) (parts_later b (units_of cs) m (parts_later a (b ∷ units_of cs) (suc m) q)))

first_scalar : (c : ℕ) (cs : List ℕ) → all_scalars (c ∷ cs) ≡ true → scalar c ≡ true
first_scalar c cs h = (and_parts (scalar c) (all_scalars cs) h).0

later_scalars : (c : ℕ) (cs : List ℕ) → all_scalars (c ∷ cs) ≡ true → all_scalars cs ≡ true
later_scalars c cs h = (and_parts (scalar c) (all_scalars cs) h).1

cut_at : (cs : List ℕ) (n : ℕ) → all_scalars cs ≡ true → n ≤ length (units_of cs) → PartsNone (units_of cs) n → IsCut cs n
cut_at cs zero s few p = record { before = []; behind = cs; parts = refl; front = refl; back = refl }
cut_at [] (suc n) s few p = absurd (omega arith)
cut_at (c ∷ cs) (suc n) s few p = by_size (cases_lt c 0x10000) (λ m f q. cut_at cs m (later_scalars c cs s) f q)
  where
    by_size : (c < 0x10000) ⊎ (0x10000 ≤ c) → ((m : ℕ) → m ≤ length (units_of cs) → PartsNone (units_of cs) m → IsCut cs m) → IsCut (c ∷ cs) (suc n)
    by_size (inl h) rec =
        let size : length (units_of (c ∷ cs)) ≡ suc (length (units_of cs)) = ap (λ x. length (x ++ units_of cs)) (units_low c h) in
        low_cut c n cs (units_low c h) (rec n (omega (arith, size)) (parts_later c (units_of cs) n (subst (λ x. PartsNone (x ++ units_of cs) (suc n)) (units_low c h) p)))
    by_size (inr l) rec = high_at c n cs l (scalar_most c l (scalar_cases c (first_scalar c cs s))) rec few p

-- ---- the writer's cuts

pub first_low : (us : List ℕ) → slice_index us 32767 < 0xd800 → first_chunk us ≡ 32768
first_low us h = grind (arith, nat_tests)

pub first_high : (us : List ℕ) → 0xdc00 ≤ slice_index us 32767 → first_chunk us ≡ 32768
first_high us h = grind (arith, nat_tests)

pub first_pair : (us : List ℕ) → 0xd800 ≤ slice_index us 32767 → slice_index us 32767 < 0xdc00 → first_chunk us ≡ 32767
first_pair us l h = grind (arith, nat_tests)

parts_at : (xs : List ℕ) (n m : ℕ) → n ≡ suc m → (slice_index xs m < 0xd800) ⊎ ((0xdc00 ≤ slice_index xs m) ⊎ (slice_index xs (suc m) < 0xdc00)) → PartsNone xs n
parts_at xs n m e h = rw e h

-- where the first chunk of more ends
pub record IsFirst (us : List ℕ) (n : ℕ) : Type 0 where
  pub few : n ≤ 32768
  pub parts : PartsNone us n

first_is : (us : List ℕ) (n : ℕ) → n ≡ first_chunk us → IsFirst us n
first_is us n e = elim (cases_lt (slice_index us 32767) 0xd800) [
  | inl h ↦ let k : n ≡ 32768 = e ∙ first_low us h in record { few = omega arith; parts = parts_at us n 32767 (omega arith) (inl h) }
  | inr l ↦ elim (cases_lt (slice_index us 32767) 0xdc00) [
    | inr h ↦ let k : n ≡ 32768 = e ∙ first_high us h in record { few = omega arith; parts = parts_at us n 32767 (omega arith) (inr (inl h)) }
    | inl h ↦ let k : n ≡ 32767 = e ∙ first_pair us l h in record { few = omega arith; parts = parts_at us n 32766 (omega arith) (inr (inr h)) }
  ]
]

scalars_parts : (xs ys : List ℕ) → all_scalars (xs ++ ys) ≡ true → (all_scalars xs ≡ true) × (all_scalars ys ≡ true)
scalars_parts [] ys h = (refl, h)
scalars_parts (x ∷ xs) ys h =
    let k = scalars_parts xs ys (later_scalars x (xs ++ ys) h) in
    (ap (λ b. b && all_scalars xs) (first_scalar x (xs ++ ys) h) ∙ k.0, k.1)

units_spell : (us written cs : List ℕ) → WrittenUnits us written → all_scalars cs ≡ true → us ≡ units_of cs → Spelling Text (encode_utf8_all cs) written
units_spell us written cs (last_units xs few) s e = last (encode_utf8_all cs) (text_head (length xs)) (by_units xs) (length xs) (text_begins (length xs) few) (subst (λ x. Contents Text (encode_utf8_all cs) (length x) (by_units x)) (sym e) (chars_contents cs s))
units_spell us written cs (chunk_units xs rest n far is later) s e =
    let f = first_is xs n is in
    let len : length xs ≡ length (units_of cs) = ap length e in
    with_cut f.few (cut_at cs n s (omega (arith, len, f.few)) (subst (λ x. PartsNone x n) e f.parts)) (λ ds t q. units_spell (drop n xs) rest ds later t q)
  where
    with_cut : n ≤ 32768 → IsCut cs n → ((ds : List ℕ) → all_scalars ds ≡ true → drop n xs ≡ units_of ds → Spelling Text (encode_utf8_all ds) rest) → Spelling Text (encode_utf8_all cs) (0x52 ∷ n / 256 ∷ n % 256 ∷ (by_units (take n xs) ++ rest))
    with_cut few k rec =
        let sc = scalars_parts k.before k.behind (subst (λ x. all_scalars x ≡ true) k.parts s) in
        let front : take n xs ≡ units_of k.before = ap (take n) e ∙ k.front in
        let size : length (units_of k.before) ≡ n = ap length (sym front) ∙ length-take-le n xs (omega arith) in
        let c : Contents Text (encode_utf8_all k.before) n (by_units (take n xs)) = subst (λ x. Contents Text (encode_utf8_all k.before) n (by_units x)) (sym front) (subst (λ m. Contents Text (encode_utf8_all k.before) m (by_units (units_of k.before))) size (chars_contents k.before sc.0)) in
        let tail = rec k.behind sc.1 (ap (drop n) e ∙ k.back) in
        let one = chunk (encode_utf8_all k.before) (encode_utf8_all k.behind) (0x52 ∷ n / 256 ∷ n % 256 ∷ []) (by_units (take n xs)) rest n (text_inner (n / 256) (n % 256) n (omega arith) (omega arith) (omega arith)) c tail in
        subst (λ v. Spelling Text v (0x52 ∷ n / 256 ∷ n % 256 ∷ (by_units (take n xs) ++ rest))) (sym (ap encode_utf8_all k.parts ∙ encodes-append k.before k.behind)) one

pub text_spells : (text written : List ℕ) → WrittenText text written → Spelling Text text written
text_spells text written w = subst (λ t. Spelling Text t written) (sym w.are_chars) (units_spell (units_of w.chars) written w.chars w.written w.scalar refl)
