-- A short head, and a chunk of ASCII behind it.
use Rattle.std.proofs.Common.{◌≡◌, ℕ, ◌+◌, ◌*◌, ◌-◌, ◌<◌, ◌≤◌, List, [], ◌∷◌, ◌++◌, length, take, drop, refl, sym, ap, ◌∙◌, subst, arith}
use Rattle.std.specs.Prelude.{slice_index}
use Rattle.std.specs.Str.{IsAscii}
use Rattle.std.proofs.Math.Seq.{take-add}
use Rattle.std.specs.List.{flat_map}
use Rattle.std.specs.Char.Escape.{encode_utf16}
use Rattle.std.proofs.lemmas.List.{length-drop, length-take-le}
use Rattle.std.proofs.lemmas.Str.{IsUtf8-from_ascii, chars-IsAscii}
use Rattle.hessian_text.specs.declared.stage.Kind.TheVariants.{Text}
use Rattle.hessian_text.specs.declared.stage.Part.TheVariants.{Final}
use Rattle.hessian_text.specs.ChunkHead.{ChunkHead}
use Rattle.hessian_text.specs.ChunkHead.ChunkHead.{text_short, text_middle, text_final}
use Rattle.hessian_text.specs.Items.{Contents}
use Rattle.hessian_text.specs.Spelling.{TextSpelling}
use Rattle.hessian_text.specs.Spelling.Spelling.{last}
use Rattle.hessian_text.specs.Units.{utf16}
use Rattle.hessian_text.proofs.ItemRuns.{utf8_front}
use Rattle.hessian_text.proofs.Writings.{ascii_units}

front_one : (piece : List ℕ) → 1 ≤ length piece → slice_index piece 0 ∷ [] ≡ take 1 piece
front_one [] h = absurd (omega arith)
front_one (a ∷ more) h = refl

front_two : (piece : List ℕ) → 2 ≤ length piece → slice_index piece 0 ∷ slice_index piece 1 ∷ [] ≡ take 2 piece
front_two [] h = absurd (omega arith)
front_two (a ∷ []) h = absurd (omega arith)
front_two (a ∷ b ∷ more) h = refl

pub short_one : (piece : List ℕ) (n : ℕ) → 1 ≤ length piece → slice_index piece 0 ≤ 0x1f → n ≡ slice_index piece 0 → ChunkHead Text Final n (take 1 piece)
short_one piece n h most is = subst (ChunkHead Text Final n) (front_one piece h) (text_short (slice_index piece 0) n (record { low = omega arith; high = most }) is)

pub short_two : (piece : List ℕ) (n : ℕ) → 2 ≤ length piece → 0x30 ≤ slice_index piece 0 → slice_index piece 0 ≤ 0x33 → slice_index piece 1 < 256 → n ≡ (slice_index piece 0 - 0x30) * 256 + slice_index piece 1 → ChunkHead Text Final n (take 2 piece)
short_two piece n h least most small is = subst (ChunkHead Text Final n) (front_two piece h) (text_middle (slice_index piece 0) (slice_index piece 1) n (record { low = least; high = most }) small is)

ascii_len : (text : List ℕ) → IsAscii text → length (utf16 text) ≡ length text
ascii_len text h = ap (λ cs. length (flat_map encode_utf16 cs)) (chars-IsAscii text h) ∙ ap length (ascii_units text h)

ascii_contents : (text : List ℕ) → IsAscii text → Contents Text text (length text) text
ascii_contents text h = subst (λ n. Contents Text text n text) (ascii_len text h) (utf8_front text (IsUtf8-from_ascii text h))

pub chunk_spells : (piece text : List ℕ) (len units size : ℕ) → ChunkHead Text Final units (take len piece) → len + units ≤ length piece → size ≡ units → text ≡ take size (drop len piece) → IsAscii text → TextSpelling text (take (len + units) piece)
chunk_spells piece text len units size head within is text_is ascii =
    let behind : length (drop len piece) ≡ length piece - len = length-drop len piece in
    let front : text ≡ take units (drop len piece) = text_is ∙ ap (λ n. take n (drop len piece)) is in
    let count : length text ≡ units = ap length front ∙ length-take-le units (drop len piece) (omega (arith, behind)) in
    let contents : Contents Text text units text = subst (λ n. Contents Text text n text) count (ascii_contents text ascii) in
    let all : take len piece ++ text ≡ take (len + units) piece = ap (λ x. take len piece ++ x) front ∙ sym (take-add len units piece) in
    subst (TextSpelling text) all (last text (take len piece) text units head contents)

-- the row of a short head, told by the first bytes of a piece
pub data Row (piece : List ℕ) (n len : ℕ) : Type 0 where
  one : len ≡ 1 → 1 ≤ length piece → slice_index piece 0 ≤ 0x1f → n ≡ slice_index piece 0 → Row piece n len
  two : len ≡ 2 → 2 ≤ length piece → 0x30 ≤ slice_index piece 0 → slice_index piece 0 ≤ 0x33 → n ≡ (slice_index piece 0 - 0x30) * 256 + slice_index piece 1 → Row piece n len

head_row : (piece : List ℕ) (n len : ℕ) (head : List ℕ) → ChunkHead Text Final n head → head ≡ take len piece → len ≤ 2 → len ≤ length piece → Row piece n len
head_row piece n len head (text_short c m h e) k few within =
    let size : 1 ≡ len = ap length k ∙ length-take-le len piece within in
    let here : c ∷ [] ≡ take 1 piece = subst (λ l. c ∷ [] ≡ take l piece) (sym size) k in
    let first : c ≡ slice_index piece 0 = ap (λ l. slice_index l 0) (here ∙ sym (front_one piece (omega (arith, size, within)))) in
    let most : c ≤ 0x1f = h.high in
    one (sym size) (omega (arith, size, within)) (omega (arith, first, most)) (e ∙ first)
head_row piece n len head (text_middle c b0 m h s e) k few within =
    let size : 2 ≡ len = ap length k ∙ length-take-le len piece within in
    let here : c ∷ b0 ∷ [] ≡ take 2 piece = subst (λ l. c ∷ b0 ∷ [] ≡ take l piece) (sym size) k in
    let both : c ∷ b0 ∷ [] ≡ slice_index piece 0 ∷ slice_index piece 1 ∷ [] = here ∙ sym (front_two piece (omega (arith, size, within))) in
    let first : c ≡ slice_index piece 0 = ap (λ l. slice_index l 0) both in
    let second : b0 ≡ slice_index piece 1 = ap (λ l. slice_index l 1) both in
    let least : 0x30 ≤ c = h.low in
    let most : c ≤ 0x33 = h.high in
    two (sym size) (omega (arith, size, within)) (omega (arith, first, least)) (omega (arith, first, most)) (omega (arith, e, first, second))
head_row piece n len head (text_final b1 b0 m s1 s0 e) k few within =
    let size : 3 ≡ len = ap length k ∙ length-take-le len piece within in
    absurd (omega (arith, size, few))

pub row_of : (piece : List ℕ) (n len : ℕ) → len ≤ 2 → len ≤ length piece → ChunkHead Text Final n (take len piece) → Row piece n len
row_of piece n len few within h = head_row piece n len (take len piece) h refl few within
