-- What the writer appends, chunk by chunk.
use Rattle.std.proofs.Common.{◌≡◌, ℕ, zero, suc, true, ◌+◌, ◌-◌, ◌/◌, ◌%◌, ◌<◌, ◌≤◌, List, [], ◌∷◌, ◌++◌, length, take, drop, refl, sym, ap, ◌∙◌, subst, arith, append_assoc}
use Rattle.std.specs.Prelude.{Result, Ok, Err, OnErr, IsUtf8, encode_utf8, slice_range, slice_index}
use Rattle.std.specs.Str.{IsAscii, IsCharBoundary, chars, all_scalars}
use Rattle.std.proofs.lemmas.Str.{IsUtf8-from_ascii, IsUtf8-drop, IsCharBoundary-start, scalars-chars, chars-IsAscii, encodes-IsAscii, encodes-chars}
use Rattle.std.specs.List.{flat_map}
use Rattle.std.specs.Char.Escape.{encode_utf16}
use Rattle.std.proofs.lemmas.List.{append-nil, length-drop, drop-drop, take_all, get_or-drop}
use Rattle.std.proofs.lemmas.List.Concat.{flat_map-append}
use Rattle.std.proofs.Math.Seq.{take-append_seam, drop-append_seam}
use Rattle.std.proofs.lemmas.Bool.Decides.{nat_tests}
use Rattle.hessian_text.specs.declared.stage.Kind.{Kind}
use Rattle.hessian_text.specs.declared.stage.Kind.TheVariants.{Text, Binary}
use Rattle.hessian_text.specs.Written.{CHUNK, text_head, final_head, inner_code, by_units, first_chunk, WrittenBinary, WrittenUnits, WrittenPlain, AppendsBinary, AppendsText, AppendsPlain, BeginsWith}
use Rattle.hessian_text.specs.Written.WrittenPlain.{last, chunk}
use Rattle.hessian_text.specs.Written.WrittenBinary.{last as last_binary, chunk as chunk_binary}
use Rattle.hessian_text.specs.Written.WrittenUnits.{last as last_units, chunk as chunk_units}
use Rattle.hessian_text.specs.Units.{utf16, IsFirstChunk}
use Rattle.hessian_text.proofs.Shapes.{encode_one, units_low}
use Rattle.hessian_text.proofs.TextUnits.{cut_on, front_on, parts_of}

pub begins_more : (old mid new w : List ℕ) → mid ≡ old ++ w → BeginsWith mid new → BeginsWith old new
begins_more old mid new w e b = record { more = w ++ b.more; appended = b.appended ∙ ap (λ x. x ++ b.more) e ∙ append_assoc old w b.more }

pub begins_on : (old mid new : List ℕ) → BeginsWith old mid → BeginsWith mid new → BeginsWith old new
begins_on old mid new a b = begins_more old mid new a.more a.appended b

-- ---- bytes that are their own forms

-- the chunks so far: what the rest leads to, all leads to
pub record PlainSoFar (kind : Kind) (old bytes : List ℕ) (at : ℕ) (now : List ℕ) : Type 0 where
  pub within : at ≤ length bytes
  pub written : List ℕ
  pub appended : now ≡ old ++ written
  pub leads : (rest : List ℕ) → WrittenPlain kind (drop at bytes) rest → WrittenPlain kind bytes (written ++ rest)

pub plain_chunk : (kind : Kind) (old bytes : List ℕ) (at : ℕ) (now new : List ℕ) → PlainSoFar kind old bytes at now → 32768 < length bytes - at → new ≡ now ++ (inner_code kind ∷ 0x80 ∷ 0x00 ∷ slice_range bytes at (at + 32768)) → PlainSoFar kind old bytes (at + 32768) new
plain_chunk kind old bytes at now new p more e =
    let piece = inner_code kind ∷ 0x80 ∷ 0x00 ∷ slice_range bytes at (at + 32768) in
    let front : slice_range bytes at (at + 32768) ≡ take CHUNK (drop at bytes) = ap (λ n. take n (drop at bytes)) (let k : at + 32768 - at ≡ 32768 = omega arith in k) in
    let len : length (drop at bytes) ≡ length bytes - at = length-drop at bytes in
    let far : CHUNK < length (drop at bytes) = omega (arith, len) in
    record {
      within = omega arith;
      written = p.written ++ piece;
      appended = e ∙ ap (λ x. x ++ piece) p.appended ∙ append_assoc old p.written piece;
      leads = λ rest w.
          let later : WrittenPlain kind (drop CHUNK (drop at bytes)) rest = subst (λ x. WrittenPlain kind x rest) (sym (drop-drop CHUNK at bytes)) w in
          let one : WrittenPlain kind (drop at bytes) (inner_code kind ∷ 0x80 ∷ 0x00 ∷ (take CHUNK (drop at bytes) ++ rest)) = chunk (drop at bytes) rest far later in
          let all = p.leads (inner_code kind ∷ 0x80 ∷ 0x00 ∷ (take CHUNK (drop at bytes) ++ rest)) one in
          subst (λ x. WrittenPlain kind bytes x) (ap (λ x. p.written ++ (inner_code kind ∷ 0x80 ∷ 0x00 ∷ (x ++ rest))) (sym front) ∙ sym (append_assoc p.written piece rest)) all;
    }

pub plain_end : (kind : Kind) (old bytes piece : List ℕ) (at : ℕ) (now new : List ℕ) → PlainSoFar kind old bytes at now → length bytes - at ≤ 32768 → piece ≡ drop at bytes → new ≡ now ++ (final_head kind (length piece) ++ piece) → AppendsPlain kind old bytes new
plain_end kind old bytes piece at now new p few same e =
    let end = final_head kind (length (drop at bytes)) ++ drop at bytes in
    let len : length (drop at bytes) ≡ length bytes - at = length-drop at bytes in
    let e' : new ≡ now ++ end = subst (λ x. new ≡ now ++ (final_head kind (length x) ++ x)) same e in
    record { written = p.written ++ end; spells = p.leads end (last (drop at bytes) (omega (arith, len))); appended = e' ∙ ap (λ x. x ++ end) p.appended ∙ append_assoc old p.written end }

plain_binary : (contents written : List ℕ) → WrittenPlain Binary contents written → WrittenBinary contents written
plain_binary contents written (last bytes few) = last_binary bytes few
plain_binary contents written (chunk bytes rest far later) = chunk_binary bytes rest far (plain_binary (drop CHUNK bytes) rest later)

pub appends_binary : (old contents new : List ℕ) → AppendsPlain Binary old contents new → AppendsBinary old contents new
appends_binary old contents new a = record { written = a.written; spells = plain_binary contents a.written a.spells; appended = a.appended }

-- ---- characters, each of their units by itself

-- the chunks so far: what the rest leads to, all leads to
pub record TextSoFar (old text : List ℕ) (at : ℕ) (now : List ℕ) : Type 0 where
  pub cut : IsCharBoundary text at
  pub written : List ℕ
  pub appended : now ≡ old ++ written
  pub leads : (rest : List ℕ) → WrittenUnits (utf16 (drop at text)) rest → WrittenUnits (utf16 text) (written ++ rest)

pub text_start : (old text : List ℕ) → IsUtf8 text → TextSoFar old text 0 old
text_start old text u = record { cut = IsCharBoundary-start text u; written = []; appended = sym (append-nil old); leads = λ rest w. w }

pub text_begins_with : (old text : List ℕ) (at : ℕ) (now : List ℕ) → TextSoFar old text at now → BeginsWith old now
text_begins_with old text at now p = record { more = p.written; appended = p.appended }

-- the units of a front of whole characters, and the units behind it
front_units : (text : List ℕ) (len units : ℕ) → IsUtf8 text → IsFirstChunk text len units → (take units (utf16 text) ≡ utf16 (take len text)) × (drop units (utf16 text) ≡ utf16 (drop len text))
front_units text len units u f =
    let front = utf16 (take len text) in
    let behind = utf16 (drop len text) in
    let parts : utf16 text ≡ front ++ behind = parts_of text len u f.cut in
    let P : ℕ → Type 0 = λ n. (take n (utf16 text) ≡ front) × (drop n (utf16 text) ≡ behind) in
    subst P (sym f.units_are) (ap (take (length front)) parts ∙ take-append_seam front behind, ap (drop (length front)) parts ∙ drop-append_seam front behind)

pub text_chunk : (old text : List ℕ) (at len units : ℕ) (now new : List ℕ) → IsUtf8 text → TextSoFar old text at now → IsFirstChunk (drop at text) len units → len < length (drop at text) → new ≡ now ++ (0x52 ∷ units / 256 ∷ units % 256 ∷ by_units (utf16 (take len (drop at text)))) → TextSoFar old text (at + len) new
text_chunk old text at len units now new u p f more e =
    let rest_of = drop at text in
    let v : IsUtf8 rest_of = IsUtf8-drop text at u p.cut in
    let sides = front_units rest_of len units v f in
    let put = 0x52 ∷ units / 256 ∷ units % 256 ∷ by_units (utf16 (take len rest_of)) in
    record {
      cut = cut_on text at len p.cut f.cut;
      written = p.written ++ put;
      appended = e ∙ ap (λ x. x ++ put) p.appended ∙ append_assoc old p.written put;
      leads = λ rest w.
          let later : WrittenUnits (drop units (utf16 rest_of)) rest = subst (λ x. WrittenUnits x rest) (ap utf16 (sym (drop-drop len at text)) ∙ sym sides.1) w in
          let one = chunk_units (utf16 rest_of) rest units (f.more more) (f.full more) later in
          let all = p.leads (0x52 ∷ units / 256 ∷ units % 256 ∷ (by_units (take units (utf16 rest_of)) ++ rest)) one in
          subst (λ x. WrittenUnits (utf16 text) x) (ap (λ x. p.written ++ (0x52 ∷ units / 256 ∷ units % 256 ∷ (by_units x ++ rest))) sides.0 ∙ sym (append_assoc p.written put rest)) all;
    }

pub text_end : (old text : List ℕ) (at len units : ℕ) (now new : List ℕ) → IsUtf8 text → TextSoFar old text at now → IsFirstChunk (drop at text) len units → length (drop at text) ≤ len → new ≡ now ++ (text_head units ++ by_units (utf16 (drop at text))) → AppendsText old text new
text_end old text at len units now new u p f whole e =
    let rest = drop at text in
    let all : take len rest ≡ rest = take_all len rest whole in
    let size : units ≡ length (utf16 rest) = f.units_are ∙ ap (λ x. length (utf16 x)) all in
    let end = text_head units ++ by_units (utf16 rest) in
    let one : WrittenUnits (utf16 rest) end = subst (λ n. WrittenUnits (utf16 rest) (text_head n ++ by_units (utf16 rest))) (sym size) (last_units (utf16 rest) (subst (λ n. n ≤ CHUNK) size f.few)) in
    record {
      written = p.written ++ end;
      spells = record {
        chars = chars text;
        scalar = scalars-chars text u;
        are_chars = sym (encodes-chars text u);
        written = p.leads end one;
      };
      appended = e ∙ ap (λ x. x ++ end) p.appended ∙ append_assoc old p.written end;
    }

-- the units so far and those of a front of the rest
pub units_more : (old text : List ℕ) (at n : ℕ) (now new : List ℕ) → IsUtf8 text → IsCharBoundary text at → now ≡ old ++ by_units (utf16 (take at text)) → new ≡ now ++ by_units (utf16 (take n (drop at text))) → new ≡ old ++ by_units (utf16 (take (at + n) text))
units_more old text at n now new u cut e f =
    let front = utf16 (take at text) in
    let next = utf16 (take n (drop at text)) in
    f ∙ ap (λ x. x ++ by_units next) e ∙ append_assoc old (by_units front) (by_units next) ∙ ap (λ x. old ++ x) (sym (flat_map-append encode_utf8 front next)) ∙ ap (λ x. old ++ by_units x) (sym (front_on text at n u cut))

-- ---- texts

tail_ascii : (b : ℕ) (bs : List ℕ) → IsAscii (b ∷ bs) → IsAscii bs
tail_ascii b bs h = λ i. h (suc i)

drop_ascii : (n : ℕ) (bs : List ℕ) → IsAscii bs → IsAscii (drop n bs)
drop_ascii n bs h = λ i. subst (λ x. x < 128) (sym (get_or-drop n bs i 0)) (h (n + i))

take_ascii : (n : ℕ) (bs : List ℕ) → IsAscii bs → IsAscii (take n bs)
take_ascii zero bs h = λ i. omega arith
take_ascii (suc n) [] h = h
take_ascii (suc n) (b ∷ bs) h = go (take_ascii n bs (tail_ascii b bs h))
  where
    go : IsAscii (take n bs) → IsAscii (b ∷ take n bs)
    go k zero = h 0
    go k (suc i) = k i

ascii_by_units : (bs : List ℕ) → IsAscii bs → by_units bs ≡ bs
ascii_by_units [] h = refl
ascii_by_units (b ∷ bs) h = ap (λ x. x ++ by_units bs) (encode_one b (h 0)) ∙ ap (λ x. b ∷ x) (ascii_by_units bs (tail_ascii b bs h))

pub ascii_units : (bs : List ℕ) → IsAscii bs → flat_map encode_utf16 bs ≡ bs
ascii_units [] h = refl
ascii_units (b ∷ bs) h = ap (λ x. x ++ flat_map encode_utf16 bs) (units_low b (let k : b < 128 = h 0 in omega arith)) ∙ ap (λ x. b ∷ x) (ascii_units bs (tail_ascii b bs h))

first_ascii : (units : List ℕ) (x : ℕ) → slice_index units 32767 ≡ x → x < 128 → 32768 ≡ first_chunk units
first_ascii units x e h = grind (arith, nat_tests)

plain_units : (bytes written : List ℕ) → IsAscii bytes → WrittenPlain Text bytes written → WrittenUnits bytes written
plain_units bytes written h (last b few) = subst (λ x. WrittenUnits bytes (text_head (length bytes) ++ x)) (ascii_by_units bytes h) (last_units bytes few)
plain_units bytes written h (chunk b rest far later) = subst (λ x. WrittenUnits bytes (0x52 ∷ 0x80 ∷ 0x00 ∷ (x ++ rest))) (ascii_by_units (take CHUNK bytes) (take_ascii CHUNK bytes h)) (chunk_units bytes rest CHUNK far (first_ascii bytes (slice_index bytes 32767) refl (h 32767)) (plain_units (drop CHUNK bytes) rest (drop_ascii CHUNK bytes h) later))

pub appends_ascii : (old text new : List ℕ) → IsAscii text → AppendsPlain Text old text new → AppendsText old text new
appends_ascii old text new h a = record {
  written = a.written;
  spells = record {
    chars = text;
    scalar = subst (λ x. all_scalars x ≡ true) (chars-IsAscii text h) (scalars-chars text (IsUtf8-from_ascii text h));
    are_chars = sym (encodes-IsAscii text h);
    written = subst (λ x. WrittenUnits x a.written) (sym (ascii_units text h)) (plain_units text a.written h a.spells);
  };
  appended = a.appended;
}

pub on_err_any : {T E P : Type 0} (r : Result T E) → P → OnErr r P
on_err_any (Ok x) p = tt
on_err_any (Err e) p = p
