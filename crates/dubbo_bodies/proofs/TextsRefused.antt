-- Where a text stands at the front of bytes, they are not refused inside it.
use Rattle.std.proofs.Common.{◌≡◌, ◌≢◌, ℕ, zero, suc, ◌+◌, ◌-◌, ◌<◌, ◌≤◌, List, [], ◌∷◌, ◌++◌, length, take, drop, refl, sym, ap, ◌∙◌, subst, arith, append_assoc, length-append}
use Rattle.std.specs.Prelude.{slice_range}
use Rattle.std.proofs.lemmas.List.{take-append-le}
use Rattle.std.proofs.Math.ListN.{get_or-append}
use Rattle.hessian_text.specs.declared.stage.Kind.{Kind}
use Rattle.hessian_text.specs.declared.stage.Kind.TheVariants as kinds
use Rattle.hessian_text.specs.declared.stage.Part.{Part}
use Rattle.hessian_text.specs.ChunkHead.{ChunkHead, IsCode}
use Rattle.hessian_text.specs.ChunkHead.ChunkHead.{text_short, text_middle, text_inner, text_final, binary_short, binary_middle, binary_inner, binary_final}
use Rattle.hessian_text.specs.Refusal.{InnerChunks, IsBeforeItem, BeginsNoItem, IsBadCode, IsBadText}
use Rattle.hessian_text.specs.Refusal.InnerChunks.{none as no_chunks, chunk as one_chunk}
use Rattle.hessian_text.specs.Spelling.{TextSpelling}
use Rattle.hessian_graph.specs.Refusal.{Cause, BadCode, BadText}
use Rattle.hessian_graph.specs.Shape.{Text}
use Rattle.hessian_reader.specs.Faults.{faults}
use Rattle.hessian_reader.proofs.InsideLeaf.{Inside}
use Rattle.hessian_reader.proofs.InsideLeaf.Inside.{in_code, in_character}
use Rattle.hessian_reader.proofs.OneInside.{not_inside}
use Rattle.dubbo_bodies.specs.Fields.{NULL}
use Rattle.dubbo_bodies.specs.Refusals.{TextRefused}
use Rattle.dubbo_bodies.specs.Refusals.TextRefused.{bad_code, bad_character}
use Rattle.dubbo_bodies.proofs.FieldsOnce.{FieldForm}
use Rattle.dubbo_bodies.proofs.FieldsOnce.FieldForm.{a_text, a_null}

-- ---- a refusal inside stays behind more bytes

from_first : (bytes : List ℕ) (p : ℕ) → slice_range bytes 0 p ≡ take p bytes
from_first bytes p = ap (λ m. take m bytes) (let e : p - 0 ≡ p = omega arith in e)

front_stays : (bytes more : List ℕ) (p : ℕ) → p < length bytes → slice_range bytes 0 p ≡ slice_range (bytes ++ more) 0 p
front_stays bytes more p h = from_first bytes p ∙ sym (take-append-le p bytes more (omega (arith, h))) ∙ sym (from_first (bytes ++ more) p)

longer : (bytes more : List ℕ) (p : ℕ) → p < length bytes → p < length (bytes ++ more)
longer bytes more p h = let k = length-append bytes more in omega (arith, k, h)

code_stays : (bytes more : List ℕ) (p code : ℕ) → IsBadCode kinds.Text bytes 0 p code → IsBadCode kinds.Text (bytes ++ more) 0 p code
code_stays bytes more p code h = record {
  after = h.after;
  within = longer bytes more p h.within;
  behind = subst (InnerChunks kinds.Text) (front_stays bytes more p h.within) h.behind;
  code_is = h.code_is ∙ sym (get_or-append bytes more 0 p h.within);
  begins = h.begins;
}

rest_on : (p : ℕ) (bytes more : List ℕ) → p ≤ length bytes → drop p (bytes ++ more) ≡ drop p bytes ++ more
rest_on zero bytes more h = refl
rest_on (suc p) [] more h = absurd (omega (arith, h))
rest_on (suc p) (b ∷ bs) more h = rest_on p bs more (omega (arith, h))

none_begins : (left : ℕ) (bytes more : List ℕ) → BeginsNoItem kinds.Text left bytes → BeginsNoItem kinds.Text left (bytes ++ more)
none_begins left bytes more never = λ value form on after units is fits e. never value form (more ++ on) after units is fits (sym (append_assoc bytes more on) ∙ e)

character_stays : (bytes more : List ℕ) (p : ℕ) → IsBadText bytes 0 p → IsBadText (bytes ++ more) 0 p
character_stays bytes more p h = record {
  after = h.after;
  within = longer bytes more p h.within;
  part = h.part;
  left = h.left;
  behind = subst (IsBeforeItem kinds.Text h.part h.left) (front_stays bytes more p h.within) h.behind;
  begins = subst (BeginsNoItem kinds.Text h.left) (sym (rest_on p bytes more (let k = h.within in omega (arith, k)))) (none_begins h.left (drop p bytes) more h.begins);
}

-- what is refused inside a text is refused inside a leaf that is one
pub refused_inside : {rest : List ℕ} {cause : Cause} → TextRefused faults rest cause → Inside 0 rest kinds.Text cause
refused_inside (bad_code element rest p code some is) = in_code kinds.Text p code (BadCode p code) (code_stays element rest p code is) (ap (λ n. BadCode n code) (let e : p ≡ 0 + p = omega arith in e))
refused_inside (bad_character element rest p is) = in_character p (BadText p) (character_stays element rest p is) (ap (λ n. BadText n) (let e : p ≡ 0 + p = omega arith in e))

-- ---- a text at the front

text_not_refused : {rest : List ℕ} {cause : Cause} (text front b : List ℕ) → rest ≡ front ++ b → TextSpelling text front → TextRefused faults rest cause → ⊥
text_not_refused {cause = cause} text front b e s r = not_inside 0 kinds.Text text front b cause s (subst (λ xs. Inside 0 xs kinds.Text cause) e (refused_inside r))

-- ---- null at the front

-- the bytes begin with a code that isn't null's
record FirstCode (bytes : List ℕ) : Type 0 where
  code : ℕ
  more : List ℕ
  bytes_are : bytes ≡ code ∷ more
  other : code ≢ NULL

short_other : (code : ℕ) → IsCode 0x00 0x1f code → code ≢ NULL
short_other code h e = let k = h.high in absurd (omega (arith, k, e))

middle_other : (code : ℕ) → IsCode 0x30 0x33 code → code ≢ NULL
middle_other code h e = let k = h.high in absurd (omega (arith, k, e))

head_code : {kind : Kind} {part : Part} {n : ℕ} {bytes : List ℕ} → kind ≡ kinds.Text → ChunkHead kind part n bytes → FirstCode bytes
head_code k (text_short code n is e) = record { code = code; more = []; bytes_are = refl; other = short_other code is }
head_code k (text_middle code b0 n is low e) = record { code = code; more = b0 ∷ []; bytes_are = refl; other = middle_other code is }
head_code k (text_inner b1 b0 n h l e) = record { code = 0x52; more = b1 ∷ b0 ∷ []; bytes_are = refl; other = λ z. absurd (omega (arith, z)) }
head_code k (text_final b1 b0 n h l e) = record { code = 0x53; more = b1 ∷ b0 ∷ []; bytes_are = refl; other = λ z. absurd (omega (arith, z)) }
head_code k (binary_short code n is e) = absurd (cc)
head_code k (binary_middle code b0 n is low e) = absurd (cc)
head_code k (binary_inner b1 b0 n h l e) = absurd (cc)
head_code k (binary_final b1 b0 n h l e) = absurd (cc)

code_on : (bytes rest : List ℕ) → FirstCode bytes → FirstCode (bytes ++ rest)
code_on bytes rest f = record { code = f.code; more = f.more ++ rest; bytes_are = ap (λ xs. xs ++ rest) f.bytes_are; other = f.other }

chunks_code : (bytes rest : List ℕ) → InnerChunks kinds.Text bytes → FirstCode rest → FirstCode (bytes ++ rest)
chunks_code bytes rest no_chunks f = f
chunks_code bytes rest (one_chunk value head forms later units h c more) f = code_on (head ++ (forms ++ later)) rest (code_on head (forms ++ later) (head_code refl h))

chunks_first : (bytes : List ℕ) → InnerChunks kinds.Text bytes → 0 < length bytes → FirstCode bytes
chunks_first bytes no_chunks h = absurd (omega (arith, h))
chunks_first bytes (one_chunk value head forms later units h c more) k = code_on head (forms ++ later) (head_code refl h)

item_first : (part : Part) (left : ℕ) (bytes : List ℕ) → IsBeforeItem kinds.Text part left bytes → FirstCode bytes
item_first part left bytes h = subst FirstCode (sym h.bytes_are) (chunks_code h.chunks (h.head ++ h.forms) h.earlier (code_on h.head h.forms (head_code refl h.begins)))

-- a front of bytes that begin with null's code begins so
null_front : (bytes b front : List ℕ) → bytes ≡ NULL ∷ b → FirstCode front → (p : ℕ) → front ≡ take p bytes → ⊥
null_front bytes b front e f zero h = let k : f.code ∷ f.more ≡ [] = sym f.bytes_are ∙ h in absurd (cc)
null_front bytes b front e f (suc p) h =
    let k : f.code ∷ f.more ≡ NULL ∷ take p b = sym f.bytes_are ∙ h ∙ ap (take (suc p)) e in
    f.other (first_same k)
  where
    first_same : {x y : ℕ} {xs ys : List ℕ} → x ∷ xs ≡ y ∷ ys → x ≡ y
    first_same q = cc

taken_some : (p : ℕ) (bytes : List ℕ) → 0 < p → p < length bytes → 0 < length (take p bytes)
taken_some zero bytes h k = absurd (omega (arith, h))
taken_some (suc p) [] h k = absurd (omega (arith, k))
taken_some (suc p) (b ∷ bs) h k = omega arith

null_not_refused : {rest : List ℕ} {cause : Cause} (b : List ℕ) → rest ≡ NULL ∷ b → TextRefused faults rest cause → ⊥
null_not_refused b e (bad_code element rest p code some is) =
    let inside = is.within in
    let behind : InnerChunks kinds.Text (take p element) = subst (InnerChunks kinds.Text) (from_first element p) is.behind in
    null_front (element ++ rest) b (take p element) e (chunks_first (take p element) behind (taken_some p element some inside)) p (sym (take-append-le p element rest (omega (arith, inside))))
null_not_refused b e (bad_character element rest p is) =
    let inside = is.within in
    let behind : IsBeforeItem kinds.Text is.part is.left (take p element) = subst (IsBeforeItem kinds.Text is.part is.left) (from_first element p) is.behind in
    null_front (element ++ rest) b (take p element) e (item_first is.part is.left (take p element) behind) p (sym (take-append-le p element rest (omega (arith, inside))))

pub field_not_refused : {place : ℕ} {rest : List ℕ} {cause : Cause} (text : Text) (front b : List ℕ) → rest ≡ front ++ b → FieldForm place text front → TextRefused faults rest cause → ⊥
field_not_refused text front b e (a_text s) r = text_not_refused text front b e s r
field_not_refused text front b e (a_null p t f) r = null_not_refused b (e ∙ ap (λ xs. xs ++ b) f) r
