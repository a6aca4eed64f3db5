-- A refusal inside a text or a binary, which shows its kind by its first byte.
use Rattle.std.proofs.Common.{◌≡◌, ℕ, suc, ◌+◌, ◌-◌, ◌<◌, ◌≤◌, List, [], ◌∷◌, ◌++◌, length, take, drop, refl, sym, ap, subst, arith, ◌⊎◌, inl, inr}
use Rattle.std.specs.Prelude.{Some, slice_range}
use Rattle.std.proofs.lemmas.Bool.Decides.{nat_tests}
use Rattle.std.proofs.lemmas.List.{length-take-le, take-append-drop}
use Rattle.hessian_graph.specs.Refusal.{Cause, BadCode, BadText}
use Rattle.hessian_text.specs.declared.stage.Kind.{Kind}
use Rattle.hessian_text.specs.declared.stage.Kind.TheVariants as kinds
use Rattle.hessian_text.specs.declared.stage.Part.{Part}
use Rattle.hessian_text.specs.ChunkHead.{ChunkHead}
use Rattle.hessian_text.specs.ChunkHead.ChunkHead.{text_short, text_middle, text_inner, text_final, binary_short, binary_middle, binary_inner, binary_final}
use Rattle.hessian_text.specs.Refusal.{InnerChunks, IsBeforeItem, IsBadCode, IsBadText}
use Rattle.hessian_text.specs.Refusal.InnerChunks.{none as i_none, chunk as i_chunk}
use Rattle.hessian_reader.specs.Codes.{kind_of}

-- ---- the first byte

-- the first byte is a code of this kind
pub record Opens (kind : Kind) (bytes : List ℕ) : Type 0 where
  pub code : ℕ
  pub more : List ℕ
  pub bytes_are : bytes ≡ code ∷ more
  pub shows : kind_of code ≡ Some kind

pub opens_more : (kind : Kind) (xs ys : List ℕ) → Opens kind xs → Opens kind (xs ++ ys)
opens_more kind xs ys o = record { code = o.code; more = o.more ++ ys; bytes_are = ap (λ x. x ++ ys) o.bytes_are; shows = o.shows }

short_text : (c : ℕ) → c ≤ 0x1f → kind_of c ≡ Some kinds.Text
short_text c h = grind (arith, nat_tests)

middle_text : (c : ℕ) → 0x30 ≤ c → c ≤ 0x33 → kind_of c ≡ Some kinds.Text
middle_text c l h = grind (arith, nat_tests)

short_binary : (c : ℕ) → 0x20 ≤ c → c ≤ 0x2f → kind_of c ≡ Some kinds.Binary
short_binary c l h = grind (arith, nat_tests)

middle_binary : (c : ℕ) → 0x34 ≤ c → c ≤ 0x37 → kind_of c ≡ Some kinds.Binary
middle_binary c l h = grind (arith, nat_tests)

head_opens : (kind : Kind) (part : Part) (n : ℕ) (head : List ℕ) → ChunkHead kind part n head → Opens kind head
head_opens kind part n head (text_short c m i e) = record { code = c; more = []; bytes_are = refl; shows = short_text c i.high }
head_opens kind part n head (text_middle c b0 m i s e) = record { code = c; more = b0 ∷ []; bytes_are = refl; shows = middle_text c i.low i.high }
head_opens kind part n head (text_inner b1 b0 m s1 s0 e) = record { code = 0x52; more = b1 ∷ b0 ∷ []; bytes_are = refl; shows = refl }
head_opens kind part n head (text_final b1 b0 m s1 s0 e) = record { code = 0x53; more = b1 ∷ b0 ∷ []; bytes_are = refl; shows = refl }
head_opens kind part n head (binary_short c m i e) = record { code = c; more = []; bytes_are = refl; shows = short_binary c i.low i.high }
head_opens kind part n head (binary_middle c b0 m i s e) = record { code = c; more = b0 ∷ []; bytes_are = refl; shows = middle_binary c i.low i.high }
head_opens kind part n head (binary_inner b1 b0 m s1 s0 e) = record { code = 0x41; more = b1 ∷ b0 ∷ []; bytes_are = refl; shows = refl }
head_opens kind part n head (binary_final b1 b0 m s1 s0 e) = record { code = 0x42; more = b1 ∷ b0 ∷ []; bytes_are = refl; shows = refl }

inner_opens : (kind : Kind) (bytes : List ℕ) → InnerChunks kind bytes → (bytes ≡ []) ⊎ Opens kind bytes
inner_opens kind bytes i_none = inl refl
inner_opens kind bytes (i_chunk value head forms rest units h contents more) = inr (opens_more kind head (forms ++ rest) (head_opens kind _ units head h))

item_opens : (kind : Kind) (part : Part) (left : ℕ) (bytes : List ℕ) → IsBeforeItem kind part left bytes → Opens kind bytes
item_opens kind part left bytes b = subst (Opens kind) (sym b.bytes_are) (by_chunks b.chunks (inner_opens kind b.chunks b.earlier))
  where
    here : Opens kind (b.head ++ b.forms)
    here = opens_more kind b.head b.forms (head_opens kind part b.stated b.head b.begins)

    by_chunks : (chunks : List ℕ) → (chunks ≡ []) ⊎ Opens kind chunks → Opens kind (chunks ++ (b.head ++ b.forms))
    by_chunks chunks (inl e) = subst (λ x. Opens kind (x ++ (b.head ++ b.forms))) (sym e) here
    by_chunks chunks (inr o) = opens_more kind chunks (b.head ++ b.forms) o

-- ---- a refusal inside

-- a byte behind the first is refused in a leaf of this kind
pub data Inside (start : ℕ) (element : List ℕ) : Kind → Cause → Type 0 where
  in_code : (kind : Kind) (p code : ℕ) (cause : Cause) → IsBadCode kind element 0 p code → cause ≡ BadCode (start + p) code → Inside start element kind cause
  in_character : (p : ℕ) (cause : Cause) → IsBadText element 0 p → cause ≡ BadText (start + p) → Inside start element kinds.Text cause

pub record InLeaf (start : ℕ) (element : List ℕ) (cause : Cause) : Type 0 where
  pub kind : Kind
  pub opens : Opens kind element
  pub longer : 1 < length element
  pub refused : Inside start element kind cause

front_parts : (bytes : List ℕ) (p : ℕ) → bytes ≡ slice_range bytes 0 p ++ drop (p - 0) bytes
front_parts bytes p = sym (take-append-drop (p - 0) bytes)

front_length : (bytes : List ℕ) (p : ℕ) → p < length bytes → length (slice_range bytes 0 p) ≡ p
front_length bytes p low = let k : length (take (p - 0) bytes) ≡ p - 0 = length-take-le (p - 0) bytes (omega (arith, low)) in omega (arith, k)

nothing_length : (xs : List ℕ) → xs ≡ [] → length xs ≡ 0
nothing_length xs e = ap length e

code_opens : (kind : Kind) (element : List ℕ) (p code : ℕ) → 0 < p → IsBadCode kind element 0 p code → Opens kind element
code_opens kind element p code some bad = by_inner (inner_opens kind (slice_range element 0 p) bad.behind)
  where
    by_inner : (slice_range element 0 p ≡ []) ⊎ Opens kind (slice_range element 0 p) → Opens kind element
    by_inner (inl e) = absurd (let k = nothing_length (slice_range element 0 p) e in let n = front_length element p bad.within in omega (arith, k, n, some))
    by_inner (inr o) = subst (Opens kind) (sym (front_parts element p)) (opens_more kind (slice_range element 0 p) (drop (p - 0) element) o)

pub in_text_code : (start : ℕ) (element : List ℕ) (p code : ℕ) → 0 < p → IsBadCode kinds.Text element 0 p code → InLeaf start element (BadCode (start + p) code)
in_text_code start element p code some bad = record {
  kind = kinds.Text;
  opens = code_opens kinds.Text element p code some bad;
  longer = let w = bad.within in omega (arith, some, w);
  refused = in_code kinds.Text p code (BadCode (start + p) code) bad refl;
}

pub in_binary_code : (start : ℕ) (element : List ℕ) (p code : ℕ) → 0 < p → IsBadCode kinds.Binary element 0 p code → InLeaf start element (BadCode (start + p) code)
in_binary_code start element p code some bad = record {
  kind = kinds.Binary;
  opens = code_opens kinds.Binary element p code some bad;
  longer = let w = bad.within in omega (arith, some, w);
  refused = in_code kinds.Binary p code (BadCode (start + p) code) bad refl;
}

pub in_text_character : (start : ℕ) (element : List ℕ) (p : ℕ) → IsBadText element 0 p → InLeaf start element (BadText (start + p))
in_text_character start element p bad =
    let o = item_opens kinds.Text bad.part bad.left (slice_range element 0 p) bad.behind in
    let n = front_length element p bad.within in
    let k : length (slice_range element 0 p) ≡ suc (length o.more) = ap length o.bytes_are in
    let w = bad.within in
    record {
      kind = kinds.Text;
      opens = subst (Opens kinds.Text) (sym (front_parts element p)) (opens_more kinds.Text (slice_range element 0 p) (drop (p - 0) element) o);
      longer = omega (arith, n, k, w);
      refused = in_character p (BadText (start + p)) bad refl;
    }
