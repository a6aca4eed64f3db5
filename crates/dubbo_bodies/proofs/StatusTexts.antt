-- The text of a status is one at most, and none is refused.
use Rattle.std.proofs.Common.{◌≡◌, ◌≢◌, ℕ, ◌+◌, ◌<◌, ◌≤◌, List, [], ◌∷◌, ◌++◌, length, take, drop, refl, ap, sym, ◌∙◌, subst, arith, append_assoc}
use Rattle.std.specs.Prelude.{Some, slice_range}
use Rattle.std.proofs.lemmas.List.{length-append, take-append-le, drop-append-le, take_all}
use Rattle.std.proofs.Math.ListN.{get_or-append}
use Rattle.hessian_graph.specs.Shape.{Text}
use Rattle.hessian_graph.specs.Refusal.{Cause}
use Rattle.hessian_text.specs.declared.stage.Kind.{Kind}
use Rattle.hessian_text.specs.declared.stage.Kind.TheVariants.{Text as Letters}
use Rattle.hessian_text.specs.declared.stage.Part.{Part}
use Rattle.hessian_text.specs.declared.fault.TextFault.{TextFault}
use Rattle.hessian_text.specs.declared.fault.TextFault.TheVariants as texts
use Rattle.hessian_text.specs.Spelling.{AreBytes, Spelling}
use Rattle.hessian_text.specs.Refusal.{IsBadCode, IsBadText, IsBeforeItem, InnerChunks, RefusesText}
use Rattle.hessian_text.specs.ChunkHead.{ChunkHead}
use Rattle.hessian_text.specs.ChunkHead.ChunkHead.{text_short, text_middle, text_inner, text_final, binary_short, binary_middle, binary_inner, binary_final}
use Rattle.hessian_text.proofs.Running.{spelled_once}
use Rattle.hessian_text.proofs.OneAnswer.{text_or_fault}
use Rattle.hessian_text.proofs.TextUnits.{whole_slice}
use Rattle.hessian_reader.specs.declared.element.Want.TheVariants.{AText}
use Rattle.hessian_reader.specs.Leaves.{hessian}
use Rattle.hessian_reader.specs.Faults.{faults}
use Rattle.hessian_reader.specs.Codes.{kind_of, chunk_element}
use Rattle.hessian_reader.proofs.LeafCodes.{chunk_kind}
use Rattle.hessian_reader.proofs.Elements.{chunks_are, element_some}
use Rattle.dubbo_bodies.specs.Fields.{OptionalText, NULL}
use Rattle.dubbo_bodies.specs.Fields.OptionalText.{text as a_text, null as a_null}
use Rattle.dubbo_bodies.specs.Refusals.{TextRefused}
use Rattle.dubbo_bodies.specs.Refusals.TextRefused.{bad_code, bad_character}

-- no text begins with the code of null
pub no_null_text : (text more : List ℕ) → Spelling Letters text (NULL ∷ more) → ⊥
no_null_text text more s = let k : kind_of NULL ≡ Some Letters = chunk_kind Letters text more NULL s in cc

-- a text has at least one byte
pub some_text : (text bytes : List ℕ) → Spelling Letters text bytes → bytes ≢ []
some_text text bytes s = element_some AText bytes (chunk_element AText Letters text) (chunks_are AText Letters text bytes refl s)

-- ---- bytes are one optional text at most, and none goes on as another

null_alone_by : (text bytes more : List ℕ) → NULL ∷ [] ≡ bytes ++ more → Spelling Letters text bytes → ⊥
null_alone_by text [] more e s = some_text text [] s refl
null_alone_by text (b ∷ bs) more e s = let h : b ≡ NULL = cc in no_null_text text bs (subst (λ c. Spelling Letters text (c ∷ bs)) h s)

one_text_by : (text other : Text) (bytes more all : List ℕ) → AreBytes bytes → all ≡ bytes ++ more → OptionalText hessian text bytes → OptionalText hessian other all → (more ≡ []) × (other ≡ text)
one_text_by text other bytes more all small e (a_text t b s) (a_text t' b' s') = spelled_once Letters text other bytes more small s (subst (Spelling Letters other) e s')
one_text_by text other bytes more all small e (a_text t b s) a_null = absurd (null_alone_by text bytes more e s)
one_text_by text other bytes more all small e a_null (a_text t' b' s') = absurd (no_null_text other more (subst (Spelling Letters other) e s'))
one_text_by text other bytes more all small e a_null a_null = (sym (let f : [] ≡ more = cc in f), refl)

pub one_text : (text other : Text) (bytes more : List ℕ) → AreBytes bytes → OptionalText hessian text bytes → OptionalText hessian other (bytes ++ more) → (more ≡ []) × (other ≡ text)
one_text text other bytes more small o p = one_text_by text other bytes more (bytes ++ more) small refl o p

-- ---- a refusal inside a text stays, whatever follows

range_stays : (element rest : List ℕ) (p : ℕ) → p ≤ length element → slice_range (element ++ rest) 0 p ≡ slice_range element 0 p
range_stays element rest p h = whole_slice (element ++ rest) p ∙ take-append-le p element rest h ∙ sym (whole_slice element p)

code_stays : (element rest : List ℕ) (p code : ℕ) → IsBadCode Letters element 0 p code → IsBadCode Letters (element ++ rest) 0 p code
code_stays element rest p code h =
    let within : p < length element = h.within in
    let long : length (element ++ rest) ≡ length element + length rest = length-append element rest in
    record {
      after = h.after;
      within = omega (arith, within, long);
      behind = subst (InnerChunks Letters) (sym (range_stays element rest p (omega (arith, within)))) h.behind;
      code_is = h.code_is ∙ sym (get_or-append element rest 0 p within);
      begins = h.begins;
    }

character_stays : (element rest : List ℕ) (p : ℕ) → IsBadText element 0 p → IsBadText (element ++ rest) 0 p
character_stays element rest p h =
    let within : p < length element = h.within in
    let long : length (element ++ rest) ≡ length element + length rest = length-append element rest in
    let split : drop p (element ++ rest) ≡ drop p element ++ rest = drop-append-le p element rest (omega (arith, within)) in
    record {
      after = h.after;
      within = omega (arith, within, long);
      part = h.part;
      left = h.left;
      behind = subst (IsBeforeItem Letters h.part h.left) (sym (range_stays element rest p (omega (arith, within)))) h.behind;
      begins = λ value form more after units item fits e. h.begins value form (rest ++ more) after units item fits (sym (append_assoc (drop p element) rest more) ∙ ap (λ xs. xs ++ more) (sym split) ∙ e);
    }

-- ---- what is a text is not refused

not_refused : (text body : List ℕ) (fault : TextFault) → AreBytes body → Spelling Letters text body → RefusesText body 0 fault → fault ≡ texts.OutOfMemory
not_refused text body fault small s r = text_or_fault body text 0 (length body) fault small (record { after = omega arith; within = omega arith; spells = subst (Spelling Letters text) (sym (whole_slice body (length body) ∙ take_all (length body) body (omega arith))) s }) r

head_some : (kind : Kind) (part : Part) (n : ℕ) (head forms : List ℕ) → ChunkHead kind part n head → head ++ forms ≡ [] → ⊥
head_some kind part n head forms (text_short code m is e) f = cc
head_some kind part n head forms (text_middle code b0 m is l e) f = cc
head_some kind part n head forms (text_inner b1 b0 m l k e) f = cc
head_some kind part n head forms (text_final b1 b0 m l k e) f = cc
head_some kind part n head forms (binary_short code m is e) f = cc
head_some kind part n head forms (binary_middle code b0 m is l e) f = cc
head_some kind part n head forms (binary_inner b1 b0 m l k e) f = cc
head_some kind part n head forms (binary_final b1 b0 m l k e) f = cc

no_end : (xs ys : List ℕ) → [] ≡ xs ++ ys → ys ≡ []
no_end [] ys e = sym e
no_end (x ∷ xs) ys e = absurd cc

none_before : (part : Part) (left : ℕ) (bytes : List ℕ) → bytes ≡ [] → IsBeforeItem Letters part left bytes → ⊥
none_before part left bytes e b = head_some Letters part b.stated b.head b.forms b.begins (no_end b.chunks (b.head ++ b.forms) (sym e ∙ b.bytes_are))

null_front : (element rest : List ℕ) → NULL ∷ [] ≡ element ++ rest → length element ≤ 1
null_front element rest e =
    let long : length (element ++ rest) ≡ length element + length rest = length-append element rest in
    let one : 1 ≡ length (element ++ rest) = ap length e in
    omega (arith, long, one)

pub no_text_refused : (text : Text) (body : List ℕ) (cause : Cause) → AreBytes body → OptionalText hessian text body → TextRefused faults body cause → ⊥
no_text_refused text body cause small o r = by_refusal body cause refl o r
  where
    of_code : (text : Text) (all element rest : List ℕ) (p code : ℕ) → AreBytes all → all ≡ element ++ rest → 0 < p → IsBadCode Letters element 0 p code → OptionalText hessian text all → ⊥
    of_code text all element rest p code low e some h (a_text t b s) =
        let q : texts.BadCode p code ≡ texts.OutOfMemory = not_refused text all (texts.BadCode p code) low s (subst (λ b. IsBadCode Letters b 0 p code) (sym e) (code_stays element rest p code h)) in
        cc
    of_code text all element rest p code low e some h a_null =
        let l = null_front element rest e in
        let w : p < length element = h.within in
        omega (arith, l, w, some)

    of_character : (text : Text) (all element rest : List ℕ) (p : ℕ) → AreBytes all → all ≡ element ++ rest → IsBadText element 0 p → OptionalText hessian text all → ⊥
    of_character text all element rest p low e h (a_text t b s) =
        let q : texts.BadText p ≡ texts.OutOfMemory = not_refused text all (texts.BadText p) low s (subst (λ b. IsBadText b 0 p) (sym e) (character_stays element rest p h)) in
        cc
    of_character text all element rest p low e h a_null =
        let l = null_front element rest e in
        let w : p < length element = h.within in
        let first : p ≡ 0 = omega (arith, l, w) in
        none_before h.part h.left (slice_range element 0 p) (whole_slice element p ∙ ap (λ n. take n element) first) h.behind

    by_refusal : (all : List ℕ) (why : Cause) → all ≡ body → OptionalText hessian text body → TextRefused faults all why → ⊥
    by_refusal all why e o (bad_code element rest p code some h) = of_code text body element rest p code small (sym e) some h o
    by_refusal all why e o (bad_character element rest p h) = of_character text body element rest p small (sym e) h o
