-- Where a text is wanted, bytes hold a text there or have one refusal.
use Rattle.std.proofs.Common.{◌≡◌, ℕ, ◌<◌, List, [], ◌∷◌, ◌++◌, length, refl, sym, ap, subst, arith, append_assoc, length-append, inl, inr}
use Rattle.std.proofs.lemmas.Bool.{cases_lt}
use Rattle.std.proofs.lemmas.List.{append-nil, get_or_past}
use Rattle.hessian_graph.specs.Shape.{Text}
use Rattle.hessian_graph.specs.Refusal.{Cause, BadCode, BadText}
use Rattle.hessian_text.specs.declared.stage.Kind.TheVariants as kinds
use Rattle.hessian_text.specs.Items.{Contents}
use Rattle.hessian_text.specs.Items.Contents.{none as no_items, item as one_item}
use Rattle.hessian_text.specs.Refusal.{IsBadCode}
use Rattle.hessian_text.specs.Refusal.InnerChunks.{none as no_chunks}
use Rattle.hessian_text.specs.Spelling.{AreBytes, TextSpelling}
use Rattle.hessian_text.specs.Spelling.Spelling.{last as last_chunk, chunk as one_chunk}
use Rattle.hessian_reader.specs.Faults.{faults}
use Rattle.hessian_reader.specs.Leaves.{hessian}
use Rattle.hessian_reader.proofs.InsideLeaf.{Inside}
use Rattle.hessian_reader.proofs.InsideLeaf.Inside.{in_code}
use Rattle.hessian_reader.proofs.LeafBytes.{no_bytes, contents_bytes}
use Rattle.hessian_reader.proofs.OneInside.{one_inside}
use Rattle.hessian_reader.proofs.OneWay.{bytes_both}
use Rattle.dubbo_bodies.specs.Fields.{FieldsSpelling}
use Rattle.dubbo_bodies.specs.Fields.FieldSpelling.{text as f_text}
use Rattle.dubbo_bodies.specs.Fields.FieldsSpelling.{none as no_fields, one as one_field}
use Rattle.dubbo_bodies.specs.Refusals.{TextRefused, EndsInside, IsField, NoneBegins}
use Rattle.dubbo_bodies.specs.Refusals.TextRefused.{bad_code, bad_character}
use Rattle.dubbo_bodies.proofs.Running.{AreBytes as AllBytes}
use Rattle.dubbo_bodies.proofs.Counting.{small}
use Rattle.dubbo_bodies.proofs.FieldsOnce.{FieldForm, NextField, form_of}
use Rattle.dubbo_bodies.proofs.FieldsOnce.FieldForm.{a_text, a_null}
use Rattle.dubbo_bodies.proofs.TextsRefused.{field_not_refused, refused_inside}

-- ---- a text is refused inside for one cause

-- what follows changes nothing
refused_on : {rest : List ℕ} {cause : Cause} (more : List ℕ) → TextRefused faults rest cause → TextRefused faults (rest ++ more) cause
refused_on more (bad_code element rest p code some is) = subst (λ xs. TextRefused faults xs (BadCode p code)) (sym (append_assoc element rest more)) (bad_code element (rest ++ more) p code some is)
refused_on more (bad_character element rest p is) = subst (λ xs. TextRefused faults xs (BadText p)) (sym (append_assoc element rest more)) (bad_character element (rest ++ more) p is)

-- two causes are one
pub one_cause : {rest : List ℕ} {one other : Cause} → TextRefused faults rest one → TextRefused faults rest other → one ≡ other
one_cause {rest} {one} {other} p q = one_inside 0 rest kinds.Text kinds.Text one other refl (refused_inside p) (refused_inside q)

-- a cause of a text isn't its first code
first_place : (p c d : ℕ) → BadCode 0 c ≡ BadCode p d → p ≡ 0
first_place p c d e = cc

not_first : {rest : List ℕ} {cause : Cause} (code : ℕ) → TextRefused faults rest cause → BadCode 0 code ≡ cause → ⊥
not_first code (bad_code element rest p c some is) e = let k = first_place p code c e in omega (arith, some, k)
not_first code (bad_character element rest p is) e = cc

-- ---- a code with which no text begins there

bad_first : (code : ℕ) (rest : List ℕ) → ((text more : List ℕ) → TextSpelling text (code ∷ more) → ⊥) → IsBadCode kinds.Text (code ∷ rest) 0 0 code
bad_first code rest never = record { after = omega arith; within = omega arith; behind = no_chunks; code_is = refl; begins = never }

-- no text that begins with it is refused inside
pub no_code_inside : {place code : ℕ} {rest : List ℕ} {cause : Cause} → NoneBegins (IsField hessian place) code → TextRefused faults (code ∷ rest) cause → ⊥
no_code_inside {place} {code} {rest} {cause} none r =
    let bad = bad_first code rest (λ text more s. none more (text, f_text place text (code ∷ more) s)) in
    let first : Inside 0 (code ∷ rest) kinds.Text (BadCode 0 code) = in_code kinds.Text 0 code (BadCode 0 code) bad refl in
    not_first code r (one_inside 0 (code ∷ rest) kinds.Text kinds.Text (BadCode 0 code) cause refl first (refused_inside r))

-- no text that begins with it is cut short
pub no_code_short : {place code : ℕ} {rest : List ℕ} → NoneBegins (IsField hessian place) code → EndsInside (IsField hessian place) (code ∷ rest) → ⊥
no_code_short {rest = rest} none inside = none (rest ++ inside.more) inside.whole

-- ---- a text that is refused inside

-- it is no text that stands there
pub not_refused : {place : ℕ} {rest : List ℕ} {cause : Cause} → TextRefused faults rest cause → NextField place rest → ⊥
not_refused r next = field_not_refused next.text next.front next.more next.bytes (form_of next.spelled) r

-- and isn't cut short
pub refused_not_short : {place : ℕ} {rest : List ℕ} {cause : Cause} → TextRefused faults rest cause → EndsInside (IsField hessian place) rest → ⊥
refused_not_short {rest = rest} r inside =
    let whole = rest ++ inside.more in
    field_not_refused inside.whole.0 whole [] (sym (append-nil whole)) (form_of inside.whole.1) (refused_on inside.more r)

-- ---- texts are bytes

-- a text is a form of itself
own_form : {value forms : List ℕ} {units : ℕ} → Contents kinds.Text value units forms → Contents kinds.Text value units value
own_form no_items = no_items
own_form (one_item value form values forms units more is others) =
    one_item value value values values units more (record { char = is.char; scalar = is.scalar; value_is = is.value_is; units_are = is.units_are; form_is = inl is.value_is }) (own_form others)

value_bytes : {value bytes : List ℕ} → TextSpelling value bytes → AreBytes value
value_bytes (last_chunk value head forms units h are) = contents_bytes kinds.Text value units value (own_form are)
value_bytes (one_chunk value values head forms rest units h are more) = bytes_both value values (contents_bytes kinds.Text value units value (own_form are)) (value_bytes more)

text_bytes : {place : ℕ} {text : Text} {bytes : List ℕ} → FieldForm place text bytes → AreBytes text
text_bytes (a_text s) = value_bytes s
text_bytes (a_null p t e) = subst AreBytes (sym t) no_bytes

-- as the lemmas of descriptors have it
all_bytes : (text : Text) → AreBytes text → AllBytes text
all_bytes text low = small text (λ i. elim (cases_lt i (length text)) [ inl h ↦ low.small i h | inr h ↦ subst (λ x. x < 256) (sym (get_or_past text i 0 h)) (omega arith) ])

-- the last of texts in front of a body
pub last_bytes : {place : ℕ} {all : List Text} {bytes : List ℕ} (texts : List Text) (desc : Text) → all ≡ texts ++ desc ∷ [] → FieldsSpelling hessian place all bytes → AllBytes desc
last_bytes texts desc e (no_fields place) = let k : 0 ≡ length (texts ++ desc ∷ []) = ap length e in let n = length-append texts (desc ∷ []) in absurd (omega (arith, k, n))
last_bytes [] desc e (one_field place text later f r is more) = let same : text ≡ desc = cc in subst AllBytes same (all_bytes text (text_bytes (form_of is)))
last_bytes (t ∷ ts) desc e (one_field place text later f r is more) = let tail : later ≡ ts ++ desc ∷ [] = cc in last_bytes ts desc tail more
