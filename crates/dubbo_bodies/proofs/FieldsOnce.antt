-- The texts in front of a request's values: bytes begin with them in one way.
use Rattle.std.proofs.Common.{◌≡◌, ℕ, suc, ◌+◌, ◌<◌, ◌≤◌, List, [], ◌∷◌, ◌++◌, length, refl, sym, ap, ◌∙◌, subst, arith, append_assoc}
use Rattle.std.specs.Prelude.{Option, Some, None}
use Rattle.std.proofs.lemmas.List.{append-nil}
use Rattle.hessian_graph.specs.Shape.{Text}
use Rattle.hessian_text.specs.declared.stage.Kind.{Kind}
use Rattle.hessian_text.specs.declared.stage.Kind.TheVariants as kinds
use Rattle.hessian_text.specs.Spelling.{AreBytes, TextSpelling}
use Rattle.hessian_text.proofs.Running.{spelled_once}
use Rattle.hessian_reader.specs.Leaves.{hessian}
use Rattle.hessian_reader.proofs.LeafBytes.{no_bytes, cons_bytes, spelling_bytes}
use Rattle.hessian_reader.proofs.LeafCodes.{chunk_kind}
use Rattle.hessian_reader.proofs.Live.{nothing_spelled}
use Rattle.hessian_reader.proofs.OneWay.{Fronts, fronts}
use Rattle.hessian_reader.proofs.OneWay.Fronts.{first_shorter, second_shorter}
use Rattle.dubbo_bodies.specs.Fields.{VERSION, NULL, OptionalText, FieldSpelling, FieldsSpelling}
use Rattle.dubbo_bodies.specs.Fields.OptionalText.{text as o_text, null as o_null}
use Rattle.dubbo_bodies.specs.Fields.FieldSpelling.{text as f_text, version as f_version}
use Rattle.dubbo_bodies.specs.Fields.FieldsSpelling.{none as no_fields, one as one_field}

-- ---- one text

-- no text begins with null's code
pub null_no_text : (text more : List ℕ) → TextSpelling text (NULL ∷ more) → ⊥
null_no_text text more s = let e : ◌≡◌ {A = Option Kind} None (Some kinds.Text) = chunk_kind kinds.Text text more NULL s in absurd (cc)

-- a text has bytes
pub some_text : (text : List ℕ) → TextSpelling text [] → ⊥
some_text text s = let e : ◌≡◌ {A = List ℕ} (0 ∷ []) [] = (spelled_once kinds.Text text [] [] (0 ∷ []) no_bytes s nothing_spelled).0 in absurd (cc)

-- a text at a place is a text, or null in the place of the version
pub data FieldForm (place : ℕ) (text : Text) (bytes : List ℕ) : Type 0 where
  a_text : TextSpelling text bytes → FieldForm place text bytes
  a_null : place ≡ VERSION → text ≡ [] → bytes ≡ NULL ∷ [] → FieldForm place text bytes

optional_form : {text : Text} {bytes : List ℕ} → OptionalText hessian text bytes → FieldForm VERSION text bytes
optional_form (o_text text bytes s) = a_text s
optional_form o_null = a_null refl refl refl

pub form_of : {place : ℕ} {text : Text} {bytes : List ℕ} → FieldSpelling hessian place text bytes → FieldForm place text bytes
form_of (f_text place text bytes s) = a_text s
form_of (f_version text bytes o) = optional_form o

-- and is bytes
pub field_bytes : {place : ℕ} {text : Text} {bytes : List ℕ} → FieldForm place text bytes → AreBytes bytes
field_bytes {text = text} {bytes = bytes} (a_text s) = spelling_bytes kinds.Text text bytes s
field_bytes (a_null p t e) = subst AreBytes (sym e) (cons_bytes NULL [] (omega arith) no_bytes)

null_alone : (w xs more : List ℕ) → xs ≡ NULL ∷ [] → TextSpelling w (xs ++ more) → ⊥
null_alone w xs more e s = null_no_text w more (subst (λ ys. TextSpelling w (ys ++ more)) e s)

text_not_null : (v xs more : List ℕ) → TextSpelling v xs → xs ++ more ≡ NULL ∷ [] → ⊥
text_not_null v [] more s e = some_text v s
text_not_null v (x ∷ xs) more s e = let first : x ≡ NULL = cc in null_no_text v xs (subst (λ c. TextSpelling v (c ∷ xs)) first s)

rest_nil : (xs more : List ℕ) → xs ≡ NULL ∷ [] → xs ++ more ≡ NULL ∷ [] → more ≡ []
rest_nil xs more e f = let g : NULL ∷ more ≡ NULL ∷ [] = ap (λ ys. ys ++ more) (sym e) ∙ f in cc

forms_once : {place : ℕ} {v w xs more : List ℕ} → FieldForm place v xs → FieldForm place w (xs ++ more) → (more ≡ []) × (w ≡ v)
forms_once {v = v} {w = w} {xs = xs} {more = more} (a_text s) (a_text t) = spelled_once kinds.Text v w xs more (spelling_bytes kinds.Text v xs s) s t
forms_once {v = v} {xs = xs} {more = more} (a_text s) (a_null p e f) = absurd (text_not_null v xs more s f)
forms_once {w = w} {xs = xs} {more = more} (a_null p e f) (a_text t) = absurd (null_alone w xs more f t)
forms_once {xs = xs} {more = more} (a_null p e f) (a_null q g h) = (rest_nil xs more f h, g ∙ sym e)

-- a text at a place is one, and nothing that goes on behind it is one there
pub field_once : {place : ℕ} {v w xs more : List ℕ} → FieldSpelling hessian place v xs → FieldSpelling hessian place w (xs ++ more) → (more ≡ []) × (w ≡ v)
field_once s t = forms_once (form_of s) (form_of t)

-- ---- texts one after another

-- the same texts come first, and the bytes between spell those that are more
pub record SameFields (place : ℕ) (xs ys : List Text) (rest rest' : List ℕ) : Type 0 where
  pub later : List Text
  pub between : List ℕ
  pub texts : ys ≡ xs ++ later
  pub bytes : rest ≡ between ++ rest'
  pub spelled : FieldsSpelling hessian (place + length xs) later between

-- two texts at one place, whose bytes go on
pub record SameField (v w front rest front' rest' : List ℕ) : Type 0 where
  pub text_is : w ≡ v
  pub front_is : front' ≡ front
  pub rest_is : rest ≡ rest'

pub same_field : {place : ℕ} {v w front rest front' rest' : List ℕ} → FieldSpelling hessian place v front → FieldSpelling hessian place w front' → Fronts front rest front' rest' → SameField v w front rest front' rest'
same_field {place} {v} {w} {front} {rest} {front'} {rest'} s t (first_shorter k x y) =
    let (none, same) = field_once {more = k} s (subst (FieldSpelling hessian place w) x t) in
    record { text_is = same; front_is = x ∙ ap (λ z. front ++ z) none ∙ append-nil front; rest_is = y ∙ ap (λ z. z ++ rest') none }
same_field {place} {v} {w} {front} {rest} {front'} {rest'} s t (second_shorter k x y) =
    let (none, same) = field_once {more = k} t (subst (FieldSpelling hessian place v) x s) in
    record { text_is = sym same; front_is = sym (x ∙ ap (λ z. front' ++ z) none ∙ append-nil front'); rest_is = sym (y ∙ ap (λ z. z ++ rest) none) }

more_same : {place : ℕ} {x y : Text} {xs ys : List Text} {rest rest' : List ℕ} → y ≡ x → SameFields (suc place) xs ys rest rest' → SameFields place (x ∷ xs) (y ∷ ys) rest rest'
more_same {place} {x} {y} {xs} {ys} e s = record {
  later = s.later;
  between = s.between;
  texts = ap (λ z. z ∷ ys) e ∙ ap (λ zs. x ∷ zs) s.texts;
  bytes = s.bytes;
  spelled = subst (λ n. FieldsSpelling hessian n s.later s.between) (let k : suc place + length xs ≡ place + length (x ∷ xs) = omega arith in k) s.spelled;
}

pub aligned : {place : ℕ} {xs ys : List Text} {front front' : List ℕ} (rest rest' : List ℕ) → FieldsSpelling hessian place xs front → FieldsSpelling hessian place ys front' → front ++ rest ≡ front' ++ rest' → length xs ≤ length ys → SameFields place xs ys rest rest'
aligned {ys = ys} {front' = front'} rest rest' (no_fields place) t e h = record { later = ys; between = front'; texts = refl; bytes = e; spelled = subst (λ n. FieldsSpelling hessian n ys front') (let k : place ≡ place + 0 = omega arith in k) t }
aligned rest rest' (one_field place text texts f r is more) (no_fields place') e h = absurd (omega (arith, h))
aligned rest rest' (one_field place text texts f r is more) (one_field place' text' texts' f' r' is' more') e h =
    let joined : f ++ (r ++ rest) ≡ f' ++ (r' ++ rest') = sym (append_assoc f r rest) ∙ e ∙ append_assoc f' r' rest' in
    let one = same_field is is' (fronts f (r ++ rest) f' (r' ++ rest') joined) in
    more_same one.text_is (aligned rest rest' more more' one.rest_is (omega (arith, h)))

-- as many texts are the same
pub record AllSame (xs ys : List Text) (rest rest' : List ℕ) : Type 0 where
  pub texts : ys ≡ xs
  pub rest_is : rest ≡ rest'

none_later : (xs later : List Text) → length (xs ++ later) ≡ length xs → later ≡ []
none_later [] [] e = refl
none_later [] (y ∷ ys) e = absurd (omega (arith, e))
none_later (x ∷ xs) later e = none_later xs later (omega (arith, e))

no_bytes_between : {place : ℕ} {texts : List Text} {bytes : List ℕ} → FieldsSpelling hessian place texts bytes → texts ≡ [] → bytes ≡ []
no_bytes_between (no_fields place) e = refl
no_bytes_between (one_field place text texts f r is more) e = absurd (cc)

pub all_same : {place : ℕ} {xs ys : List Text} {front front' : List ℕ} (rest rest' : List ℕ) → FieldsSpelling hessian place xs front → FieldsSpelling hessian place ys front' → front ++ rest ≡ front' ++ rest' → length xs ≡ length ys → AllSame xs ys rest rest'
all_same {xs = xs} {ys = ys} rest rest' s t e h =
    let a = aligned rest rest' s t e (omega (arith, h)) in
    let none : a.later ≡ [] = none_later xs a.later (sym (ap length a.texts) ∙ sym h) in
    record {
      texts = a.texts ∙ ap (λ zs. xs ++ zs) none ∙ append-nil xs;
      rest_is = a.bytes ∙ ap (λ zs. zs ++ rest') (no_bytes_between a.spelled none);
    }

-- one more text in front of the rest
pub record NextField (place : ℕ) (rest : List ℕ) : Type 0 where
  pub text : Text
  pub front : List ℕ
  pub more : List ℕ
  pub spelled : FieldSpelling hessian place text front
  pub bytes : rest ≡ front ++ more

first_field : {place : ℕ} {texts : List Text} {bytes : List ℕ} (behind : List ℕ) → FieldsSpelling hessian place texts bytes → 0 < length texts → NextField place (bytes ++ behind)
first_field behind (no_fields place) h = absurd (omega (arith, h))
first_field behind (one_field place text texts f r is more) h = record { text = text; front = f; more = r ++ behind; spelled = is; bytes = append_assoc f r behind }

-- fewer texts are followed by one more
pub next_field : {xs ys : List Text} {front front' : List ℕ} (rest rest' : List ℕ) → FieldsSpelling hessian 0 xs front → FieldsSpelling hessian 0 ys front' → front ++ rest ≡ front' ++ rest' → length xs < length ys → NextField (length xs) rest
next_field {xs} {ys} rest rest' s t e h =
    let a = aligned rest rest' s t e (omega (arith, h)) in
    let some : 0 < length a.later = some_later xs ys a.later a.texts h in
    let next = first_field rest' a.spelled some in
    subst (NextField (length xs)) (sym a.bytes) (subst (λ n. NextField n (a.between ++ rest')) (let k : 0 + length xs ≡ length xs = omega arith in k) next)
  where
    some_later : (xs ys later : List Text) → ys ≡ xs ++ later → length xs < length ys → 0 < length later
    some_later xs ys [] e h = let k : length ys ≡ length xs = ap length (e ∙ append-nil xs) in absurd (omega (arith, k, h))
    some_later xs ys (z ∷ zs) e h = omega arith
