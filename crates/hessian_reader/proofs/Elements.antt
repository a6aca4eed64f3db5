-- What the bytes of a whole element say of it, and what goes on behind an element that has begun.
use Rattle.std.proofs.Common.{◌≡◌, ◌≢◌, ℕ, List, [], ◌∷◌, ◌++◌, refl, sym, ap, ◌∙◌, subst, arith}
use Rattle.std.specs.Prelude.{Some, None, ℤ}
use Rattle.std.proofs.lemmas.List.{append-nil}
use Rattle.hessian_graph.specs.declared.value.Value.{Value}
use Rattle.hessian_graph.specs.declared.value.Value.TheVariants as values
use Rattle.hessian_graph.specs.Reading.{IsScalar}
use Rattle.hessian_graph.specs.Reading.IsScalar.{null, bool, int, long, date}
use Rattle.hessian_scalars.specs.declared.scalar.Scalar.{Scalar}
use Rattle.hessian_scalars.specs.declared.scalar.Scalar.TheVariants as scalars
use Rattle.hessian_scalars.specs.ScalarSpelling.{ScalarSpelling}
use Rattle.hessian_scalars.proofs.Fronts.{has_code}
use Rattle.hessian_scalars.proofs.Laws.{goes_on, one_value}
use Rattle.hessian_text.specs.declared.stage.Kind.{Kind}
use Rattle.hessian_text.specs.declared.stage.Kind.TheVariants as kinds
use Rattle.hessian_text.specs.declared.stage.Stage.TheVariants as stages
use Rattle.hessian_text.specs.Spelling.{Spelling, AreBytes, IsCutShort}
use Rattle.hessian_text.proofs.Running.{at_end, spelled_once, cut_short}
use Rattle.hessian_reader.specs.declared.element.Head.{Head}
use Rattle.hessian_reader.specs.declared.element.Element.{Element}
use Rattle.hessian_reader.specs.declared.element.Element.TheVariants as elements
use Rattle.hessian_reader.specs.declared.element.Want.{Want}
use Rattle.hessian_reader.specs.declared.element.Want.TheVariants as wants
use Rattle.hessian_reader.specs.declared.lexer.Inside.{Inside}
use Rattle.hessian_reader.specs.declared.lexer.Inside.TheVariants as insides
use Rattle.hessian_reader.specs.Elements.{HeadCode, TakesInt, TakesText, IsElement}
use Rattle.hessian_reader.specs.Elements.TakesInt.{int as t_int, type as t_int_type}
use Rattle.hessian_reader.specs.Elements.TakesText.{text as t_text, type as t_text_type}
use Rattle.hessian_reader.specs.Elements.IsElement.{scalar as e_scalar, text as e_text, binary as e_binary, code as e_code, number as e_number, words as e_words}
use Rattle.hessian_reader.specs.Codes.{head_of, kind_of, value_of, scalar_element, chunk_element}
use Rattle.hessian_reader.specs.Leaves.{scalar_bytes}
use Rattle.hessian_reader.specs.Lexing.{BeginsScalar, TakesChunks, Holds}
use Rattle.hessian_reader.proofs.LeafCodes.{head_is, head_no_kind, chunk_kind, scalar_apart}

-- these bytes are the beginning of an element, and not all of it
pub record BeginsElement (w : Want) (bytes : List ℕ) : Type 0 where
  pub element : Element
  pub more : List ℕ
  pub lacks : more ≢ []
  pub is : IsElement w (bytes ++ more) element

-- ---- the three forms of elements

-- a scalar may stand in this place, whose bytes these are
abbrev pub TakesScalar : Want → Scalar → Type 0
TakesScalar wants.AnyValue v = Unit {0}
TakesScalar wants.AnInt v = (z : ℤ) × (v ≡ scalars.Int z)
TakesScalar wants.AType v = (z : ℤ) × (v ≡ scalars.Int z)
TakesScalar wants.AText v = ⊥

pub data Formed (w : Want) (bytes : List ℕ) (x : Element) : Type 0 where
  a_scalar : (v : Scalar) → TakesScalar w v → ScalarSpelling v bytes → x ≡ scalar_element w v → Formed w bytes x
  chunks : (kind : Kind) (value : List ℕ) → TakesChunks w kind → Spelling kind value bytes → x ≡ chunk_element w kind value → Formed w bytes x
  head : (h : Head) (c : ℕ) → HeadCode h c → w ≡ wants.AnyValue → bytes ≡ c ∷ [] → x ≡ elements.Code h → Formed w bytes x

plain_formed : (v : Value) (bytes : List ℕ) → IsScalar v → scalar_bytes v bytes → Formed wants.AnyValue bytes (elements.Plain v)
plain_formed v bytes null s = a_scalar scalars.Null tt s refl
plain_formed v bytes (bool b) s = a_scalar (scalars.Bool b) tt s refl
plain_formed v bytes (int z) s = a_scalar (scalars.Int z) tt s refl
plain_formed v bytes (long z) s = a_scalar (scalars.Long z) tt s refl
plain_formed v bytes (date z) s = a_scalar (scalars.Date z) tt s refl

number_formed : (w : Want) (z : ℤ) (bytes : List ℕ) → TakesInt w → ScalarSpelling (scalars.Int z) bytes → Formed w bytes (elements.Number z)
number_formed w z bytes t_int s = a_scalar (scalars.Int z) (z, refl) s refl
number_formed w z bytes t_int_type s = a_scalar (scalars.Int z) (z, refl) s refl

words_formed : (w : Want) (t bytes : List ℕ) → TakesText w → Spelling kinds.Text t bytes → Formed w bytes (elements.Words t)
words_formed w t bytes t_text s = chunks kinds.Text t refl s refl
words_formed w t bytes t_text_type s = chunks kinds.Text t refl s refl

pub formed : (w : Want) (bytes : List ℕ) (x : Element) → IsElement w bytes x → Formed w bytes x
formed w bytes x (e_scalar v s is spells) = plain_formed v s is spells
formed w bytes x (e_text t s spells) = chunks kinds.Text t tt spells refl
formed w bytes x (e_binary t s spells) = chunks kinds.Binary t tt spells refl
formed w bytes x (e_code h c is) = head h c is refl refl refl
formed w bytes x (e_number u z s t spells) = number_formed u z s t spells
formed w bytes x (e_words u t s takes spells) = words_formed u t s takes spells

-- ---- and back

any_scalar : (v : Scalar) (bytes : List ℕ) → ScalarSpelling v bytes → IsElement wants.AnyValue bytes (elements.Plain (value_of v))
any_scalar scalars.Null bytes s = e_scalar values.Null bytes null s
any_scalar (scalars.Bool b) bytes s = e_scalar (values.Bool b) bytes (bool b) s
any_scalar (scalars.Int z) bytes s = e_scalar (values.Int z) bytes (int z) s
any_scalar (scalars.Long z) bytes s = e_scalar (values.Long z) bytes (long z) s
any_scalar (scalars.Date z) bytes s = e_scalar (values.Date z) bytes (date z) s

pub scalar_is : (w : Want) (v : Scalar) (bytes : List ℕ) → TakesScalar w v → ScalarSpelling v bytes → IsElement w bytes (scalar_element w v)
scalar_is wants.AnyValue v bytes t s = any_scalar v bytes s
scalar_is wants.AnInt v bytes t s = subst (λ x. IsElement wants.AnInt bytes (scalar_element wants.AnInt x)) (sym t.1) (e_number wants.AnInt t.0 bytes t_int (subst (λ x. ScalarSpelling x bytes) t.1 s))
scalar_is wants.AType v bytes t s = subst (λ x. IsElement wants.AType bytes (scalar_element wants.AType x)) (sym t.1) (e_number wants.AType t.0 bytes t_int_type (subst (λ x. ScalarSpelling x bytes) t.1 s))
scalar_is wants.AText v bytes t s = absurd t

any_chunks : (kind : Kind) (value bytes : List ℕ) → Spelling kind value bytes → IsElement wants.AnyValue bytes (chunk_element wants.AnyValue kind value)
any_chunks kinds.Text value bytes s = e_text value bytes s
any_chunks kinds.Binary value bytes s = e_binary value bytes s

text_chunks : (w : Want) (kind : Kind) (value bytes : List ℕ) → TakesText w → kind ≡ kinds.Text → Spelling kind value bytes → IsElement w bytes (chunk_element w kind value)
text_chunks w kind value bytes t_text e s = subst (λ k. IsElement wants.AText bytes (chunk_element wants.AText k value)) (sym e) (e_words wants.AText value bytes t_text (subst (λ k. Spelling k value bytes) e s))
text_chunks w kind value bytes t_text_type e s = subst (λ k. IsElement wants.AType bytes (chunk_element wants.AType k value)) (sym e) (e_words wants.AType value bytes t_text_type (subst (λ k. Spelling k value bytes) e s))

pub chunks_are : (w : Want) (kind : Kind) (value bytes : List ℕ) → TakesChunks w kind → Spelling kind value bytes → IsElement w bytes (chunk_element w kind value)
chunks_are wants.AnyValue kind value bytes t s = any_chunks kind value bytes s
chunks_are wants.AnInt kind value bytes t s = absurd t
chunks_are wants.AType kind value bytes t s = text_chunks wants.AType kind value bytes t_text_type t s
chunks_are wants.AText kind value bytes t s = text_chunks wants.AText kind value bytes t_text t s

-- ---- an element has a byte

pub no_scalar : (v : Scalar) → ScalarSpelling v [] → ⊥
no_scalar v s = omega (arith, has_code v [] s)

pub no_chunks : (kind : Kind) (value : List ℕ) → Spelling kind value [] → ⊥
no_chunks kind value s = let e : stages.Code ≡ stages.Ended = (at_end kind stages.Code value tt s).0 in cc

formed_some : (w : Want) (bytes : List ℕ) (x : Element) → Formed w bytes x → bytes ≢ []
formed_some w bytes x (a_scalar v t s e) n = no_scalar v (subst (λ b. ScalarSpelling v b) n s)
formed_some w bytes x (chunks kind value t s e) n = no_chunks kind value (subst (λ b. Spelling kind value b) n s)
formed_some w bytes x (head h c is a b e) n = let k : c ∷ [] ≡ [] = sym b ∙ n in cc

pub element_some : (w : Want) (bytes : List ℕ) (x : Element) → IsElement w bytes x → bytes ≢ []
element_some w bytes x is = formed_some w bytes x (formed w bytes x is)

-- ---- bytes are one element at most, and nothing that goes on behind one is an element

-- what the first byte shows
two_kinds : (k l : Kind) (c : ℕ) → kind_of c ≡ Some k → kind_of c ≡ Some l → l ≡ k
two_kinds k l c p q = let e : Some k ≡ Some l = sym p ∙ q in cc

two_heads : (g h : Head) (c d : ℕ) (b : List ℕ) → HeadCode g c → HeadCode h d → (c ∷ b) ≡ d ∷ [] → (b ≡ []) × (h ≡ g)
two_heads g h c d b p q e =
    let same : d ≡ c = cc in
    let k : Some g ≡ Some h = sym (head_is g c p) ∙ ap head_of (sym same) ∙ head_is h d q in
    (cc, cc)

one_formed : (w : Want) (c : ℕ) (a b : List ℕ) (x y : Element) → AreBytes (c ∷ a) → Formed w (c ∷ a) x → Formed w (c ∷ (a ++ b)) y → (b ≡ []) × (y ≡ x)
one_formed w c a b x y small (a_scalar v t s e) (a_scalar u r z f) =
    let nil = goes_on v u (c ∷ a) b s z in
    let same : u ≡ v = sym (one_value v u (c ∷ a) s (subst (λ q. ScalarSpelling u (c ∷ q)) (ap (λ q. a ++ q) nil ∙ append-nil a) z)) in
    (nil, f ∙ ap (scalar_element w) same ∙ sym e)
one_formed w c a b x y small (a_scalar v t s e) (chunks kind value r z f) = absurd (let p = scalar_apart v c a s in let k : kind_of c ≡ None = p.kind in let l = chunk_kind kind value (a ++ b) c z in cc)
one_formed w c a b x y small (a_scalar v t s e) (head h d is r z f) = absurd (let p = scalar_apart v c a s in let same : c ≡ d = cc in let k : head_of d ≡ None = ap head_of (sym same) ∙ p.head in let l = head_is h d is in cc)
one_formed w c a b x y small (chunks kind value t s e) (a_scalar v r z f) = absurd (let p = scalar_apart v c (a ++ b) z in let k : kind_of c ≡ None = p.kind in let l = chunk_kind kind value a c s in cc)
one_formed w c a b x y small (chunks kind value t s e) (chunks other more r z f) =
    let same = two_kinds kind other c (chunk_kind kind value a c s) (chunk_kind other more (a ++ b) c z) in
    let once = spelled_once kind value more (c ∷ a) b small s (subst (λ k. Spelling k more (c ∷ (a ++ b))) same z) in
    (once.0, f ∙ ap (λ k. chunk_element w k more) same ∙ ap (chunk_element w kind) once.1 ∙ sym e)
one_formed w c a b x y small (chunks kind value t s e) (head h d is r z f) = absurd (let same : c ≡ d = cc in let k = head_no_kind h d is in let l : kind_of d ≡ Some kind = ap kind_of (sym same) ∙ chunk_kind kind value a c s in cc)
one_formed w c a b x y small (head g d is t s e) (a_scalar v r z f) = absurd (let p = scalar_apart v c (a ++ b) z in let same : c ≡ d = cc in let k : head_of d ≡ None = ap head_of (sym same) ∙ p.head in let l = head_is g d is in cc)
one_formed w c a b x y small (head g d is t s e) (chunks kind value r z f) = absurd (let same : c ≡ d = cc in let k = head_no_kind g d is in let l : kind_of d ≡ Some kind = ap kind_of (sym same) ∙ chunk_kind kind value (a ++ b) c z in cc)
one_formed w c a b x y small (head g d is t s e) (head h k j r z f) =
    let none : a ≡ [] = cc in
    let same : d ≡ c = cc in
    let t = two_heads g h d k b is j (ap (λ q. q ∷ b) same ∙ ap (λ q. c ∷ (q ++ b)) (sym none) ∙ z) in
    (t.0, f ∙ ap elements.Code t.1 ∙ sym e)

pub one_element : (w : Want) (a b : List ℕ) (x y : Element) → AreBytes a → IsElement w a x → IsElement w (a ++ b) y → (b ≡ []) × (y ≡ x)
one_element w [] b x y small p q = absurd (element_some w [] x p refl)
one_element w (c ∷ a) b x y small p q = one_formed w c a b x y small (formed w (c ∷ a) x p) (formed w (c ∷ (a ++ b)) y q)

-- ---- what has begun can become whole

scalar_begins : (w : Want) (bytes : List ℕ) → BeginsScalar w bytes → BeginsElement w bytes
scalar_begins wants.AnyValue bytes p = record { element = scalar_element wants.AnyValue p.value; more = p.more; lacks = p.lacks; is = scalar_is wants.AnyValue p.value (bytes ++ p.more) tt p.spells }
scalar_begins wants.AnInt bytes p = record { element = elements.Number p.number; more = p.more; lacks = p.lacks; is = e_number wants.AnInt p.number (bytes ++ p.more) t_int p.spells }
scalar_begins wants.AType bytes p = record { element = elements.Number p.number; more = p.more; lacks = p.lacks; is = e_number wants.AType p.number (bytes ++ p.more) t_int_type p.spells }
scalar_begins wants.AText bytes p = absurd p

chunks_begin : (w : Want) (kind : Kind) (bytes : List ℕ) → TakesChunks w kind → IsCutShort kind bytes → BeginsElement w bytes
chunks_begin w kind bytes t cut = record { element = chunk_element w kind cut.value; more = cut.more; lacks = cut.lacks; is = chunks_are w kind cut.value (bytes ++ cut.more) t cut.spells }

pub holds_begins : (w : Want) (inside : Inside) (came : List ℕ) → AreBytes came → Holds w inside came → came ≢ [] → BeginsElement w came
holds_begins w insides.Nothing came small h some = absurd (some h)
holds_begins w (insides.Scalar bytes) came small h some = subst (BeginsElement w) (sym h.0) (scalar_begins w bytes h.2)
holds_begins w (insides.Chunks c) came small h some = chunks_begin w c.reader.kind came h.takes (cut_short c.reader.kind c.reader.stage came h.advances.gained small h.advances.runs h.still_open)
