-- What a piece makes of a scalar that may stand in a place.
use Rattle.std.proofs.Common.{◌≡◌, ◌≢◌, ℕ, zero, suc, ◌<◌, List, [], ◌∷◌, ◌++◌, length, take, refl, sym, ap, ◌∙◌, subst, arith}
use Rattle.std.specs.Prelude.{Some, None, slice_get, slice_index}
use Rattle.hessian_scalars.specs.declared.scalar.Scalar.{Scalar}
use Rattle.hessian_scalars.specs.declared.scalar.Scalar.TheVariants as scalars
use Rattle.hessian_scalars.specs.ScalarSpelling.{ScalarSpelling, IsDoubleCode}
use Rattle.hessian_scalars.specs.Read.{IsProperPrefix, BeginsNothing, BeginsInt}
use Rattle.hessian_scalars.proofs.Ints.{only_ints}
use Rattle.hessian_reader.specs.declared.element.Head.{Head}
use Rattle.hessian_reader.specs.declared.element.Element.{Element}
use Rattle.hessian_reader.specs.declared.element.Element.TheVariants as elements
use Rattle.hessian_reader.specs.declared.element.Want.{Want}
use Rattle.hessian_reader.specs.declared.element.Want.TheVariants as wants
use Rattle.hessian_reader.specs.Elements.{IsElement, HasNoElement}
use Rattle.hessian_reader.specs.Elements.IsElement.{code as e_code}
use Rattle.hessian_reader.specs.Codes.{head_of, kind_of, scalar_element}
use Rattle.hessian_reader.specs.Lexing.{BeginsScalar}
use Rattle.hessian_reader.specs.Starting.{StartsScalar, LeadsScalar}
use Rattle.hessian_reader.proofs.LeafCodes.{is_head, head_is, chunk_kind, IsApart, scalar_apart, double_apart, double_no_scalar}
use Rattle.hessian_reader.proofs.Elements.{TakesScalar, Formed, formed, scalar_is, element_some, no_scalar}
use Rattle.hessian_reader.proofs.Elements.Formed.{a_scalar, chunks, head}

-- ---- nothing stands at the front

first_is : (c d : ℕ) (a b : List ℕ) → c ∷ a ≡ d ∷ b → d ≡ c
first_is c d a b e = cc

-- no element begins with this byte
pub refused : (w : Want) (c : ℕ) (bs : List ℕ) → ((ds : List ℕ) (x : Element) → Formed w (c ∷ ds) x → ⊥) → HasNoElement w (c ∷ bs)
refused w c bs none more front rest x small e is = at_front front e is
  where
    at_front : (front : List ℕ) → c ∷ (bs ++ more) ≡ front ++ rest → IsElement w front x → ⊥
    at_front [] e is = element_some w [] x is refl
    at_front (d ∷ ds) e is = none ds x (subst (λ q. Formed w (q ∷ ds) x) (first_is c d (bs ++ more) (ds ++ rest) e) (formed w (d ∷ ds) x is))

-- what begins no scalar, no text or binary and no node begins no element
no_form : (w : Want) (c : ℕ) → ((v : Scalar) (ds : List ℕ) → ScalarSpelling v (c ∷ ds) → ⊥) → IsApart c → (ds : List ℕ) (x : Element) → Formed w (c ∷ ds) x → ⊥
no_form w c none apart ds x (a_scalar v t s e) = none v ds s
no_form w c none apart ds x (chunks kind value t s e) = let k : kind_of c ≡ None = apart.kind in let l = chunk_kind kind value ds c s in cc
no_form w c none apart ds x (head h d is t b e) = let same : c ≡ d = cc in let k : head_of d ≡ None = ap head_of (sym same) ∙ apart.head in let l = head_is h d is in cc

pub double_refused : (w : Want) (c : ℕ) (came piece : List ℕ) → came ≡ [] → slice_get piece 0 ≡ Some c → IsDoubleCode c → HasNoElement w (came ++ piece)
double_refused w c came [] n g d = absurd cc
double_refused w c came (b ∷ piece) n g d = subst (λ q. HasNoElement w (q ++ b ∷ piece)) (sym n) (refused w b piece (no_form w b (λ v ds s. double_no_scalar v b ds is s) (double_apart b is)))
  where
    is : IsDoubleCode b
    is = let e : c ≡ b = cc in subst IsDoubleCode e d

-- an int must begin here, and none does
pub no_int_form : (c : ℕ) → (BeginsInt c → ⊥) → (ds : List ℕ) (x : Element) → Formed wants.AnInt (c ∷ ds) x → ⊥
no_int_form c none ds x (a_scalar v t s e) = none (record { number = t.0; more = ds; spells = subst (λ u. ScalarSpelling u (c ∷ ds)) t.1 s })
no_int_form c none ds x (chunks kind value t s e) = t
no_int_form c none ds x (head h d is t b e) = cc

pub int_refused : (w : Want) (c : ℕ) (piece : List ℕ) → w ≡ wants.AnInt → 0 < length piece → c ≡ slice_index piece 0 → (BeginsInt c → ⊥) → HasNoElement w piece
int_refused w c [] e some first none = absurd (omega arith)
int_refused w c (b ∷ piece) e some first none = subst (λ u. HasNoElement u (b ∷ piece)) (sym e) (refused wants.AnInt b piece (no_int_form b (λ i. none (subst BeginsInt (sym first) i))))

-- a byte that may begin a scalar, and begins none
starts_refused : (w : Want) (c : ℕ) → StartsScalar w c → BeginsNothing c → (ds : List ℕ) (x : Element) → Formed w (c ∷ ds) x → ⊥
starts_refused wants.AnyValue c s n ds x f = no_form wants.AnyValue c (λ v more t. n.no_scalar v more t) (record { kind = s.0; head = s.1 }) ds x f
starts_refused wants.AnInt c s n ds x f = n.no_scalar (scalars.Int s.number) s.more s.spells
starts_refused wants.AType c s n ds x f = n.no_scalar (scalars.Int s.number) s.more s.spells
starts_refused wants.AText c s n ds x f = s

pub other_refused : (w : Want) (c : ℕ) (came piece : List ℕ) → LeadsScalar w (came ++ piece) → came ≡ [] → slice_get piece 0 ≡ Some c → BeginsNothing c → HasNoElement w (came ++ piece)
other_refused w c came [] l n g d = absurd cc
other_refused w c (x ∷ came) (b ∷ piece) l n g d = absurd cc
other_refused w c [] (b ∷ piece) l n g d = refused w b piece (starts_refused w b l.starts is)
  where
    is : BeginsNothing b
    is = let e : c ≡ b = cc in subst BeginsNothing e d

-- ---- a scalar, or the beginning of one

takes : (w : Want) (v : Scalar) (c : ℕ) (bs : List ℕ) → StartsScalar w c → ScalarSpelling v (c ∷ bs) → TakesScalar w v
takes wants.AnyValue v c bs st s = tt
takes wants.AnInt v c bs st s = let i = only_ints v c bs st s in (i.number, i.is)
takes wants.AType v c bs st s = let i = only_ints v c bs st s in (i.number, i.is)
takes wants.AText v c bs st s = st

pub whole_lexed : (w : Want) (came piece : List ℕ) (v : Scalar) (used : ℕ) → LeadsScalar w (came ++ piece) → ScalarSpelling v (came ++ take used piece) → IsElement w (came ++ take used piece) (scalar_element w v)
whole_lexed w (c ∷ came) piece v used l s = scalar_is w v (c ∷ (came ++ take used piece)) (takes w v c (came ++ take used piece) l.starts s) s
whole_lexed w [] [] v used l s = absurd (omega (arith, l.some))
whole_lexed w [] (b ∷ piece) v zero l s = absurd (no_scalar v s)
whole_lexed w [] (b ∷ piece) v (suc n) l s = scalar_is w v (b ∷ take n piece) (takes w v b (take n piece) l.starts s) s

begun : (w : Want) (c : ℕ) (bs : List ℕ) → StartsScalar w c → IsProperPrefix (c ∷ bs) → BeginsScalar w (c ∷ bs)
begun wants.AnyValue c bs st p = p
begun wants.AnInt c bs st p = let i = only_ints p.value c (bs ++ p.more) st p.spells in record { number = i.number; more = p.more; lacks = p.lacks; spells = subst (λ v. ScalarSpelling v (c ∷ (bs ++ p.more))) i.is p.spells }
begun wants.AType c bs st p = let i = only_ints p.value c (bs ++ p.more) st p.spells in record { number = i.number; more = p.more; lacks = p.lacks; spells = subst (λ v. ScalarSpelling v (c ∷ (bs ++ p.more))) i.is p.spells }
begun wants.AText c bs st p = st

-- all of these bytes are the beginning of a scalar, and are kept
pub part_lexed : (w : Want) (bytes kept : List ℕ) → LeadsScalar w bytes → IsProperPrefix bytes → kept ≡ bytes → (bytes ≡ kept) × (kept ≢ []) × BeginsScalar w kept
part_lexed w [] kept l p e = absurd (omega (arith, l.some))
part_lexed w (c ∷ bs) kept l p e = (sym e, (λ n. let k : c ∷ bs ≡ [] = sym e ∙ n in cc), subst (BeginsScalar w) (sym e) (begun w c bs l.starts p))

-- ---- what leads into a scalar

first_of : (w : Want) (c : ℕ) (bs : List ℕ) → BeginsScalar w (c ∷ bs) → StartsScalar w c
first_of wants.AnyValue c bs p = let a = scalar_apart p.value c (bs ++ p.more) p.spells in (a.kind, a.head)
first_of wants.AnInt c bs p = record { number = p.number; more = bs ++ p.more; spells = p.spells }
first_of wants.AType c bs p = record { number = p.number; more = bs ++ p.more; spells = p.spells }
first_of wants.AText c bs p = p

pub leads_on : (w : Want) (came piece : List ℕ) → came ≢ [] → BeginsScalar w came → LeadsScalar w (came ++ piece)
leads_on w [] piece some b = absurd (some refl)
leads_on w (c ∷ came) piece some b = record { some = omega arith; starts = first_of w c came b }

-- ---- a code in a value's place

pub code_lexed : (w : Want) (h : Head) (c : ℕ) (piece : List ℕ) → w ≡ wants.AnyValue → 0 < length piece → c ≡ slice_index piece 0 → head_of c ≡ Some h → IsElement w (take 1 piece) (elements.Code h)
code_lexed w h c [] e some first is = absurd (omega arith)
code_lexed w h c (b ∷ piece) e some first is = subst (λ u. IsElement u (b ∷ []) (elements.Code h)) (sym e) (e_code h b (is_head h b (ap head_of (sym first) ∙ is)))
