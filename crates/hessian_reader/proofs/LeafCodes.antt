-- Which first bytes leaves have, and which are codes of nodes: no byte is two of these.
use Rattle.std.proofs.Common.{◌≡◌, ℕ, suc, ◌-◌, ◌≤◌, Bool, true, false, cond, eqb, List, ◌∷◌, length, refl, sym, ap, subst, inl, inr, arith}
use Rattle.std.specs.Prelude.{Option, Some, None, nat_eq, nat_le}
use Rattle.std.specs.Int.{is_in_range}
use Rattle.std.proofs.lemmas.Bool.{eqb-true}
use Rattle.std.proofs.lemmas.Bool.Decides.{nat_tests}
use Rattle.hessian_graph.specs.Reading.{IsCode}
use Rattle.hessian_scalars.specs.declared.scalar.Scalar.{Scalar}
use Rattle.hessian_scalars.specs.declared.code.Opening.{Opening}
use Rattle.hessian_scalars.specs.declared.code.Opening.TheVariants as openings
use Rattle.hessian_scalars.specs.ScalarSpelling.{ScalarSpelling, IsDoubleCode}
use Rattle.hessian_scalars.specs.Codes.{opening_of}
use Rattle.hessian_scalars.proofs.Rows.{complete, opens_double}
use Rattle.hessian_scalars.proofs.Whole.{by_rows}
use Rattle.hessian_text.specs.declared.stage.Kind.{Kind}
use Rattle.hessian_text.specs.declared.stage.Kind.TheVariants as kinds
use Rattle.hessian_text.specs.declared.stage.Stage.{Stage}
use Rattle.hessian_text.specs.declared.stage.Stage.TheVariants.{Code}
use Rattle.hessian_text.specs.Spelling.{Spelling}
use Rattle.hessian_text.specs.Steps.{after_code, arrived, step}
use Rattle.hessian_text.proofs.Stages.{Ahead, stage_forward}
use Rattle.hessian_reader.specs.declared.element.Form.TheVariants as forms
use Rattle.hessian_reader.specs.declared.element.Head.{Head}
use Rattle.hessian_reader.specs.declared.element.Head.TheVariants as heads
use Rattle.hessian_reader.specs.Elements.{HeadCode}
use Rattle.hessian_reader.specs.Elements.HeadCode.{refer, short_list, open_list, long_list, open_typed_list, long_typed_list, short_typed_list, typed_map, open_map, define, short_object, long_object, end}
use Rattle.hessian_reader.specs.Codes.{head_of, kind_of}

-- ---- the codes of nodes

some_is : (x y : Head) → Some x ≡ Some y → x ≡ y
some_is x y e = cc

-- either way of a test
by_test : {A : Type 0} (P : A → Type 0) (b : Bool) (x y : A) → (b ≡ true → P x) → (b ≡ false → P y) → P (cond b x y)
by_test P true x y f g = f refl
by_test P false x y f g = g refl

inside : (lo hi c : ℕ) → is_in_range lo hi c ≡ true → IsCode lo hi c
inside lo hi c e = record { above = grind (arith, nat_tests); below = grind (arith, nat_tests) }

at_code : (k c : ℕ) (h x : Head) → HeadCode x k → eqb c k ≡ true → Some x ≡ Some h → HeadCode h c
at_code k c h x is e s = subst (λ y. HeadCode y c) (some_is x h s) (subst (λ n. HeadCode x n) (sym (eqb-true c k e)) is)

same_head : (c : ℕ) (h x : Head) → HeadCode x c → Some x ≡ Some h → HeadCode h c
same_head c h x is s = subst (λ y. HeadCode y c) (some_is x h s) is

pub is_head : (h : Head) (c : ℕ) → head_of c ≡ Some h → HeadCode h c
is_head h c =
    by_test Is (nat_eq c 0x51) _ _ (λ e. at_code 0x51 c h heads.Refer refer e) (λ e0.
    by_test Is (is_in_range 0x78 0x7f c) _ _ (λ e. same_head c h (heads.ShortList (c - 0x78)) (short_list c (c - 0x78) (inside 0x78 0x7f c e) refl)) (λ e1.
    by_test Is (nat_eq c 0x57) _ _ (λ e. at_code 0x57 c h heads.OpenList open_list e) (λ e2.
    by_test Is (nat_eq c 0x58) _ _ (λ e. at_code 0x58 c h heads.LongList long_list e) (λ e3.
    by_test Is (nat_eq c 0x55) _ _ (λ e. at_code 0x55 c h (heads.Typed forms.Open) open_typed_list e) (λ e4.
    by_test Is (nat_eq c 0x56) _ _ (λ e. at_code 0x56 c h (heads.Typed forms.Long) long_typed_list e) (λ e5.
    by_test Is (is_in_range 0x70 0x77 c) _ _ (λ e. same_head c h (heads.Typed (forms.Short (c - 0x70))) (short_typed_list c (c - 0x70) (inside 0x70 0x77 c e) refl)) (λ e6.
    by_test Is (nat_eq c 0x4d) _ _ (λ e. at_code 0x4d c h (heads.Typed forms.Pairs) typed_map e) (λ e7.
    by_test Is (nat_eq c 0x48) _ _ (λ e. at_code 0x48 c h heads.OpenMap open_map e) (λ e8.
    by_test Is (nat_eq c 0x43) _ _ (λ e. at_code 0x43 c h heads.Define define e) (λ e9.
    by_test Is (is_in_range 0x60 0x6f c) _ _ (λ e. same_head c h (heads.ShortObject (c - 0x60)) (short_object c (c - 0x60) (inside 0x60 0x6f c e) refl)) (λ e10.
    by_test Is (nat_eq c 0x4f) _ _ (λ e. at_code 0x4f c h heads.LongObject long_object e) (λ e11.
    by_test Is (nat_eq c 0x5a) _ _ (λ e. at_code 0x5a c h heads.End end e) (λ e12. λ e. absurd cc)))))))))))))
  where
    Is : Option Head → Type 0
    Is o = o ≡ Some h → HeadCode h c

short_list_is : (c : ℕ) → IsCode 0x78 0x7f c → head_of c ≡ Some (heads.ShortList (c - 0x78))
short_list_is c i = grind (arith, nat_tests, i.above, i.below)

short_typed_list_is : (c : ℕ) → IsCode 0x70 0x77 c → head_of c ≡ Some (heads.Typed (forms.Short (c - 0x70)))
short_typed_list_is c i = grind (arith, nat_tests, i.above, i.below)

short_object_is : (c : ℕ) → IsCode 0x60 0x6f c → head_of c ≡ Some (heads.ShortObject (c - 0x60))
short_object_is c i = grind (arith, nat_tests, i.above, i.below)

pub head_is : (h : Head) (c : ℕ) → HeadCode h c → head_of c ≡ Some h
head_is h c refer = refl
head_is h c (short_list code k i e) = rw e (short_list_is code i)
head_is h c open_list = refl
head_is h c long_list = refl
head_is h c open_typed_list = refl
head_is h c long_typed_list = refl
head_is h c (short_typed_list code k i e) = rw e (short_typed_list_is code i)
head_is h c typed_map = refl
head_is h c open_map = refl
head_is h c define = refl
head_is h c (short_object code k i e) = rw e (short_object_is code i)
head_is h c long_object = refl
head_is h c end = refl

high_no_kind : (c : ℕ) → 0x60 ≤ c → kind_of c ≡ None
high_no_kind c l = grind (arith, nat_tests)

pub head_no_kind : (h : Head) (c : ℕ) → HeadCode h c → kind_of c ≡ None
head_no_kind h c refer = refl
head_no_kind h c (short_list code k i e) = high_no_kind code (omega (arith, i.above))
head_no_kind h c open_list = refl
head_no_kind h c long_list = refl
head_no_kind h c open_typed_list = refl
head_no_kind h c long_typed_list = refl
head_no_kind h c (short_typed_list code k i e) = high_no_kind code (omega (arith, i.above))
head_no_kind h c typed_map = refl
head_no_kind h c open_map = refl
head_no_kind h c define = refl
head_no_kind h c (short_object code k i e) = high_no_kind code (omega (arith, i.above))
head_no_kind h c long_object = refl
head_no_kind h c end = refl

-- ---- the codes of texts and binaries

text_code : (c : ℕ) → (after_code kinds.Text c ≡ None → ⊥) → kind_of c ≡ Some kinds.Text
text_code c =
    by_test Is (nat_le c 0x1f) _ _ (λ e n. grind (arith, nat_tests)) (λ e0.
    by_test Is (is_in_range 0x30 0x33 c) _ _ (λ e n. grind (arith, nat_tests)) (λ e1.
    by_test Is (nat_eq c 0x52) _ _ (λ e n. grind (arith, nat_tests)) (λ e2.
    by_test Is (nat_eq c 0x53) _ _ (λ e n. grind (arith, nat_tests)) (λ e3. λ n. absurd (n refl)))))
  where
    Is : Option Stage → Type 0
    Is o = (o ≡ None → ⊥) → kind_of c ≡ Some kinds.Text

binary_code : (c : ℕ) → (after_code kinds.Binary c ≡ None → ⊥) → kind_of c ≡ Some kinds.Binary
binary_code c =
    by_test Is (is_in_range 0x20 0x2f c) _ _ (λ e n. grind (arith, nat_tests)) (λ e0.
    by_test Is (is_in_range 0x34 0x37 c) _ _ (λ e n. grind (arith, nat_tests)) (λ e1.
    by_test Is (nat_eq c 0x41) _ _ (λ e n. grind (arith, nat_tests)) (λ e2.
    by_test Is (nat_eq c 0x42) _ _ (λ e n. grind (arith, nat_tests)) (λ e3. λ n. absurd (n refl)))))
  where
    Is : Option Stage → Type 0
    Is o = (o ≡ None → ⊥) → kind_of c ≡ Some kinds.Binary

-- a chunk's code shows of which kind it is
pub chunk_code : (kind : Kind) (c : ℕ) → (after_code kind c ≡ None → ⊥) → kind_of c ≡ Some kind
chunk_code kinds.Text c n = text_code c n
chunk_code kinds.Binary c n = binary_code c n

pub chunk_kind : (kind : Kind) (value bs : List ℕ) (c : ℕ) → Spelling kind value (c ∷ bs) → kind_of c ≡ Some kind
chunk_kind kind value bs c s = chunk_code kind c (λ e. refused (stage_forward kind Code c value bs tt s) e)
  where
    refused : Ahead kind (step kind Code c) value bs → after_code kind c ≡ None → ⊥
    refused a e = let k : arrived (after_code kind c) ≡ arrived None = ap arrived e in let m : arrived (after_code kind c) ≡ Some (a.next, a.gained) = a.is in cc

-- ---- the codes of scalars and doubles

-- neither a text, a binary nor a node begins with it
pub record IsApart (c : ℕ) : Type 0 where
  pub kind : kind_of c ≡ None
  pub head : head_of c ≡ None

high_apart : (c : ℕ) → 0x80 ≤ c → IsApart c
high_apart c l = record { kind = grind (arith, nat_tests); head = grind (arith, nat_tests) }

low_apart : (c : ℕ) → 0x38 ≤ c → c ≤ 0x3f → IsApart c
low_apart c l m = record { kind = grind (arith, nat_tests); head = grind (arith, nat_tests) }

late_double_apart : (c : ℕ) → 0x5b ≤ c → c ≤ 0x5f → IsApart c
late_double_apart c l m = record { kind = grind (arith, nat_tests); head = grind (arith, nat_tests) }

pub double_apart : (c : ℕ) → IsDoubleCode c → IsApart c
double_apart c (inl e) = subst IsApart (sym e) (record { kind = refl; head = refl })
double_apart c (inr i) = late_double_apart c i.above i.below

-- what opens a scalar or a double opens nothing else
pub opens_apart : (c : ℕ) → (opening_of c ≡ openings.Nothing → ⊥) → IsApart c
opens_apart = by_rows Is (record {
  ones = λ c i n. high_apart c i.above;
  twos = λ c i n. high_apart c (omega (arith, i.above));
  threes = λ c i n. high_apart c (omega (arith, i.above));
  long_ones = λ c i n. high_apart c (omega (arith, i.above));
  long_twos = λ c i n. high_apart c (omega (arith, i.above));
  long_threes = λ c i n. low_apart c i.above i.below;
  int = λ n. record { kind = refl; head = refl };
  millis = λ n. record { kind = refl; head = refl };
  minutes = λ n. record { kind = refl; head = refl };
  long = λ n. record { kind = refl; head = refl };
  long_int = λ n. record { kind = refl; head = refl };
  f = λ n. record { kind = refl; head = refl };
  n = λ n. record { kind = refl; head = refl };
  t = λ n. record { kind = refl; head = refl };
  doubles = λ c d n. double_apart c d;
  others = λ c n. absurd (n refl);
})
  where
    Is : ℕ → Opening → Type 0
    Is c o = (o ≡ openings.Nothing → ⊥) → IsApart c

pub scalar_apart : (v : Scalar) (c : ℕ) (bs : List ℕ) → ScalarSpelling v (c ∷ bs) → IsApart c
scalar_apart v c bs s = let w = complete v (c ∷ bs) s in opens_apart c (λ e. let k : opening_of c ≡ openings.Spelling (suc (length bs)) = w.opens in cc)

-- no scalar begins with a double's code
pub double_no_scalar : (v : Scalar) (c : ℕ) (bs : List ℕ) → IsDoubleCode c → ScalarSpelling v (c ∷ bs) → ⊥
double_no_scalar v c bs d s = let w = complete v (c ∷ bs) s in let e = opens_double c d in let k : opening_of c ≡ openings.Spelling (suc (length bs)) = w.opens in cc
