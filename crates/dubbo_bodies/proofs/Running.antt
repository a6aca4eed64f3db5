-- A descriptor goes from stage to stage, and each parameter that ends is counted.
use Rattle.std.proofs.Common.{◌≡◌, ℕ, suc, ◌+◌, ◌<◌, true, false, List, [], ◌∷◌, ◌++◌, refl, sym, ◌∙◌, ap, subst, arith, inl, inr}
use Rattle.std.specs.Prelude.{◌==◌, if◌then◌else◌, Option, Some, None, All}
use Rattle.std.proofs.lemmas.Bool.{ne_eqb}
use Rattle.std.proofs.lemmas.Bool.Decides.{eqb_tells}
use Rattle.std.proofs.lemmas.List.Elements.{All-tail, All-cons, All-nil}
use Rattle.dubbo_bodies.specs.declared.stage.Stage.{Stage}
use Rattle.dubbo_bodies.specs.declared.stage.Stage.TheVariants.{Between, Element, Class, Name}
use Rattle.dubbo_bodies.specs.Descriptor.{IsPrimitive, IsNameByte, Parameter, Parameters}
use Rattle.dubbo_bodies.specs.Descriptor.IsPrimitive.{boolean, byte, char, short, int, long, float, double}
use Rattle.dubbo_bodies.specs.Descriptor.Parameter.{primitive, class, array}
use Rattle.dubbo_bodies.specs.Descriptor.Parameters.{none, more}
use Rattle.dubbo_bodies.specs.Stages.{begun_by, stage_after, ended}

abbrev pub along : Option Stage → (Stage → Option (Stage × ℕ)) → Option (Stage × ℕ)
along None f = None
along (Some s) f = f s

-- where bytes lead from a stage, with so many parameters ended
abbrev pub run : Stage → ℕ → List ℕ → Option (Stage × ℕ)
run s c [] = Some (s, c)
run s c (b ∷ bs) = along (stage_after s b) (λ t. run t (ended t c) bs)

-- each is a byte
abbrev pub AreBytes : List ℕ → Type 0
AreBytes bytes = All (λ b. b < 256) bytes

pub first_small : (b : ℕ) (bs : List ℕ) → AreBytes (b ∷ bs) → b < 256
first_small b bs h = h 0 b (omega arith)

pub later_small : (b : ℕ) (bs : List ℕ) → AreBytes (b ∷ bs) → AreBytes bs
later_small b bs h = All-tail (λ b. b < 256) b bs h

-- ---- what are parameters runs

pub begun_primitive : (code : ℕ) → IsPrimitive code → begun_by code ≡ Some Between
unfolding begun_by
begun_primitive code boolean = refl
begun_primitive code byte = refl
begun_primitive code char = refl
begun_primitive code short = refl
begun_primitive code int = refl
begun_primitive code long = refl
begun_primitive code float = refl
begun_primitive code double = refl

pub begun_array : begun_by 0x5b ≡ Some Element
unfolding begun_by
begun_array = refl

pub begun_class : begun_by 0x4c ≡ Some Class
unfolding begun_by
begun_class = refl

pub first_of_name : (b : ℕ) (name : List ℕ) → All IsNameByte (b ∷ name) → (b == 0x3b) ≡ false
first_of_name b name all = let first : IsNameByte b = all 0 b (omega arith) in ne_eqb b 0x3b first.inside

pub run_name : (name rest : List ℕ) (c : ℕ) → All IsNameByte name → run Name c ((name ++ 0x3b ∷ []) ++ rest) ≡ run Between (suc c) rest
run_name [] rest c all = refl
run_name (b ∷ name) rest c all = rw (first_of_name b name all) (run_name name rest c (All-tail IsNameByte b name all))

pub run_parameter : (front rest : List ℕ) (c : ℕ) → Parameter front → run Element c (front ++ rest) ≡ run Between (suc c) rest
run_parameter front rest c (primitive code is) = rw (begun_primitive code is) refl
run_parameter front rest c (class first name all) =
    rw (begun_class, first_of_name first name all) (run_name name rest c (All-tail IsNameByte first name all))
run_parameter front rest c (array element is) = rw begun_array (run_parameter element rest c is)

-- between two parameters a run goes as inside an array
pub run_first : (front rest : List ℕ) (c : ℕ) → Parameter front → run Between c (front ++ rest) ≡ run Element c (front ++ rest)
run_first front rest c (primitive code is) = refl
run_first front rest c (class first name all) = refl
run_first front rest c (array element is) = refl

pub run_parameters : (n : ℕ) (bytes : List ℕ) (c : ℕ) → Parameters n bytes → run Between c bytes ≡ Some (Between, c + n)
run_parameters n bytes c none = ap (λ k. Some (Between, k)) (omega arith)
run_parameters n bytes c (more count front rest one others) =
    run_first front rest c one ∙ run_parameter front rest c one ∙ run_parameters count rest (suc c) others
    ∙ ap (λ k. Some (Between, k)) (omega arith)

-- ---- what runs is the front of parameters

-- what a parameter's first byte can be
pub data Begun (b : ℕ) : Stage → Type 0 where
  whole : IsPrimitive b → Begun b Between
  of_array : b ≡ 0x5b → Begun b Element
  of_class : b ≡ 0x4c → Begun b Class

same_code : (b code : ℕ) (s t : Stage) → Some s ≡ Some t → Begun b s → Begun b t
same_code b code s t e h = let k : s ≡ t = cc in subst (λ x. Begun b x) k h

one_code : (b code : ℕ) (s t : Stage) (other : Option Stage) → (b ≡ code → Begun b s) → (other ≡ Some t → Begun b t) → (if b == code then Some s else other) ≡ Some t → Begun b t
one_code b code s t other here there e = elim (eqb_tells b code) [ inl p ↦ same_code b code s t (rw p.0 at e) (here p.1) | inr p ↦ there (rw p.0 at e) ]

at_primitive : (b code : ℕ) → IsPrimitive code → b ≡ code → Begun b Between
at_primitive b code is e = whole (subst IsPrimitive (sym e) is)

pub begun_cases : (b : ℕ) (t : Stage) → begun_by b ≡ Some t → Begun b t
unfolding begun_by
begun_cases b t e =
    one_code b 0x5a Between t _ (at_primitive b 0x5a boolean)
    (one_code b 0x42 Between t _ (at_primitive b 0x42 byte)
    (one_code b 0x43 Between t _ (at_primitive b 0x43 char)
    (one_code b 0x53 Between t _ (at_primitive b 0x53 short)
    (one_code b 0x49 Between t _ (at_primitive b 0x49 int)
    (one_code b 0x4a Between t _ (at_primitive b 0x4a long)
    (one_code b 0x46 Between t _ (at_primitive b 0x46 float)
    (one_code b 0x44 Between t _ (at_primitive b 0x44 double)
    (one_code b 0x5b Element t _ of_array
    (one_code b 0x4c Class t None of_class
    (λ x. cc)))))))))) e

-- what bytes are at each stage, where so many parameters end in them
pub data Rest : Stage → ℕ → List ℕ → Type 0 where
  between : (n : ℕ) (bytes : List ℕ) → Parameters n bytes → Rest Between n bytes
  in_array : (n : ℕ) (front rest : List ℕ) → Parameter front → Parameters n rest → Rest Element (suc n) (front ++ rest)
  in_class : (n first : ℕ) (name rest : List ℕ) → All IsNameByte (first ∷ name) → Parameters n rest → Rest Class (suc n) (first ∷ ((name ++ 0x3b ∷ []) ++ rest))
  in_name : (n : ℕ) (name rest : List ℕ) → All IsNameByte name → Parameters n rest → Rest Name (suc n) ((name ++ 0x3b ∷ []) ++ rest)

-- a byte before what a stage is followed by
first_back : (b : ℕ) (t : Stage) (n : ℕ) (bytes : List ℕ) → Begun b t → Rest t n bytes → Rest Element (ended t n) (b ∷ bytes)
first_back b t n bytes (whole is) (between m rest are) = in_array m (b ∷ []) rest (primitive b is) are
first_back b t n bytes (of_array e) (in_array m front rest one are) =
    let joined : Rest Element (suc m) (0x5b ∷ (front ++ rest)) = in_array m (0x5b ∷ front) rest (array front one) are in
    subst (λ x. Rest Element (suc m) (x ∷ (front ++ rest))) (sym e) joined
first_back b t n bytes (of_class e) (in_class m first name rest all are) =
    let joined : Rest Element (suc m) (0x4c ∷ first ∷ ((name ++ 0x3b ∷ []) ++ rest)) = in_array m (0x4c ∷ first ∷ (name ++ 0x3b ∷ [])) rest (class first name all) are in
    subst (λ x. Rest Element (suc m) (x ∷ first ∷ ((name ++ 0x3b ∷ []) ++ rest))) (sym e) joined

-- a parameter inside an array, and one behind others
between_back : (n : ℕ) (bytes : List ℕ) → Rest Element n bytes → Rest Between n bytes
between_back n bytes (in_array m front rest one are) = between (suc m) (front ++ rest) (more m front rest one are)

-- in a name
name_grows : (b n : ℕ) (bytes : List ℕ) → IsNameByte b → Rest Name n bytes → Rest Name n (b ∷ bytes)
name_grows b n bytes is (in_name m name rest all are) = in_name m (b ∷ name) rest (All-cons IsNameByte b name is all) are

name_begins : (b n : ℕ) (bytes : List ℕ) → IsNameByte b → Rest Name n bytes → Rest Class n (b ∷ bytes)
name_begins b n bytes is (in_name m name rest all are) = in_class m b name rest (All-cons IsNameByte b name is all) are

name_ends : (b n : ℕ) (bytes : List ℕ) → b ≡ 0x3b → Rest Between n bytes → Rest Name (suc n) (b ∷ bytes)
name_ends b n bytes e (between m rest are) =
    let joined : Rest Name (suc m) (0x3b ∷ rest) = in_name m [] rest (All-nil IsNameByte) are in
    subst (λ x. Rest Name (suc m) (x ∷ rest)) (sym e) joined

in_class_back : (b : ℕ) (t : Stage) (n : ℕ) (bytes : List ℕ) → b < 256 → stage_after Class b ≡ Some t → Rest t n bytes → Rest Class (ended t n) (b ∷ bytes)
in_class_back b t n bytes small e rest = elim (eqb_tells b 0x3b) [ inl p ↦ by_end p.0 e | inr p ↦ by_byte p.1 (rw p.0 at e) rest ]
  where
    by_end : (b == 0x3b) ≡ true → stage_after Class b ≡ Some t → Rest Class (ended t n) (b ∷ bytes)
    by_end is_end e = let k : None ≡ Some t = rw is_end at e in cc

    by_byte : (b ≡ 0x3b → ⊥) → Some Name ≡ Some t → Rest t n bytes → Rest Class (ended t n) (b ∷ bytes)
    by_byte no_end e rest = let k : t ≡ Name = cc in subst (λ x. Rest Class (ended x n) (b ∷ bytes)) (sym k) (name_begins b n bytes (record { small = small; inside = no_end }) (subst (λ x. Rest x n bytes) k rest))

in_name_back : (b : ℕ) (t : Stage) (n : ℕ) (bytes : List ℕ) → b < 256 → stage_after Name b ≡ Some t → Rest t n bytes → Rest Name (ended t n) (b ∷ bytes)
in_name_back b t n bytes small e rest = elim (eqb_tells b 0x3b) [ inl p ↦ by_end p.1 (rw p.0 at e) rest | inr p ↦ by_byte p.1 (rw p.0 at e) rest ]
  where
    by_end : b ≡ 0x3b → Some Between ≡ Some t → Rest t n bytes → Rest Name (ended t n) (b ∷ bytes)
    by_end is_end e rest = let k : t ≡ Between = cc in subst (λ x. Rest Name (ended x n) (b ∷ bytes)) (sym k) (name_ends b n bytes is_end (subst (λ x. Rest x n bytes) k rest))

    by_byte : (b ≡ 0x3b → ⊥) → Some Name ≡ Some t → Rest t n bytes → Rest Name (ended t n) (b ∷ bytes)
    by_byte no_end e rest = let k : t ≡ Name = cc in subst (λ x. Rest Name (ended x n) (b ∷ bytes)) (sym k) (name_grows b n bytes (record { small = small; inside = no_end }) (subst (λ x. Rest x n bytes) k rest))

pub step_back : (s t : Stage) (b n : ℕ) (bytes : List ℕ) → b < 256 → stage_after s b ≡ Some t → Rest t n bytes → Rest s (ended t n) (b ∷ bytes)
step_back Between t b n bytes small e rest = between_back (ended t n) (b ∷ bytes) (first_back b t n bytes (begun_cases b t e) rest)
step_back Element t b n bytes small e rest = first_back b t n bytes (begun_cases b t e) rest
step_back Class t b n bytes small e rest = in_class_back b t n bytes small e rest
step_back Name t b n bytes small e rest = in_name_back b t n bytes small e rest

-- the stage that a step reaches, and what follows from it
pub along_some : (o : Option Stage) (f : Stage → Option (Stage × ℕ)) (x : Stage × ℕ) → along o f ≡ Some x → (t : Stage) × (o ≡ Some t) × (f t ≡ Some x)
along_some None f x e = let k : None ≡ Some x = e in cc
along_some (Some t) f x e = (t, refl, e)

-- bytes that lead to a stage, and what follows there
pub record Behind (s : Stage) (c m n : ℕ) (bytes : List ℕ) : Type 0 where
  pub count : ℕ
  pub rest : Rest s count bytes
  pub total : c + count ≡ m + n

ended_total : (t : Stage) (c k total : ℕ) → ended t c + k ≡ total → c + ended t k ≡ total
ended_total Between c k total e = omega (arith, e)
ended_total Element c k total e = e
ended_total Class c k total e = e
ended_total Name c k total e = e

pub run_back : (s t : Stage) (c m n : ℕ) (bytes later : List ℕ) → AreBytes bytes → run s c bytes ≡ Some (t, m) → Rest t n later → Behind s c m n (bytes ++ later)
run_back s t c m n [] later small e rest =
    let both : ◌≡◌ {A = Stage × ℕ} (s, c) (t, m) = cc in
    let k : s ≡ t = ap (λ p. p.0) both in
    let l : c ≡ m = ap (λ p. p.1) both in
    record { count = n; rest = subst (λ x. Rest x n later) (sym k) rest; total = ap (λ x. x + n) l }
run_back s t c m n (b ∷ bs) later small e rest =
    let a = along_some (stage_after s b) (λ u. run u (ended u c) bs) (t, m) e in
    let h = run_back a.0 t (ended a.0 c) m n bs later (later_small b bs small) a.2 rest in
    record {
      count = ended a.0 h.count;
      rest = step_back s a.0 b h.count (bs ++ later) (first_small b bs small) a.1 h.rest;
      total = ended_total a.0 c h.count (m + n) h.total;
    }
