-- Bytes have one answer: a spelling, or one refusal.
use Rattle.std.proofs.Common.{◌≡◌, ◌≢◌, ℕ, suc, ◌+◌, ◌-◌, ◌<◌, ◌≤◌, List, [], ◌∷◌, ◌++◌, length, drop, refl, sym, ap, ◌∙◌, subst, arith, inl, inr, ◌⊎◌, append_assoc, length-append}
use Rattle.std.specs.Prelude.{Option, Some, None, slice_index, slice_range}
use Rattle.std.proofs.lemmas.List.{length-take-le, length-drop, take-append-drop, drop-drop}
use Rattle.std.proofs.Math.Seq.{drop-cons}
use Rattle.hessian_text.specs.declared.stage.Kind.{Kind}
use Rattle.hessian_text.specs.declared.stage.Kind.TheVariants.{Text, Binary}
use Rattle.hessian_text.specs.declared.stage.Part.{Part}
use Rattle.hessian_text.specs.declared.stage.Begun.{Begun}
use Rattle.hessian_text.specs.declared.stage.Begun.TheVariants.{Nothing}
use Rattle.hessian_text.specs.declared.stage.Stage.{Stage}
use Rattle.hessian_text.specs.declared.stage.Stage.TheVariants.{Code, High, Low, Inside, Ended}
use Rattle.hessian_text.specs.declared.fault.TextFault.{TextFault}
use Rattle.hessian_text.specs.declared.fault.TextFault.TheVariants as texts
use Rattle.hessian_text.specs.declared.fault.BinaryFault.{BinaryFault}
use Rattle.hessian_text.specs.declared.fault.BinaryFault.TheVariants as binaries
use Rattle.hessian_text.specs.Spelling.{AreBytes, IsSpelledAt, IsCutShort}
use Rattle.hessian_text.specs.Refusal.{IsShort, IsBadCode, IsBadText, BeginsNothing, RefusesText, RefusesBinary}
use Rattle.hessian_text.specs.Residual.{begun_bytes, Completes}
use Rattle.hessian_text.specs.Sound.{SoundStage}
use Rattle.hessian_text.specs.Steps.{taken, step, Runs}
use Rattle.hessian_text.specs.Steps.Runs.{stay, go}
use Rattle.hessian_text.proofs.Stages.{stage_forward, stage_back, moved_is}
use Rattle.hessian_text.proofs.Keeping.{stage_sound}
use Rattle.hessian_text.proofs.Running.{first_small, later_small, runs_to_end, stage_open}
use Rattle.hessian_text.proofs.Answering.{drop_bytes}
use Rattle.hessian_text.proofs.Exactly.{front_of, front_bytes}
use Rattle.hessian_text.proofs.Passing.{LeadsTo, leads_on, chunks_lead, before_leads, gets_stuck}

-- ---- where the machine comes to a halt

abbrev pub Halts : Kind → Stage → List ℕ → Type 0
Halts kind t behind = (behind ≡ []) ⊎ ((b : ℕ) × (bs : List ℕ) × (behind ≡ b ∷ bs) × (step kind t b ≡ None))

-- bytes lead to a stage, and no further
pub record Stop (kind : Kind) (rest came : List ℕ) (t : Stage) : Type 0 where
  pub leads : LeadsTo kind Code came t
  pub behind : List ℕ
  pub parts : rest ≡ came ++ behind
  pub halts : Halts kind t behind

head_of : (x y : ℕ) (xs ys : List ℕ) → x ∷ xs ≡ y ∷ ys → x ≡ y
head_of x y xs ys e = cc

tail_of : (x y : ℕ) (xs ys : List ℕ) → x ∷ xs ≡ y ∷ ys → xs ≡ ys
tail_of x y xs ys e = cc

some_apart : (p : Stage × List ℕ) → Some p ≡ None → ⊥
some_apart p e = cc

goes_past : (kind : Kind) (s t : Stage) (y : ℕ) (g zs xs : List ℕ) → step kind s y ≡ Some (t, g) → xs ≡ y ∷ zs → Halts kind s xs → ⊥
goes_past kind s t y g zs xs e k (inl h) = let q : y ∷ zs ≡ [] = sym k ∙ h in cc
goes_past kind s t y g zs xs e k (inr h) = both (subst (λ x. step kind s x ≡ None) (head_of h.0 y h.1 zs (sym h.2 ∙ k)) h.3)
  where
    both : step kind s y ≡ None → ⊥
    both n = some_apart (t, g) (sym e ∙ n)

halt_once : (kind : Kind) (s t u : Stage) (xs ys g h us bs : List ℕ) → Runs kind s xs t g → Runs kind s ys u h → xs ++ us ≡ ys ++ bs → Halts kind t us → Halts kind u bs → (xs ≡ ys) × (t ≡ u)
halt_once kind s t u xs ys g h us bs (stay s1) (stay s2) e p q = (refl, refl)
halt_once kind s t u xs ys g h us bs (stay s1) (go s2 v u2 y ys2 g2 h2 k r) e p q = absurd (goes_past kind s v y g2 (ys2 ++ bs) us k e p)
halt_once kind s t u xs ys g h us bs (go s1 v t2 x xs2 g1 h1 k r) (stay s2) e p q = absurd (goes_past kind s v x g1 (xs2 ++ us) bs k (sym e) q)
halt_once kind s t u xs ys g h us bs (go s1 v t2 x xs2 g1 h1 k r) (go s2 w u2 y ys2 g2 h2 m z) e p q =
    let same : x ≡ y = head_of x y (xs2 ++ us) (ys2 ++ bs) e in
    let d = moved_is v w g1 g2 (sym k ∙ ap (step kind s) same ∙ m) in
    let z' : Runs kind v ys2 u h2 = subst (λ q. Runs kind q ys2 u h2) (sym d.0) z in
    let rest = halt_once kind v t u xs2 ys2 h1 h2 us bs r z' (tail_of x y (xs2 ++ us) (ys2 ++ bs) e) p q in
    (ap (λ n. n ∷ xs2) same ∙ ap (λ l. y ∷ l) rest.0, rest.1)

stop_once : (kind : Kind) (rest xs ys : List ℕ) (t u : Stage) → Stop kind rest xs t → Stop kind rest ys u → (xs ≡ ys) × (t ≡ u)
stop_once kind rest xs ys t u p q = halt_once kind Code t u xs ys p.leads.gained q.leads.gained p.behind q.behind p.leads.runs q.leads.runs (sym p.parts ∙ q.parts) p.halts q.halts

-- ---- a spelling

pub record SomeStop (kind : Kind) (rest : List ℕ) (t : Stage) : Type 0 where
  pub came : List ℕ
  pub stop : Stop kind rest came t

at_the_end : (kind : Kind) (behind : List ℕ) → Halts kind Ended behind
at_the_end kind [] = inl refl
at_the_end kind (b ∷ bs) = inr (b, bs, refl, refl)

spelled_stop : (kind : Kind) (bytes value : List ℕ) (at end : ℕ) → AreBytes bytes → IsSpelledAt kind bytes at value end → SomeStop kind (drop at bytes) Ended
spelled_stop kind bytes value at end small h =
    let f = front_of kind bytes at end value h in
    let low = front_bytes f.front f.behind (drop at bytes) f.parts (drop_bytes at bytes small) in
    record { came = f.front; stop = record { leads = record { gained = value; runs = runs_to_end kind Code f.front value tt low f.spells }; behind = f.behind; parts = f.parts; halts = at_the_end kind f.behind } }

-- ---- bytes that end inside a spelling

pub record PartWay (kind : Kind) (s : Stage) (xs ys : List ℕ) : Type 0 where
  pub stage : Stage
  pub leads : LeadsTo kind s xs stage
  pub more : List ℕ
  pub completes : Completes kind stage more ys

part_way : (xs : List ℕ) (kind : Kind) (s : Stage) (value ys : List ℕ) → SoundStage kind s → AreBytes xs → Completes kind s value (xs ++ ys) → PartWay kind s xs ys
part_way [] kind s value ys sound small c = record { stage = s; leads = record { gained = []; runs = stay s }; more = value; completes = c }
part_way (x ∷ xs) kind s value ys sound small c =
    let a = stage_forward kind s x value (xs ++ ys) sound c in
    let r = part_way xs kind a.next a.more ys (stage_sound kind s a.next x a.gained sound (first_small x xs small) a.is) (later_small x xs small) a.completes in
    record { stage = r.stage; leads = record { gained = a.gained ++ r.leads.gained; runs = go s a.next r.stage x xs a.gained r.leads.gained a.is r.leads.runs }; more = r.more; completes = r.completes }

pub record ShortStop (kind : Kind) (rest : List ℕ) : Type 0 where
  pub stage : Stage
  pub stop : Stop kind rest rest stage
  pub unended : stage ≢ Ended

append_nothing : (xs : List ℕ) → xs ≡ xs ++ []
append_nothing [] = refl
append_nothing (x ∷ xs) = ap (λ l. x ∷ l) (append_nothing xs)

short_stop : (kind : Kind) (rest : List ℕ) → AreBytes rest → IsCutShort kind rest → ShortStop kind rest
short_stop kind rest small c =
    let p = part_way rest kind Code c.value c.more tt small c.spells in
    record {
      stage = p.stage;
      stop = record { leads = p.leads; behind = []; parts = append_nothing rest; halts = inl refl };
      unended = λ e. c.lacks (no_more_at p.stage e p.more p.completes);
    }
  where
    no_more_at : (t : Stage) → t ≡ Ended → (more : List ℕ) → Completes kind t more c.more → c.more ≡ []
    no_more_at t e more d = ended_is (subst (λ s. Completes kind s more c.more) e d)
      where
        ended_is : Completes kind Ended more c.more → c.more ≡ []
        ended_is d = d.1

-- ---- a code that begins nothing

pub record CanEnd (kind : Kind) (t : Stage) : Type 0 where
  pub value : List ℕ
  pub bytes : List ℕ
  pub completes : Completes kind t value bytes

open_end : (kind : Kind) (t : Stage) → SoundStage kind t → t ≢ Ended → CanEnd kind t
open_end kind t s n = let o = stage_open kind t s n in record { value = o.value; bytes = o.first ∷ o.more; completes = o.completes }

can_end : (kind : Kind) (t : Stage) → SoundStage kind t → CanEnd kind t
can_end kind Code s = open_end kind Code s (λ e. cc)
can_end kind (High part) s = open_end kind (High part) s (λ e. cc)
can_end kind (Low part high) s = open_end kind (Low part high) s (λ e. cc)
can_end kind (Inside part left begun) s = open_end kind (Inside part left begun) s (λ e. cc)
can_end kind Ended s = record { value = []; bytes = []; completes = (refl, refl) }

code_stuck : (kind : Kind) (c : ℕ) → c < 256 → BeginsNothing kind c → step kind Code c ≡ None
code_stuck kind c small never = by_step (step kind Code c) refl
  where
    by_step : (o : Option (Stage × List ℕ)) → step kind Code c ≡ o → o ≡ None
    by_step None e = refl
    by_step (Some p) e =
        let t = can_end kind p.0 (stage_sound kind Code p.0 c p.1 tt small e) in
        absurd (never (p.1 ++ t.value) t.bytes (stage_back kind Code p.0 c p.1 t.value t.bytes tt small e t.completes))

slice_len : (bytes : List ℕ) (at p : ℕ) → at ≤ p → p ≤ length bytes → length (slice_range bytes at p) ≡ p - at
slice_len bytes at p a w = let len : length (drop at bytes) ≡ length bytes - at = length-drop at bytes in length-take-le (p - at) (drop at bytes) (omega (arith, len))

behind_slice : (bytes : List ℕ) (at p : ℕ) → at ≤ p → drop (p - at) (drop at bytes) ≡ drop p bytes
behind_slice bytes at p a = drop-drop (p - at) at bytes ∙ ap (λ n. drop n bytes) (let e : at + (p - at) ≡ p = omega arith in e)

slice_parts : (bytes : List ℕ) (at p : ℕ) → at ≤ p → drop at bytes ≡ slice_range bytes at p ++ drop p bytes
slice_parts bytes at p a = sym (take-append-drop (p - at) (drop at bytes)) ∙ ap (λ x. slice_range bytes at p ++ x) (behind_slice bytes at p a)

code_stop : (kind : Kind) (bytes : List ℕ) (at p c : ℕ) → AreBytes bytes → IsBadCode kind bytes at p c → Stop kind (drop at bytes) (slice_range bytes at p) Code
code_stop kind bytes at p c small h =
    let e : drop p bytes ≡ slice_index bytes p ∷ drop (suc p) bytes = drop-cons bytes p 0 h.within in
    let n : step kind Code c ≡ None = code_stuck kind c (subst (λ x. x < 256) (sym h.code_is) (small.small p h.within)) h.begins in
    record { leads = chunks_lead kind (slice_range bytes at p) h.behind; behind = drop p bytes; parts = slice_parts bytes at p h.after; halts = inr (slice_index bytes p, drop (suc p) bytes, e, subst (λ x. step kind Code x ≡ None) h.code_is n) }

-- ---- bytes that are no character

pub record TextStop (bytes : List ℕ) (at p : ℕ) : Type 0 where
  pub part : Part
  pub left : ℕ
  pub begun : Begun
  pub stop : Stop Text (drop at bytes) (slice_range bytes at p ++ begun_bytes begun) (Inside part left begun)
  pub b : ℕ
  pub bs : List ℕ
  pub behind_is : stop.behind ≡ b ∷ bs

text_stop : (bytes : List ℕ) (at p : ℕ) → AreBytes bytes → IsBadText bytes at p → TextStop bytes at p
text_stop bytes at p small h =
    let k = gets_stuck (drop p bytes) Text h.part h.left Nothing h.behind.some_left (drop_bytes p bytes small) tt h.begins in
    let front = before_leads Text h.part h.left (slice_range bytes at p) h.behind in
    let all = leads_on Text Code (Inside h.part h.left Nothing) (Inside h.part h.left k.last) (slice_range bytes at p) k.inside front k.leads in
    record {
      part = h.part;
      left = h.left;
      begun = k.last;
      stop = record {
        leads = subst (λ x. LeadsTo Text Code (slice_range bytes at p ++ x) (Inside h.part h.left k.last)) (sym k.came) all;
        behind = k.b ∷ k.rest;
        parts = slice_parts bytes at p h.after ∙ ap (λ x. slice_range bytes at p ++ x) k.parts ∙ sym (append_assoc (slice_range bytes at p) k.inside (k.b ∷ k.rest)) ∙ ap (λ x. (slice_range bytes at p ++ x) ++ (k.b ∷ k.rest)) (sym k.came);
        halts = inr (k.b, k.rest, refl, ap (taken h.part h.left) k.wrong);
      };
      b = k.b;
      bs = k.rest;
      behind_is = refl;
    }

-- ---- two answers

short_no_code : (kind : Kind) (bytes : List ℕ) (at p q c : ℕ) → AreBytes bytes → IsShort kind bytes at p → IsBadCode kind bytes at q c → ⊥
short_no_code kind bytes at p q c small s h =
    let a = short_stop kind (drop at bytes) (drop_bytes at bytes small) s.cut in
    let k = stop_once kind (drop at bytes) (drop at bytes) (slice_range bytes at q) a.stage Code a.stop (code_stop kind bytes at q c small h) in
    let len : length (drop at bytes) ≡ length bytes - at = length-drop at bytes in
    let w : q < length bytes = h.within in
    let f : at ≤ q = h.after in
    let n : length (slice_range bytes at q) ≡ q - at = slice_len bytes at q f (omega arith) in
    let e : length (drop at bytes) ≡ length (slice_range bytes at q) = ap length k.0 in
    omega (arith, len, n, e, w, f)

-- a stop with a byte behind it takes not all
not_all : (kind : Kind) (rest came : List ℕ) (t u : Stage) → Stop kind rest rest u → Stop kind rest came t → length came < length rest → ⊥
not_all kind rest came t u a b lt = let e : length rest ≡ length came = ap length (stop_once kind rest rest came u t a b).0 in omega (arith, e)

text_less : (bytes : List ℕ) (at p : ℕ) (t : TextStop bytes at p) → length (slice_range bytes at p ++ begun_bytes t.begun) < length (drop at bytes)
text_less bytes at p t =
    let len : length (drop at bytes) ≡ length (slice_range bytes at p ++ begun_bytes t.begun) + length t.stop.behind = ap length t.stop.parts ∙ length-append (slice_range bytes at p ++ begun_bytes t.begun) t.stop.behind in
    let some : length t.stop.behind ≡ suc (length t.bs) = ap length t.behind_is in
    omega (arith, len, some)

short_no_text : (bytes : List ℕ) (at p q : ℕ) → AreBytes bytes → IsShort Text bytes at p → IsBadText bytes at q → ⊥
short_no_text bytes at p q small s h =
    let a = short_stop Text (drop at bytes) (drop_bytes at bytes small) s.cut in
    let t = text_stop bytes at q small h in
    not_all Text (drop at bytes) (slice_range bytes at q ++ begun_bytes t.begun) (Inside t.part t.left t.begun) a.stage a.stop t.stop (text_less bytes at q t)

code_code : (kind : Kind) (bytes : List ℕ) (at p q c d : ℕ) → AreBytes bytes → IsBadCode kind bytes at p c → IsBadCode kind bytes at q d → (p ≡ q) × (c ≡ d)
code_code kind bytes at p q c d small g h =
    let k = stop_once kind (drop at bytes) (slice_range bytes at p) (slice_range bytes at q) Code Code (code_stop kind bytes at p c small g) (code_stop kind bytes at q d small h) in
    let wp : p < length bytes = g.within in
    let wq : q < length bytes = h.within in
    let fp : at ≤ p = g.after in
    let fq : at ≤ q = h.after in
    let n : length (slice_range bytes at p) ≡ p - at = slice_len bytes at p fp (omega arith) in
    let m : length (slice_range bytes at q) ≡ q - at = slice_len bytes at q fq (omega arith) in
    let e : length (slice_range bytes at p) ≡ length (slice_range bytes at q) = ap length k.0 in
    let same : p ≡ q = omega (arith, n, m, e, fp, fq) in
    (same, g.code_is ∙ ap (slice_index bytes) same ∙ sym h.code_is)

code_no_text : (bytes : List ℕ) (at p q c : ℕ) → AreBytes bytes → IsBadCode Text bytes at p c → IsBadText bytes at q → ⊥
code_no_text bytes at p q c small g h =
    let t = text_stop bytes at q small h in
    let k = stop_once Text (drop at bytes) (slice_range bytes at p) (slice_range bytes at q ++ begun_bytes t.begun) Code (Inside t.part t.left t.begun) (code_stop Text bytes at p c small g) t.stop in
    apart t.part t.left t.begun k.1
  where
    apart : (part : Part) (left : ℕ) (begun : Begun) → Code ≡ Inside part left begun → ⊥
    apart part left begun e = cc

text_text : (bytes : List ℕ) (at p q : ℕ) → AreBytes bytes → IsBadText bytes at p → IsBadText bytes at q → p ≡ q
text_text bytes at p q small g h =
    let s = text_stop bytes at p small g in
    let t = text_stop bytes at q small h in
    let k = stop_once Text (drop at bytes) (slice_range bytes at p ++ begun_bytes s.begun) (slice_range bytes at q ++ begun_bytes t.begun) (Inside s.part s.left s.begun) (Inside t.part t.left t.begun) s.stop t.stop in
    let begun : s.begun ≡ t.begun = begun_is s.part t.part s.left t.left s.begun t.begun k.1 in
    let lb : length (begun_bytes s.begun) ≡ length (begun_bytes t.begun) = ap (λ b. length (begun_bytes b)) begun in
    let wp : p < length bytes = g.within in
    let wq : q < length bytes = h.within in
    let fp : at ≤ p = g.after in
    let fq : at ≤ q = h.after in
    let n : length (slice_range bytes at p) ≡ p - at = slice_len bytes at p fp (omega arith) in
    let m : length (slice_range bytes at q) ≡ q - at = slice_len bytes at q fq (omega arith) in
    let np : length (slice_range bytes at p ++ begun_bytes s.begun) ≡ length (slice_range bytes at p) + length (begun_bytes s.begun) = length-append (slice_range bytes at p) (begun_bytes s.begun) in
    let nq : length (slice_range bytes at q ++ begun_bytes t.begun) ≡ length (slice_range bytes at q) + length (begun_bytes t.begun) = length-append (slice_range bytes at q) (begun_bytes t.begun) in
    let e : length (slice_range bytes at p ++ begun_bytes s.begun) ≡ length (slice_range bytes at q ++ begun_bytes t.begun) = ap length k.0 in
    omega (arith, n, m, np, nq, e, lb, fp, fq)
  where
    begun_is : (pa pb : Part) (l m : ℕ) (a b : Begun) → Inside pa l a ≡ Inside pb m b → a ≡ b
    begun_is pa pb l m a b e = cc

-- ---- the laws

pub one_text_fault : (bytes : List ℕ) (at : ℕ) (f g : TextFault) → AreBytes bytes → RefusesText bytes at f → RefusesText bytes at g → f ≢ texts.OutOfMemory → g ≢ texts.OutOfMemory → f ≡ g
one_text_fault bytes at (texts.Short p) (texts.Short q) small r s m n = ap texts.Short (r.at_end ∙ sym s.at_end)
one_text_fault bytes at (texts.Short p) (texts.BadCode q d) small r s m n = absurd (short_no_code Text bytes at p q d small r s)
one_text_fault bytes at (texts.Short p) (texts.BadText q) small r s m n = absurd (short_no_text bytes at p q small r s)
one_text_fault bytes at (texts.BadCode p c) (texts.Short q) small r s m n = absurd (short_no_code Text bytes at q p c small s r)
one_text_fault bytes at (texts.BadCode p c) (texts.BadCode q d) small r s m n = let k = code_code Text bytes at p q c d small r s in rw (k.0, k.1) refl
one_text_fault bytes at (texts.BadCode p c) (texts.BadText q) small r s m n = absurd (code_no_text bytes at p q c small r s)
one_text_fault bytes at (texts.BadText p) (texts.Short q) small r s m n = absurd (short_no_text bytes at q p small s r)
one_text_fault bytes at (texts.BadText p) (texts.BadCode q d) small r s m n = absurd (code_no_text bytes at q p d small s r)
one_text_fault bytes at (texts.BadText p) (texts.BadText q) small r s m n = ap texts.BadText (text_text bytes at p q small r s)
one_text_fault bytes at texts.OutOfMemory g small r s m n = absurd (m refl)
one_text_fault bytes at (texts.Short p) texts.OutOfMemory small r s m n = absurd (n refl)
one_text_fault bytes at (texts.BadCode p c) texts.OutOfMemory small r s m n = absurd (n refl)
one_text_fault bytes at (texts.BadText p) texts.OutOfMemory small r s m n = absurd (n refl)

pub one_binary_fault : (bytes : List ℕ) (at : ℕ) (f g : BinaryFault) → AreBytes bytes → RefusesBinary bytes at f → RefusesBinary bytes at g → f ≢ binaries.OutOfMemory → g ≢ binaries.OutOfMemory → f ≡ g
one_binary_fault bytes at (binaries.Short p) (binaries.Short q) small r s m n = ap binaries.Short (r.at_end ∙ sym s.at_end)
one_binary_fault bytes at (binaries.Short p) (binaries.BadCode q d) small r s m n = absurd (short_no_code Binary bytes at p q d small r s)
one_binary_fault bytes at (binaries.BadCode p c) (binaries.Short q) small r s m n = absurd (short_no_code Binary bytes at q p c small s r)
one_binary_fault bytes at (binaries.BadCode p c) (binaries.BadCode q d) small r s m n = let k = code_code Binary bytes at p q c d small r s in rw (k.0, k.1) refl
one_binary_fault bytes at binaries.OutOfMemory g small r s m n = absurd (m refl)
one_binary_fault bytes at (binaries.Short p) binaries.OutOfMemory small r s m n = absurd (n refl)
one_binary_fault bytes at (binaries.BadCode p c) binaries.OutOfMemory small r s m n = absurd (n refl)

-- where a spelling stands, nothing else halts
spelled_halts : (kind : Kind) (bytes value came : List ℕ) (at end : ℕ) (t : Stage) → AreBytes bytes → IsSpelledAt kind bytes at value end → Stop kind (drop at bytes) came t → t ≡ Ended
spelled_halts kind bytes value came at end t small h s = let w = spelled_stop kind bytes value at end small h in (stop_once kind (drop at bytes) came w.came t Ended s w.stop).1

pub text_or_fault : (bytes value : List ℕ) (at end : ℕ) (f : TextFault) → AreBytes bytes → IsSpelledAt Text bytes at value end → RefusesText bytes at f → f ≡ texts.OutOfMemory
text_or_fault bytes value at end (texts.Short p) small h r = absurd (let s = short_stop Text (drop at bytes) (drop_bytes at bytes small) r.cut in s.unended (spelled_halts Text bytes value (drop at bytes) at end s.stage small h s.stop))
text_or_fault bytes value at end (texts.BadCode p c) small h r = absurd (let e : Code ≡ Ended = spelled_halts Text bytes value (slice_range bytes at p) at end Code small h (code_stop Text bytes at p c small r) in cc)
text_or_fault bytes value at end (texts.BadText p) small h r = absurd (let t = text_stop bytes at p small r in inside_apart t.part t.left t.begun (spelled_halts Text bytes value (slice_range bytes at p ++ begun_bytes t.begun) at end (Inside t.part t.left t.begun) small h t.stop))
  where
    inside_apart : (part : Part) (left : ℕ) (begun : Begun) → Inside part left begun ≡ Ended → ⊥
    inside_apart part left begun e = cc
text_or_fault bytes value at end texts.OutOfMemory small h r = refl

pub binary_or_fault : (bytes value : List ℕ) (at end : ℕ) (f : BinaryFault) → AreBytes bytes → IsSpelledAt Binary bytes at value end → RefusesBinary bytes at f → f ≡ binaries.OutOfMemory
binary_or_fault bytes value at end (binaries.Short p) small h r = absurd (let s = short_stop Binary (drop at bytes) (drop_bytes at bytes small) r.cut in s.unended (spelled_halts Binary bytes value (drop at bytes) at end s.stage small h s.stop))
binary_or_fault bytes value at end (binaries.BadCode p c) small h r = absurd (let e : Code ≡ Ended = spelled_halts Binary bytes value (slice_range bytes at p) at end Code small h (code_stop Binary bytes at p c small r) in cc)
binary_or_fault bytes value at end binaries.OutOfMemory small h r = refl
