-- A reading that did not end with a spelling met none, and one that did met no other.
use Rattle.std.proofs.Common.{◌≡◌, ◌≢◌, ℕ, zero, suc, ◌-◌, ◌<◌, ◌≤◌, List, [], ◌∷◌, ◌++◌, length, take, drop, refl, sym, ap, ◌∙◌, subst, arith, inl, inr, append_assoc}
use Rattle.std.specs.Prelude.{Some, None, slice_index}
use Rattle.std.proofs.lemmas.Bool.{cases_lt}
use Rattle.std.proofs.lemmas.List.{append-nil, length-take-le, length-drop, take-append-drop}
use Rattle.std.proofs.Math.Seq.{drop-cons}
use Rattle.hessian_text.specs.declared.stage.Kind.{Kind}
use Rattle.hessian_text.specs.declared.stage.Stage.{Stage}
use Rattle.hessian_text.specs.declared.stage.Stage.TheVariants.{Code, Inside, Ended}
use Rattle.hessian_text.specs.Spelling.{AreBytes, Spelling, IsSpelledAt}
use Rattle.hessian_text.specs.Refusal.{IsShort}
use Rattle.hessian_text.specs.Residual.{Completes}
use Rattle.hessian_text.specs.Sound.{SoundStage}
use Rattle.hessian_text.specs.Steps.{arrived, taken, step, Runs}
use Rattle.hessian_text.specs.Steps.Runs.{stay, go}
use Rattle.hessian_text.specs.Reader.{Reading, Advances, RefusesCode, RefusesItem}
use Rattle.hessian_text.proofs.Stages.{Ahead, stage_forward, moved_is}
use Rattle.hessian_text.proofs.Keeping.{stage_sound}
use Rattle.hessian_text.proofs.Running.{first_small, later_small, at_end, spelled_once}
use Rattle.hessian_text.proofs.Answering.{take_bytes, drop_bytes}

head_of : (x y : ℕ) (xs ys : List ℕ) → x ∷ xs ≡ y ∷ ys → x ≡ y
head_of x y xs ys e = cc

tail_of : (x y : ℕ) (xs ys : List ℕ) → x ∷ xs ≡ y ∷ ys → xs ≡ ys
tail_of x y xs ys e = cc

-- a run that meets a byte that is refused passes no end of a spelling
stuck : (kind : Kind) (s t : Stage) (came gained xs ys value tail : List ℕ) (b : ℕ) → Runs kind s came t gained → SoundStage kind s → AreBytes came → t ≢ Ended → step kind t b ≡ None → Completes kind s value xs → came ++ b ∷ tail ≡ xs ++ ys → ⊥
stuck kind s t came gained [] ys value tail b (stay u) sound small n e c k = n (at_end kind s value sound c).0
stuck kind s t came gained (x ∷ xs) ys value tail b (stay u) sound small n e c k = refused (stage_forward kind s x value xs sound c) (sym (head_of b x tail (xs ++ ys) k))
  where
    refused : Ahead kind (step kind s x) value xs → x ≡ b → ⊥
    refused a q = let m : step kind s x ≡ None = ap (step kind s) q ∙ e in let w : step kind s x ≡ Some (a.next, a.gained) = a.is in cc
stuck kind s t came gained [] ys value tail b (go s' u t' b' bs g h r more) sound small n e c k = let z : s ≡ Ended = (at_end kind s value sound c).0 in ended_moves s z r
  where
    ended_moves : (s : Stage) → s ≡ Ended → step kind s b' ≡ Some (u, g) → ⊥
    ended_moves s z r = let w : step kind Ended b' ≡ Some (u, g) = subst (λ x. step kind x b' ≡ Some (u, g)) z r in cc
stuck kind s t came gained (x ∷ xs) ys value tail b (go s' u t' b' bs g h r more) sound small n e c k =
    let c' : Completes kind s value (b' ∷ xs) = subst (λ y. Completes kind s value (y ∷ xs)) (sym (head_of b' x (bs ++ b ∷ tail) (xs ++ ys) k)) c in
    let a = stage_forward kind s b' value xs sound c' in
    let m = moved_is u a.next g a.gained (sym r ∙ a.is) in
    let d : Completes kind u a.more xs = subst (λ q. Completes kind q a.more xs) (sym m.0) a.completes in
    stuck kind u t bs h xs ys a.more tail b more (stage_sound kind s u b' g sound (first_small b' bs small) r) (later_small b' bs small) n e d (tail_of b' x (bs ++ b ∷ tail) (xs ++ ys) k)

-- a front that is spelled, and what is behind it
pub record IsFront (kind : Kind) (value rest : List ℕ) (n : ℕ) : Type 0 where
  pub front : List ℕ
  pub behind : List ℕ
  pub parts : rest ≡ front ++ behind
  pub spells : Spelling kind value front
  pub len_is : length front ≡ n

pub front_of : (kind : Kind) (bytes : List ℕ) (at end : ℕ) (value : List ℕ) → IsSpelledAt kind bytes at value end → IsFront kind value (drop at bytes) (end - at)
front_of kind bytes at end value h =
    let rest = drop at bytes in
    let len : length rest ≡ length bytes - at = length-drop at bytes in
    let a : at ≤ end = h.after in
    let w : end ≤ length bytes = h.within in
    record { front = take (end - at) rest; behind = drop (end - at) rest; parts = sym (take-append-drop (end - at) rest); spells = h.spells; len_is = length-take-le (end - at) rest (omega (arith, len, a, w)) }

-- ---- two spellings

shorter_front : (xs ys ps qs : List ℕ) → xs ++ ys ≡ ps ++ qs → length xs ≤ length ps → (more : List ℕ) × (ps ≡ xs ++ more)
shorter_front [] ys ps qs e h = (ps, refl)
shorter_front (x ∷ xs) ys [] qs e h = absurd (omega arith)
shorter_front (x ∷ xs) ys (p ∷ ps) qs e h =
    let r = shorter_front xs ys ps qs (tail_of x p (xs ++ ys) (ps ++ qs) e) (omega arith) in
    (r.0, ap (λ q. p ∷ q) r.1 ∙ ap (λ q. q ∷ (xs ++ r.0)) (sym (head_of x p (xs ++ ys) (ps ++ qs) e)))

pub front_bytes : (xs ys rest : List ℕ) → rest ≡ xs ++ ys → AreBytes rest → AreBytes xs
front_bytes xs ys rest e h = record { small = λ i k. small_at xs ys i k (subst (λ x. AreBytes x) e h) }
  where
    small_at : (xs ys : List ℕ) (i : ℕ) → i < length xs → AreBytes (xs ++ ys) → slice_index xs i < 256
    small_at [] ys i k h = absurd (omega arith)
    small_at (x ∷ xs) ys zero k h = h.small 0 (omega arith)
    small_at (x ∷ xs) ys (suc i) k h = small_at xs ys i (omega arith) (later_small x (xs ++ ys) h)

same_fronts : (kind : Kind) (rest v w : List ℕ) (m n : ℕ) → AreBytes rest → IsFront kind v rest m → IsFront kind w rest n → m ≤ n → (w ≡ v) × (m ≡ n)
same_fronts kind rest v w m n small f g le =
    let lf : length f.front ≡ m = f.len_is in
    let lg : length g.front ≡ n = g.len_is in
    let s = shorter_front f.front f.behind g.front g.behind (sym f.parts ∙ g.parts) (omega (arith, lf, lg, le)) in
    let k = spelled_once kind v w f.front s.0 (front_bytes f.front f.behind rest f.parts small) f.spells (subst (λ x. Spelling kind w x) s.1 g.spells) in
    let e : length g.front ≡ length f.front = ap length (s.1 ∙ ap (λ x. f.front ++ x) k.0 ∙ append-nil f.front) in
    (k.1, omega (arith, lf, lg, e))

two_fronts : (kind : Kind) (rest v w : List ℕ) (m n : ℕ) → AreBytes rest → IsFront kind v rest m → IsFront kind w rest n → (w ≡ v) × (m ≡ n)
two_fronts kind rest v w m n small f g = elim (cases_lt n m) [
  | inr le ↦ same_fronts kind rest v w m n small f g le
  | inl lt ↦ let k = same_fronts kind rest w v n m small g f (omega arith) in (sym k.0, sym k.1)
]

pub two_spelled : (kind : Kind) (bytes v w : List ℕ) (at m n : ℕ) → AreBytes bytes → IsSpelledAt kind bytes at v m → IsSpelledAt kind bytes at w n → (v ≡ w) × (m ≡ n)
two_spelled kind bytes v w at m n small p q =
    let k = two_fronts kind (drop at bytes) v w (m - at) (n - at) (drop_bytes at bytes small) (front_of kind bytes at m v p) (front_of kind bytes at n w q) in
    let a : at ≤ m = p.after in
    let b : at ≤ n = q.after in
    let e : m - at ≡ n - at = k.1 in
    (sym k.0, omega (arith, a, b, e))

-- ---- a spelling, and a reading that was cut short or refused

pub not_cut : (kind : Kind) (bytes value : List ℕ) (at end p : ℕ) → AreBytes bytes → IsSpelledAt kind bytes at value end → IsShort kind bytes at p → ⊥
not_cut kind bytes value at end p small h s =
    let f = front_of kind bytes at end value h in
    let t : Spelling kind s.cut.value (f.front ++ (f.behind ++ s.cut.more)) = subst (λ x. Spelling kind s.cut.value x) (ap (λ x. x ++ s.cut.more) f.parts ∙ append_assoc f.front f.behind s.cut.more) s.cut.spells in
    let k = spelled_once kind value s.cut.value f.front (f.behind ++ s.cut.more) (front_bytes f.front f.behind (drop at bytes) f.parts (drop_bytes at bytes small)) f.spells t in
    s.cut.lacks (right_nil f.behind s.cut.more k.0)
  where
    right_nil : (xs ys : List ℕ) → xs ++ ys ≡ [] → ys ≡ []
    right_nil [] ys e = e
    right_nil (x ∷ xs) ys e = absurd (cc)

not_stuck : (kind : Kind) (bytes value : List ℕ) (at end n : ℕ) (after : Reading) → AreBytes bytes → n < length (drop at bytes) → Advances (record { kind = kind; done = []; stage = Code }) (take n (drop at bytes)) after → after.stage ≢ Ended → step kind after.stage (slice_index (drop at bytes) n) ≡ None → IsSpelledAt kind bytes at value end → ⊥
not_stuck kind bytes value at end n after small within a unended e h =
    let rest = drop at bytes in
    let f = front_of kind bytes at end value h in
    stuck kind Code after.stage (take n rest) a.gained f.front f.behind value (drop (suc n) rest) (slice_index rest n) a.runs tt (take_bytes n rest (drop_bytes at bytes small) (omega arith)) unended e f.spells (ap (λ x. take n rest ++ x) (sym (drop-cons rest n 0 within)) ∙ take-append-drop n rest ∙ f.parts)

pub no_code_no_value : (kind : Kind) (bytes value : List ℕ) (at end n : ℕ) (after : Reading) → AreBytes bytes → n < length (drop at bytes) → Advances (record { kind = kind; done = []; stage = Code }) (take n (drop at bytes)) after → RefusesCode kind after.stage (slice_index (drop at bytes) n) → IsSpelledAt kind bytes at value end → ⊥
no_code_no_value kind bytes value at end n after small within a r h = not_stuck kind bytes value at end n after small within a (λ z. let q : Code ≡ Ended = sym r.at_code ∙ z in cc) (subst (λ s. step kind s (slice_index (drop at bytes) n) ≡ None) (sym r.at_code) (ap arrived r.no_code)) h

pub no_item_no_value : (kind : Kind) (bytes value : List ℕ) (at end n k : ℕ) (after : Reading) → AreBytes bytes → n < length (drop at bytes) → Advances (record { kind = kind; done = []; stage = Code }) (take n (drop at bytes)) after → RefusesItem kind after.stage (slice_index (drop at bytes) n) k → IsSpelledAt kind bytes at value end → ⊥
no_item_no_value kind bytes value at end n k after small within a r h = not_stuck kind bytes value at end n after small within a (λ z. let q : Inside r.part r.left r.begun ≡ Ended = sym r.inside ∙ z in cc) (subst (λ s. step kind s (slice_index (drop at bytes) n) ≡ None) (sym r.inside) (ap (taken r.part r.left) r.wrong)) h
