-- Bytes lead one way: what they denote, and where the last root ends, is one thing at most.
use Rattle.std.proofs.Common.{◌≡◌, ◌≢◌, ℕ, zero, suc, ◌<◌, true, false, List, [], ◌∷◌, ◌++◌, length, take, drop, refl, ap, sym, ◌∙◌, subst, append_assoc, arith, inl, inr}
use Rattle.std.specs.Prelude.{Ok, Err, slice_index}
use Rattle.std.proofs.lemmas.List.{append-nil, take-append-drop}
use Rattle.hessian_graph.specs.Shape.{Shape}
use Rattle.hessian_text.specs.Spelling.{AreBytes}
use Rattle.hessian_text.proofs.Running.{first_small, later_small}
use Rattle.hessian_text.proofs.Exactly.{front_bytes}
use Rattle.hessian_reader.specs.declared.element.Element.{Element}
use Rattle.hessian_reader.specs.declared.element.Want.{Want}
use Rattle.hessian_reader.specs.Leaves.{IsDenoted}
use Rattle.hessian_reader.specs.Elements.{IsElement}
use Rattle.hessian_reader.proofs.Elements.{BeginsElement}
use Rattle.hessian_reader.specs.States.{State, start, want_at, is_done, graph_of}
use Rattle.hessian_reader.specs.Steps.{Outcome, take_element, Leads}
use Rattle.hessian_reader.specs.Steps.Leads.{here, on}
use Rattle.hessian_reader.specs.Course.{EndsAt, NeverEnds, IsStuck}
use Rattle.hessian_reader.proofs.Elements.{element_some, one_element}
use Rattle.hessian_reader.proofs.Outcomes.{ok_is}
use Rattle.hessian_reader.proofs.Running.{reads}

-- two fronts of the same bytes

pub data Fronts (xs ys xs' ys' : List ℕ) : Type 0 where
  first_shorter : (k : List ℕ) → xs' ≡ xs ++ k → ys ≡ k ++ ys' → Fronts xs ys xs' ys'
  second_shorter : (k : List ℕ) → xs ≡ xs' ++ k → ys' ≡ k ++ ys → Fronts xs ys xs' ys'

head_same : (x y : ℕ) (xs ys : List ℕ) → x ∷ xs ≡ y ∷ ys → x ≡ y
head_same x y xs ys e = cc

tail_same : (x y : ℕ) (xs ys : List ℕ) → x ∷ xs ≡ y ∷ ys → xs ≡ ys
tail_same x y xs ys e = cc

longer : (x x' : ℕ) (xs ys xs' ys' : List ℕ) → x ≡ x' → Fronts xs ys xs' ys' → Fronts (x ∷ xs) ys (x' ∷ xs') ys'
longer x x' xs ys xs' ys' e (first_shorter k a b) = first_shorter k (rw (sym e) (ap (λ l. x ∷ l) a)) b
longer x x' xs ys xs' ys' e (second_shorter k a b) = second_shorter k (rw e (ap (λ l. x' ∷ l) a)) b

pub fronts : (xs ys xs' ys' : List ℕ) → xs ++ ys ≡ xs' ++ ys' → Fronts xs ys xs' ys'
fronts [] ys xs' ys' e = first_shorter xs' refl e
fronts (x ∷ xs) ys [] ys' e = second_shorter (x ∷ xs) refl (sym e)
fronts (x ∷ xs) ys (x' ∷ xs') ys' e = longer x x' xs ys xs' ys' (head_same x x' _ _ e) (fronts xs ys xs' ys' (tail_same x x' _ _ e))

pub bytes_front : (xs ys : List ℕ) → AreBytes (xs ++ ys) → AreBytes xs
bytes_front xs ys small = front_bytes xs ys (xs ++ ys) refl small

pub bytes_rest : (xs ys : List ℕ) → AreBytes (xs ++ ys) → AreBytes ys
bytes_rest [] ys small = small
bytes_rest (x ∷ xs) ys small = bytes_rest xs ys (later_small x (xs ++ ys) small)

one_more : (x : ℕ) (xs : List ℕ) → x < 256 → AreBytes xs → AreBytes (x ∷ xs)
one_more x xs h a = record { small = at }
  where
    at : (i : ℕ) → i < length (x ∷ xs) → slice_index (x ∷ xs) i < 256
    at zero l = h
    at (suc i) l = a.small i (omega arith)

pub bytes_both : (xs ys : List ℕ) → AreBytes xs → AreBytes ys → AreBytes (xs ++ ys)
bytes_both [] ys a b = b
bytes_both (x ∷ xs) ys a b = one_more x (xs ++ ys) (first_small x xs a) (bytes_both xs ys (later_small x xs a) b)

nil_front : (xs ys : List ℕ) → [] ≡ xs ++ ys → xs ≡ []
nil_front [] ys e = refl
nil_front (x ∷ xs) ys e = cc

nil_rest : (xs ys : List ℕ) → [] ≡ xs ++ ys → ys ≡ []
nil_rest [] ys e = sym e
nil_rest (x ∷ xs) ys e = cc

-- the element at the front of bytes is one

pub record SameElement (el rest el' rest' : List ℕ) (x x' : Element) : Type 0 where
  pub bytes : el ≡ el'
  pub behind : rest ≡ rest'
  pub element : x ≡ x'

same_by : (w : Want) (el rest el' rest' : List ℕ) (x x' : Element) → AreBytes (el ++ rest) → AreBytes (el' ++ rest') → IsElement w el x → IsElement w el' x' → Fronts el rest el' rest' → SameElement el rest el' rest' x x'
same_by w el rest el' rest' x x' small small' is is' (first_shorter k a b) =
    let (none, same) = one_element w el k x x' (bytes_front el rest small) is (subst (λ l. IsElement w l x') a is') in
    record { bytes = sym (a ∙ rw none (append-nil el)); behind = b ∙ rw none refl; element = sym same }
same_by w el rest el' rest' x x' small small' is is' (second_shorter k a b) =
    let (none, same) = one_element w el' k x' x (bytes_front el' rest' small') is' (subst (λ l. IsElement w l x) a is) in
    record { bytes = a ∙ rw none (append-nil el'); behind = sym (b ∙ rw none refl); element = same }

pub same_element : (w : Want) (el rest el' rest' : List ℕ) (x x' : Element) → AreBytes (el ++ rest) → el ++ rest ≡ el' ++ rest' → IsElement w el x → IsElement w el' x' → SameElement el rest el' rest' x x'
same_element w el rest el' rest' x x' small e is is' = same_by w el rest el' rest' x x' small (subst AreBytes e small) is is' (fronts el rest el' rest' e)

-- the bytes that lead on lead on from there

ok_state : (r : Outcome) (s t : State) → r ≡ Ok s → r ≡ Ok t → s ≡ t
ok_state r s t e e' = ok_is s t (sym e ∙ e')

pub never_nil : (w : Want) (el rest : List ℕ) (x : Element) → IsElement w el x → [] ≡ el ++ rest → ⊥
never_nil w el rest x is e = element_some w el x is (nil_front el rest e)

pub leads_on : {s t u : State} {a bytes : List ℕ} (m : List ℕ) → AreBytes bytes → bytes ≡ a ++ m → Leads s a t → Leads s bytes u → Leads t m u
leads_on {s} {t} {u} {a} {bytes} m small e here l = subst (λ x. Leads s x u) e l
leads_on {s = s} m small e (on x el rest a d is took joined leads) here = absurd (never_nil (want_at s.place) el (rest ++ m) x is (e ∙ ap (λ l. l ++ m) joined ∙ append_assoc el rest m))
leads_on {s = s} {u = u} m small e (on {t = t1} x el rest a d is took joined leads) (on {t = t2} x' el' rest' bytes d' is' took' joined' leads') =
    let whole : bytes ≡ el ++ (rest ++ m) = e ∙ ap (λ l. l ++ m) joined ∙ append_assoc el rest m in
    let q = same_element (want_at s.place) el (rest ++ m) el' rest' x x' (subst AreBytes whole small) (sym whole ∙ joined') is is' in
    let same : t1 ≡ t2 = ok_state (take_element s x) t1 t2 took (ap (take_element s) q.element ∙ took') in
    leads_on m (bytes_rest el (rest ++ m) (subst AreBytes whole small)) refl leads (subst (λ y. Leads t1 y u) (sym q.behind) (subst (λ y. Leads y rest' u) (sym same) leads'))

pub leads_end : {s u : State} {bytes : List ℕ} → is_done s ≡ true → Leads s bytes u → (bytes ≡ []) × (u ≡ s)
leads_end e here = (refl, refl)
leads_end e (on x el rest bytes d is took joined leads) = let bad : true ≡ false = sym e ∙ d in cc

pub one_end : {s t u : State} {bytes : List ℕ} → AreBytes bytes → Leads s bytes t → Leads s bytes u → is_done t ≡ true → u ≡ t
one_end {bytes = bytes} small l l' e = (leads_end e (leads_on [] small (sym (append-nil bytes)) l l')).1

-- one element more
pub leads_more : {s t u : State} {a : List ℕ} (x : Element) (el : List ℕ) → Leads s a t → is_done t ≡ false → IsElement (want_at t.place) el x → take_element t x ≡ Ok u → Leads s (a ++ el) u
leads_more x el here d is took = on x el [] el d is took (sym (append-nil el)) here
leads_more x el (on x' el' rest' a d' is' took' joined' leads) d is took = on x' el' (rest' ++ el) (a ++ el) d' is' took' (ap (λ l. l ++ el) joined' ∙ append_assoc el' rest' el) (leads_more x el leads d is took)

-- bytes denote one graph

pub one_graph : (bytes : List ℕ) (g h : Shape) → AreBytes bytes → IsDenoted bytes g → IsDenoted bytes h → length g.roots ≡ length h.roots → g ≡ h
one_graph bytes g h small dg dh e =
    let a = reads g bytes dg in
    let b = reads h bytes dh in
    let same : b.to ≡ a.to = one_end small a.leads (subst (λ n. Leads (start n) bytes b.to) (sym e) b.leads) a.is_end in
    sym a.same ∙ ap graph_of (sym same) ∙ b.same

-- where the last root ends

-- no element that is taken stands at the front of the bytes
abbrev pub IsBlocked : State → List ℕ → Type 0
IsBlocked s tail = (el rest : List ℕ) (x : Element) (u : State) → tail ≡ el ++ rest → IsElement (want_at s.place) el x → take_element s x ≡ Ok u → ⊥

pub parted : (n : ℕ) (bytes : List ℕ) → take n bytes ++ drop n bytes ≡ bytes
parted n bytes = take-append-drop n bytes

first_blocked : {s u : State} {k : List ℕ} (rest : List ℕ) → is_done s ≡ false → is_done u ≡ true → IsBlocked s (k ++ rest) → Leads s k u → ⊥
first_blocked rest d e blocked here = let bad : true ≡ false = sym e ∙ d in cc
first_blocked rest d e blocked (on {t = t} x el more k d' is took joined leads) = blocked el (more ++ rest) x t (ap (λ l. l ++ rest) joined ∙ append_assoc el more rest) is took

blocked_by : (roots : ℕ) (before tail : List ℕ) (s u : State) (front rest : List ℕ) → AreBytes (before ++ tail) → AreBytes (front ++ rest) → Leads (start roots) before s → is_done s ≡ false → Leads (start roots) front u → is_done u ≡ true → IsBlocked s tail → Fronts before tail front rest → ⊥
blocked_by roots before tail s u front rest small small' l d l' e blocked (first_shorter k a b) = first_blocked rest d e (subst (IsBlocked s) b blocked) (leads_on k (bytes_front front rest small') a l l')
blocked_by roots before tail s u front rest small small' l d l' e blocked (second_shorter k a b) =
    let (none, same) = leads_end e (leads_on k (bytes_front before tail small) a l' l) in
    let bad : true ≡ false = sym e ∙ ap is_done (sym same) ∙ d in
    cc

pub never_ends : (roots : ℕ) (before tail bytes : List ℕ) (s : State) (n : ℕ) → AreBytes bytes → bytes ≡ before ++ tail → Leads (start roots) before s → is_done s ≡ false → IsBlocked s tail → EndsAt roots bytes n → ⊥
never_ends roots before tail bytes s n small joined l d blocked ends =
    let a = reads ends.graph (take n bytes) ends.denoted in
    let l' = subst (λ k. Leads (start k) (take n bytes) a.to) ends.roots_are a.leads in
    blocked_by roots before tail s a.to (take n bytes) (drop n bytes) (subst AreBytes joined small) (subst AreBytes (sym (parted n bytes)) small) l d l' a.is_end blocked
    (fronts before tail (take n bytes) (drop n bytes) (sym joined ∙ sym (parted n bytes)))

-- an element that can't go on, or is refused

stuck_by : (s : State) (came piece more : List ℕ) → AreBytes (came ++ piece) → AreBytes more → IsStuck s came piece → IsBlocked s ((came ++ piece) ++ more)
stuck_by s came piece more small small' (inl none) el rest x u e is took = none more el rest x small' e is
stuck_by s came piece more small small' (inr (used, x', o, within, is', refused)) el rest x u e is took =
    let front : List ℕ = came ++ take used piece in
    let whole : (came ++ piece) ++ more ≡ front ++ (drop used piece ++ more) =
    ap (λ l. (came ++ l) ++ more) (sym (parted used piece)) ∙ ap (λ l. l ++ more) (sym (append_assoc came (take used piece) (drop used piece))) ∙ append_assoc front (drop used piece) more in
    let small2 : AreBytes front = bytes_front front (drop used piece) (subst AreBytes (ap (λ l. came ++ l) (sym (parted used piece)) ∙ sym (append_assoc came (take used piece) (drop used piece))) small) in
    stuck_same (want_at s.place) front (drop used piece ++ more) el rest small2 is' is (fronts front (drop used piece ++ more) el rest (sym whole ∙ e)) refused took
  where
    clash : (x x' : Element) → x ≡ x' → take_element s x ≡ Err o → take_element s x' ≡ Ok u → ⊥
    clash x x' e refused took = let bad : Err o ≡ Ok u = sym refused ∙ ap (take_element s) e ∙ took in cc

    stuck_same : (w : Want) (f r el rest : List ℕ) → AreBytes f → IsElement w f x' → IsElement w el x → Fronts f r el rest → take_element s x' ≡ Err o → take_element s x ≡ Ok u → ⊥
    stuck_same w f r el rest small is' is (first_shorter k a b) refused took = clash x' x (sym (one_element w f k x' x small is' (subst (λ l. IsElement w l x) a is)).1) refused took
    stuck_same w f r el rest small is' is (second_shorter k a b) refused took =
        clash x' x (one_element w el k x x' (bytes_front el k (subst AreBytes a small)) is (subst (λ l. IsElement w l x') a is')).1 refused took

pub stuck_never_ends : (roots : ℕ) (before came piece fed : List ℕ) (s : State) → AreBytes fed → fed ≡ before ++ (came ++ piece) → Leads (start roots) before s → is_done s ≡ false → IsStuck s came piece → NeverEnds roots fed
stuck_never_ends roots before came piece fed s small joined l d stuck more n small' ends =
    let whole : fed ++ more ≡ before ++ ((came ++ piece) ++ more) = ap (λ x. x ++ more) joined ∙ append_assoc before (came ++ piece) more in
    never_ends roots before ((came ++ piece) ++ more) (fed ++ more) s n (bytes_both fed more small small') whole l d (stuck_by s came piece more (bytes_rest before (came ++ piece) (subst AreBytes joined small)) small' stuck) ends

-- an element that has begun isn't whole
pub begun_blocked : (s : State) (came : List ℕ) → AreBytes came → (came ≢ [] → BeginsElement (want_at s.place) came) → IsBlocked s came
begun_blocked s [] small begins el rest x u e is took = never_nil (want_at s.place) el rest x is e
begun_blocked s (b ∷ came) small begins el rest x u e is took =
    let w : Want = want_at s.place in
    let q = begins (λ z. cc) in
    let small' : AreBytes el = bytes_front el rest (subst AreBytes e small) in
    let goes : IsElement w (el ++ (rest ++ q.more)) q.element = subst (λ l. IsElement w l q.element) (ap (λ l. l ++ q.more) e ∙ append_assoc el rest q.more) q.is in
    q.lacks (nil_rest rest q.more (sym (one_element w el (rest ++ q.more) x q.element small' is goes).0))
