-- A graph that is read whole.
use Rattle.std.proofs.Common.{◌≡◌, ◌≢◌, ℕ, ◌+◌, ◌≤◌, true, List, [], ◌++◌, length, take, drop, refl, ap, sym, ◌∙◌, subst, arith, length-append}
use Rattle.std.specs.Prelude.{Result, Ok, Err, IfOk, IfErr, MatchResult}
use Rattle.std.proofs.lemmas.List.{append-nil, take_all, take_at, length-take-le}
use Rattle.hessian_graph.specs.declared.parts.Parts.{Parts}
use Rattle.hessian_graph.specs.Shape.{Shape, shape_of}
use Rattle.hessian_text.specs.Spelling.{AreBytes}
use Rattle.hessian_reader.specs.declared.fault.HessianFault.{HessianFault}
use Rattle.hessian_reader.specs.declared.fault.HessianFault.TheVariants.{Short, Double, BadCode, BadText, BadRef, BadType, BadClass, BadLength, TooManyNodes, Trailing, OutOfMemory}
use Rattle.hessian_reader.specs.declared.course.Course.{Course}
use Rattle.hessian_reader.specs.Leaves.{IsDenoted}
use Rattle.hessian_reader.specs.Finish.{MapsAreWhole}
use Rattle.hessian_reader.specs.States.{State, start, is_done, graph_of}
use Rattle.hessian_reader.specs.Steps.{Leads}
use Rattle.hessian_reader.specs.Views.{state_of}
use Rattle.hessian_reader.specs.Course.{EndsAt, NeverEnds, Follows}
use Rattle.hessian_reader.proofs.Running.{reads, denotes}
use Rattle.hessian_reader.proofs.Paired.{maps_whole}
use Rattle.hessian_reader.proofs.OneWay.{Fronts, first_shorter, second_shorter, fronts, bytes_front, leads_on, leads_end, one_graph, parted}

-- the last root ends in one place

same_end : (roots : ℕ) (bytes : List ℕ) (s u : State) (a b a' b' : List ℕ) → AreBytes (a ++ b) → AreBytes (a' ++ b') → Leads (start roots) a s → Leads (start roots) a' u → is_done s ≡ true → is_done u ≡ true → Fronts a b a' b' → a ≡ a'
same_end roots bytes s u a b a' b' small small' l l' e e' (first_shorter k x y) =
    let (none, same) = leads_end e (leads_on k (bytes_front a' b' small') x l l') in
    sym (x ∙ rw none (append-nil a))
same_end roots bytes s u a b a' b' small small' l l' e e' (second_shorter k x y) =
    let (none, same) = leads_end e' (leads_on k (bytes_front a b small) x l' l) in
    x ∙ rw none (append-nil a')

pub ends_once : (roots : ℕ) (bytes : List ℕ) (n m : ℕ) → AreBytes bytes → EndsAt roots bytes n → EndsAt roots bytes m → n ≡ m
ends_once roots bytes n m small x y =
    let a = reads x.graph (take n bytes) x.denoted in
    let b = reads y.graph (take m bytes) y.denoted in
    let l = subst (λ k. Leads (start k) (take n bytes) a.to) x.roots_are a.leads in
    let l' = subst (λ k. Leads (start k) (take m bytes) b.to) y.roots_are b.leads in
    let same = same_end roots bytes a.to b.to (take n bytes) (drop n bytes) (take m bytes) (drop m bytes) (subst AreBytes (sym (parted n bytes)) small) (subst AreBytes (sym (parted m bytes)) small) l l' a.is_end b.is_end (fronts (take n bytes) (drop n bytes) (take m bytes) (drop m bytes) (parted n bytes ∙ sym (parted m bytes))) in
    sym (length-take-le n bytes x.within) ∙ ap length same ∙ length-take-le m bytes y.within

pub ends_whole : (roots : ℕ) (bytes : List ℕ) (g : Shape) → IsDenoted bytes g → length g.roots ≡ roots → EndsAt roots bytes (length bytes)
ends_whole roots bytes g d e = record { graph = g; within = omega arith; denoted = subst (λ x. IsDenoted x g) (sym (take_all (length bytes) bytes (omega arith))) d; roots_are = e }

-- what a reader answers at the end

abbrev pub IsFront : ℕ → List ℕ → Parts → Type 0
IsFront roots fed g = (n : ℕ) × (n ≤ length fed) × IsDenoted (take n fed) (shape_of g) × (length g.roots ≡ roots)

pub finished : (r : Course) (roots : ℕ) (fed : List ℕ) (result : Result Parts HessianFault) → Follows r roots fed → is_done (state_of r.work) ≡ true → IfOk result (λ g. g.roots ≡ (graph_of (state_of r.work)).roots) → IfOk result (λ g. MapsAreWhole (state_of r.work) → shape_of g ≡ graph_of (state_of r.work)) → IfOk result (IsFront roots fed)
finished r roots fed (Err fault) f e is_roots is_shape = tt
finished r roots fed (Ok g) f e is_roots is_shape =
    let s : State = state_of r.work in
    let whole = denotes roots f.before s f.leads e in
    let shape : shape_of g ≡ graph_of s = is_shape (maps_whole f.before s whole.denoted) in
    let front : take (length f.before) fed ≡ f.before = ap (take (length f.before)) f.joined ∙ take_at f.before (f.came ++ f.unread) (length f.before) refl in
    let denoted : IsDenoted (take (length f.before) fed) (shape_of g) = subst (λ x. IsDenoted x (shape_of g)) (sym front) (subst (IsDenoted f.before) (sym shape) whole.denoted) in
    let len : length fed ≡ length f.before + length (f.came ++ f.unread) = ap length f.joined ∙ length-append f.before (f.came ++ f.unread) in
    (length f.before, omega (arith, len), denoted, ap length is_roots ∙ whole.roots_are)

pub front_ends : (roots : ℕ) (fed : List ℕ) (g : Parts) (h : IsFront roots fed g) → EndsAt roots fed h.0
front_ends roots fed g (n, within, denoted, are) = record { graph = shape_of g; within = within; denoted = denoted; roots_are = are }

-- want of memory is what is left
pub is_memory : (fault : HessianFault) → (fault ≢ OutOfMemory → ⊥) → fault ≡ OutOfMemory
is_memory (Short at) h = absurd (h (λ e. cc))
is_memory (Double at code) h = absurd (h (λ e. cc))
is_memory (BadCode at code) h = absurd (h (λ e. cc))
is_memory (BadText at) h = absurd (h (λ e. cc))
is_memory (BadRef at number) h = absurd (h (λ e. cc))
is_memory (BadType at number) h = absurd (h (λ e. cc))
is_memory (BadClass at number) h = absurd (h (λ e. cc))
is_memory (BadLength at number) h = absurd (h (λ e. cc))
is_memory (TooManyNodes at) h = absurd (h (λ e. cc))
is_memory (Trailing at) h = absurd (h (λ e. cc))
is_memory OutOfMemory h = refl

-- over all bytes

abbrev pub Completes : ℕ → List ℕ → Result Parts HessianFault → Type 0
Completes roots bytes result = (g : Shape) → IsDenoted bytes g → length g.roots ≡ roots → MatchResult result (λ read. shape_of read ≡ g) (λ fault. fault ≡ OutOfMemory)

pub refuses : (roots : ℕ) (bytes : List ℕ) (result : Result Parts HessianFault) → Completes roots bytes result → IfErr result (λ fault. fault ≢ OutOfMemory → (g : Shape) → IsDenoted bytes g → length g.roots ≡ roots → ⊥)
refuses roots bytes (Ok g) h = tt
refuses roots bytes (Err fault) h = λ some g d e. some (h g d e)

pub never_completes : (roots : ℕ) (bytes : List ℕ) (fault : HessianFault) → (fault ≢ OutOfMemory → NeverEnds roots bytes) → (g : Shape) → IsDenoted bytes g → length g.roots ≡ roots → fault ≡ OutOfMemory
never_completes roots bytes fault h g d e = is_memory fault (λ some. h some [] (length bytes) (record { small = λ i low. absurd (omega (arith, low)) }) (subst (λ x. EndsAt roots x (length bytes)) (sym (append-nil bytes)) (ends_whole roots bytes g d e)))

same_front : (roots : ℕ) (bytes : List ℕ) (g : Parts) (m : ℕ) → AreBytes bytes → EndsAt roots bytes m → m ≡ length bytes → IsFront roots bytes g → IsDenoted bytes (shape_of g) × (length g.roots ≡ roots)
same_front roots bytes g m small ends all (n, within, denoted, are) =
    let at : n ≡ m = ends_once roots bytes n m small (record { graph = shape_of g; within = within; denoted = denoted; roots_are = are }) ends in
    (subst (λ x. IsDenoted x (shape_of g)) (ap (λ k. take k bytes) (at ∙ all) ∙ take_all (length bytes) bytes (omega arith)) denoted, are)

pub whole_ok : (roots : ℕ) (bytes : List ℕ) (result : Result Parts HessianFault) (m : ℕ) → AreBytes bytes → EndsAt roots bytes m → m ≡ length bytes → IfOk result (IsFront roots bytes) → IfOk result (λ g. IsDenoted bytes (shape_of g) × (length g.roots ≡ roots))
whole_ok roots bytes (Err fault) m small ends all h = tt
whole_ok roots bytes (Ok g) m small ends all h = same_front roots bytes g m small ends all h

pub none_ok : (roots : ℕ) (bytes : List ℕ) (result : Result Parts HessianFault) → ((n : ℕ) → EndsAt roots bytes n → ⊥) → IfOk result (IsFront roots bytes) → IfOk result (λ g. IsDenoted bytes (shape_of g) × (length g.roots ≡ roots))
none_ok roots bytes (Err fault) never h = tt
none_ok roots bytes (Ok g) never h = absurd (never h.0 (front_ends roots bytes g h))

pub completes : (roots : ℕ) (bytes : List ℕ) (result : Result Parts HessianFault) → AreBytes bytes → IfOk result (IsFront roots bytes) → IfErr result (λ fault. fault ≢ OutOfMemory → (fault ≡ Short (length bytes)) × ((n : ℕ) → EndsAt roots bytes n → ⊥)) → Completes roots bytes result
completes roots bytes (Ok read) small h short g d e =
    let q = same_front roots bytes read (length bytes) small (ends_whole roots bytes g d e) refl h in
    one_graph bytes (shape_of read) g small q.0 d (q.1 ∙ sym e)
completes roots bytes (Err fault) small h short g d e = is_memory fault (λ some. (short some).1 (length bytes) (ends_whole roots bytes g d e))
