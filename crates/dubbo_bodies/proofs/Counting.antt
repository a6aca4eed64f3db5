-- What a descriptor is, by the run of its bytes.
use Rattle.std.proofs.Common.{◌≡◌, ℕ, suc, ◌+◌, ◌-◌, ◌<◌, ◌≤◌, List, [], ◌∷◌, ◌++◌, length, take, drop, get_or, refl, sym, ◌∙◌, ap, subst, arith, append_assoc, inl, inr}
use Rattle.std.specs.Prelude.{◌↔◌, Option, Some, Result, Ok, Err}
use Rattle.std.proofs.lemmas.Bool.{cases_lt}
use Rattle.std.proofs.lemmas.List.{append-nil, get_or_default, take-append-drop, take-take, take_all, length-take-le, length-drop}
use Rattle.std.proofs.lemmas.List.Elements.{All-take, All-drop, All-nil, All-cons}
use Rattle.dubbo_bodies.specs.declared.fault.DescFault.{DescFault}
use Rattle.dubbo_bodies.specs.declared.fault.DescFault.TheVariants.{BadDescriptor, TooManyArgs}
use Rattle.dubbo_bodies.specs.declared.stage.Stage.{Stage}
use Rattle.dubbo_bodies.specs.declared.stage.Stage.TheVariants.{Between, Element, Class, Name}
use Rattle.dubbo_bodies.specs.Descriptor.{MOST, IsNameByte, Parameters, BeginsDescriptor, HasArgs, IsBadAt, ExceedsAt, StopsAt, Tells}
use Rattle.dubbo_bodies.specs.Descriptor.IsPrimitive.{int}
use Rattle.dubbo_bodies.specs.Descriptor.Parameter.{primitive}
use Rattle.dubbo_bodies.specs.Descriptor.Parameters.{none, more}
use Rattle.dubbo_bodies.specs.Stages.{stage_after, ended}
use Rattle.dubbo_bodies.proofs.Running.{AreBytes, along, run, run_parameters, run_back, along_some, Rest}
use Rattle.dubbo_bodies.proofs.Running.Rest.{between, in_array, in_class, in_name}

-- ---- runs of joined bytes

-- where the front of bytes leads, and how the run goes on from there
pub record Split (s : Stage) (c : ℕ) (front later : List ℕ) (x : Stage × ℕ) : Type 0 where
  pub stage : Stage
  pub count : ℕ
  pub first : run s c front ≡ Some (stage, count)
  pub then : run stage count later ≡ Some x

pub run_split : (front later : List ℕ) (s : Stage) (c : ℕ) (x : Stage × ℕ) → run s c (front ++ later) ≡ Some x → Split s c front later x
run_split [] later s c x e = record { stage = s; count = c; first = refl; then = e }
run_split (b ∷ bs) later s c x e =
    let a = along_some (stage_after s b) (λ t. run t (ended t c) (bs ++ later)) x e in
    let h = run_split bs later a.0 (ended a.0 c) x a.2 in
    record { stage = h.stage; count = h.count; first = ap (λ o. along o (λ t. run t (ended t c) bs)) a.1 ∙ h.first; then = h.then }

pub run_join : (front later : List ℕ) (s t : Stage) (c m : ℕ) → run s c front ≡ Some (t, m) → run s c (front ++ later) ≡ run t m later
run_join [] later s t c m e =
    let both : ◌≡◌ {A = Stage × ℕ} (s, c) (t, m) = cc in
    ap (λ p. run p.0 p.1 later) both
run_join (b ∷ bs) later s t c m e =
    let a = along_some (stage_after s b) (λ u. run u (ended u c) bs) (t, m) e in
    ap (λ o. along o (λ u. run u (ended u c) (bs ++ later))) a.1 ∙ run_join bs later a.0 t (ended a.0 c) m a.2

-- ---- fronts of descriptors

-- bytes that complete what has begun at a stage
pub completion : (s : Stage) → (n : ℕ) × (later : List ℕ) × Rest s n later
completion Between = (0, [], between 0 [] none)
completion Element = (1, 0x49 ∷ [], in_array 0 (0x49 ∷ []) [] (primitive 0x49 int) none)
completion Class = (1, 0x61 ∷ 0x3b ∷ [], in_class 0 0x61 [] [] (All-cons IsNameByte 0x61 [] (record { small = omega arith; inside = omega arith }) (All-nil IsNameByte)) none)
completion Name = (1, 0x3b ∷ [], in_name 0 [] [] (All-nil IsNameByte) none)

parameters_of : (n : ℕ) (bytes : List ℕ) → Rest Between n bytes → Parameters n bytes
parameters_of n bytes (between m is are) = are

-- what runs begins a descriptor, and what begins one runs
pub begins_where_run : (bytes : List ℕ) (s : Stage) (c : ℕ) → AreBytes bytes → run Between 0 bytes ≡ Some (s, c) → BeginsDescriptor bytes
begins_where_run bytes s c small e =
    let by = completion s in
    let b = run_back Between s 0 c by.0 bytes by.1 small e by.2 in
    record { count = b.count; more = by.1; are = parameters_of b.count (bytes ++ by.1) b.rest }

pub runs_where_begun : (bytes : List ℕ) → BeginsDescriptor bytes → (s : Stage) × (c : ℕ) × (run Between 0 bytes ≡ Some (s, c))
runs_where_begun bytes b =
    let w = run_split bytes b.more Between 0 (Between, 0 + b.count) (run_parameters b.count (bytes ++ b.more) 0 b.are) in
    (w.stage, w.count, w.first)

pub are_where_run : (bytes : List ℕ) (c : ℕ) → AreBytes bytes → run Between 0 bytes ≡ Some (Between, c) → Parameters c bytes
are_where_run bytes c small e =
    let b = run_back Between Between 0 c 0 bytes [] small e (between 0 [] none) in
    let k : b.count ≡ c = omega (arith, b.total) in
    let l : bytes ++ [] ≡ bytes = append-nil bytes in
    subst (λ x. Parameters c x) l (subst (λ n. Parameters n (bytes ++ [])) k (parameters_of b.count (bytes ++ []) b.rest))

pub run_whole : (n : ℕ) (bytes : List ℕ) → Parameters n bytes → run Between 0 bytes ≡ Some (Between, n)
run_whole n bytes are = run_parameters n bytes 0 are ∙ ap (λ k. Some (Between, k)) (omega arith)

pub begins_of_front : (front later : List ℕ) → BeginsDescriptor (front ++ later) → BeginsDescriptor front
begins_of_front front later b = record { count = b.count; more = later ++ b.more; are = subst (λ x. Parameters b.count x) (append_assoc front later b.more) b.are }

pub begins_shorter : (desc : List ℕ) (i j : ℕ) → i ≤ j → BeginsDescriptor (take j desc) → BeginsDescriptor (take i desc)
begins_shorter desc i j le b =
    let e : take i desc ++ drop i (take j desc) ≡ take j desc = ap (λ x. x ++ drop i (take j desc)) (sym (take-take i j desc le)) ∙ take-append-drop i (take j desc) in
    begins_of_front (take i desc) (drop i (take j desc)) (subst BeginsDescriptor (sym e) b)

pub begins_whole : (desc : List ℕ) (n i : ℕ) → Parameters n desc → BeginsDescriptor (take i desc)
begins_whole desc n i are = begins_of_front (take i desc) (drop i desc) (record { count = n; more = []; are = subst (λ x. Parameters n x) (sym (append-nil (take i desc ++ drop i desc) ∙ take-append-drop i desc)) are })

-- ---- more bytes have more parameters

some_parameter : (n : ℕ) (b : ℕ) (bytes : List ℕ) → Parameters n (b ∷ bytes) → 0 < n
some_parameter n b bytes are = by_length n (b ∷ bytes) are (omega arith)
  where
    by_length : (n : ℕ) (bytes : List ℕ) → Parameters n bytes → 0 < length bytes → 0 < n
    by_length n bytes none h = absurd (omega (arith, h))
    by_length n bytes (more count front rest one others) h = omega arith

-- behind whole parameters, a descriptor has more of them wherever it has more bytes
pub more_behind : (n m : ℕ) (front later : List ℕ) → AreBytes later → Parameters n front → Parameters m (front ++ later) → 0 < length later → n < m
more_behind n m front [] small one both h = absurd (omega (arith, h))
more_behind n m front (b ∷ bs) small one both h =
    let e : run Between n (b ∷ bs) ≡ Some (Between, m) = sym (run_join front (b ∷ bs) Between Between 0 n (run_whole n front one)) ∙ run_whole m (front ++ b ∷ bs) both in
    let w = run_back Between Between n m 0 (b ∷ bs) [] small e (between 0 [] none) in
    let are : Parameters w.count (b ∷ bs) = subst (λ x. Parameters w.count x) (append-nil (b ∷ bs)) (parameters_of w.count ((b ∷ bs) ++ []) w.rest) in
    omega (arith, w.total, some_parameter w.count b bs are)

-- ---- what a count answers

-- a descriptor is bad nowhere
no_place : (desc : List ℕ) (count at : ℕ) → Parameters count desc → IsBadAt desc at → ⊥
no_place desc count at are bad = elim (cases_lt at (length desc)) [ inl h ↦ bad.stops h (begins_whole desc count (suc at) are) | inr h ↦ bad.ends (omega (arith, h, bad.within)) count are ]

-- nothing ahead of a bad place goes on behind it
first_bad : (desc : List ℕ) (at later : ℕ) → at < later → IsBadAt desc at → later ≤ length desc → BeginsDescriptor (take later desc) → ⊥
first_bad desc at later h bad within b = bad.stops (omega (arith, h, within)) (begins_shorter desc (suc at) later (omega (arith, h)) b)

-- where one parameter too many begins, longer fronts have more than there may be
beyond : (desc : List ℕ) (at later n : ℕ) → AreBytes desc → ExceedsAt desc at → at < later → later ≤ length desc → Parameters n (take later desc) → MOST < n
beyond desc at later n small over h within are =
    let cut : take at desc ++ drop at (take later desc) ≡ take later desc = ap (λ x. x ++ drop at (take later desc)) (sym (take-take at later desc (omega (arith, h)))) ∙ take-append-drop at (take later desc) in
    let long : length (drop at (take later desc)) ≡ later - at = length-drop at (take later desc) ∙ ap (λ n. n - at) (length-take-le later desc within) in
    more_behind MOST n (take at desc) (drop at (take later desc)) (All-drop (λ b. b < 256) at (take later desc) (All-take (λ b. b < 256) later desc small)) over.full (subst (λ x. Parameters n x) (sym cut) are) (omega (arith, long, h))

beyond_whole : (desc : List ℕ) (at n : ℕ) → AreBytes desc → ExceedsAt desc at → Parameters n desc → MOST < n
beyond_whole desc at n small over are = beyond desc at (length desc) n small over over.within (omega arith) (subst (λ x. Parameters n x) (sym (take_all (length desc) desc (omega arith))) are)

same_place : (i j : ℕ) → (i < j → ⊥) → (j < i → ⊥) → i ≡ j
same_place i j a b = elim (cases_lt i j) [ inl h ↦ absurd (a h) | inr h ↦ elim (cases_lt j i) [ inl l ↦ absurd (b l) | inr l ↦ omega (arith, h, l) ] ]

same_count : (desc : List ℕ) (n m : ℕ) → Parameters n desc → Parameters m desc → n ≡ m
same_count desc n m a b =
    let e : ◌≡◌ {A = Option (Stage × ℕ)} (Some (Between, n)) (Some (Between, m)) = sym (run_whole n desc a) ∙ run_whole m desc b in
    let p : ◌≡◌ {A = Stage × ℕ} (Between, n) (Between, m) = cc in
    ap (λ p. p.1) p

-- two bad places are one
same_stop : (desc : List ℕ) (i j : ℕ) → StopsAt desc i → StopsAt desc j → i ≡ j
same_stop desc i j a b = same_place i j (λ h. first_bad desc i j h a.bad b.bad.within b.bad.begins) (λ h. first_bad desc j i h b.bad a.bad.within a.bad.begins)

same_excess : (desc : List ℕ) (i j : ℕ) → AreBytes desc → ExceedsAt desc i → ExceedsAt desc j → i ≡ j
same_excess desc i j small a b = same_place i j
    (λ h. let k : MOST < MOST = beyond desc i j MOST small a h (omega (arith, b.within)) b.full in absurd (omega (arith, k)))
    (λ h. let k : MOST < MOST = beyond desc j i MOST small b h (omega (arith, a.within)) a.full in absurd (omega (arith, k)))

-- a place is not bad and one too many
apart : (desc : List ℕ) (i j : ℕ) → StopsAt desc i → ExceedsAt desc j → ⊥
apart desc i j stop over = elim (cases_lt j i) [ inl h ↦ stop.few j h over | inr h ↦ first_bad desc i (suc j) (omega (arith, h)) stop.bad (omega (arith, over.within)) over.begins ]

few_and_many : (desc : List ℕ) (n at : ℕ) → AreBytes desc → HasArgs desc n → ExceedsAt desc at → ⊥
few_and_many desc n at small has over = let k : MOST < n = beyond_whole desc at n small over has.are in absurd (omega (arith, k, has.few))

-- at most one answer is told
pub one_answer : (desc : List ℕ) (a b : Result ℕ DescFault) → AreBytes desc → Tells desc a → Tells desc b → a ≡ b
one_answer desc (Ok n) (Ok m) small a b = ap (λ k. Ok k) (same_count desc n m a.are b.are)
one_answer desc (Ok n) (Err (BadDescriptor at)) small a b = absurd (no_place desc n at a.are b.bad)
one_answer desc (Ok n) (Err (TooManyArgs at)) small a b = absurd (few_and_many desc n at small a b)
one_answer desc (Err (BadDescriptor at)) (Ok n) small a b = absurd (no_place desc n at b.are a.bad)
one_answer desc (Err (BadDescriptor i)) (Err (BadDescriptor j)) small a b = ap (λ k. Err (BadDescriptor k)) (same_stop desc i j a b)
one_answer desc (Err (BadDescriptor i)) (Err (TooManyArgs j)) small a b = absurd (apart desc i j a b)
one_answer desc (Err (TooManyArgs at)) (Ok n) small a b = absurd (few_and_many desc n at small b a)
one_answer desc (Err (TooManyArgs i)) (Err (BadDescriptor j)) small a b = absurd (apart desc j i b a)
one_answer desc (Err (TooManyArgs i)) (Err (TooManyArgs j)) small a b = ap (λ k. Err (TooManyArgs k)) (same_excess desc i j small a b)

-- an answer that is told is given exactly where it holds
pub record Exactly (desc : List ℕ) (answer : Result ℕ DescFault) : Type 0 where
  pub ok : (count : ℕ) → (answer ≡ Ok count) ↔ HasArgs desc count
  pub bad : (at : ℕ) → (answer ≡ Err (BadDescriptor at)) ↔ StopsAt desc at
  pub many : (at : ℕ) → (answer ≡ Err (TooManyArgs at)) ↔ ExceedsAt desc at

pub exactly : (desc : List ℕ) (answer : Result ℕ DescFault) → AreBytes desc → Tells desc answer → Exactly desc answer
exactly desc answer small told = record {
  ok = λ count. (λ e. subst (Tells desc) e told, λ h. one_answer desc answer (Ok count) small told h);
  bad = λ at. (λ e. subst (Tells desc) e told, λ h. one_answer desc answer (Err (BadDescriptor at)) small told h);
  many = λ at. (λ e. subst (Tells desc) e told, λ h. one_answer desc answer (Err (TooManyArgs at)) small told h);
}

-- what the type of a slice says of its bytes
pub small : (desc : List ℕ) → ((i : ℕ) → get_or desc i 0 < 256) → AreBytes desc
small desc each k d h = subst (λ x. x < 256) (get_or_default desc k 0 d h) (each k)
