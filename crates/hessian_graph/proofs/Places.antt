-- Places in a list of numbers that grows at its end.
use Rattle.std.proofs.Common.{◌≡◌, ℕ, zero, suc, ◌+◌, ◌<◌, List, [], ◌∷◌, ◌++◌, length, get_or, refl, ap, sym, ◌∙◌, subst, arith, inl, inr, length-append}
use Rattle.std.specs.Prelude.{nat_eq, if◌then◌else◌, Option, Some, None, map}
use Rattle.std.proofs.lemmas.Bool.{eq-eqb, ne_eqb, cases_eq, cases_lt}
use Rattle.hessian_graph.specs.Canon.{place_of, one_later}
use Rattle.hessian_graph.specs.Iso.{StandOnce}

none_before : (o : Option ℕ) → one_later o ≡ None → o ≡ None
none_before None e = refl
none_before (Some k) e = cc

some_before : (o : Option ℕ) (k : ℕ) → one_later o ≡ Some k → (j : ℕ) × (o ≡ Some j) × (k ≡ suc j)
some_before None k e = cc
some_before (Some j) k e = let s : suc j ≡ k = cc in (j, refl, sym s)

kept_later : (o p : Option ℕ) (k : ℕ) → ((j : ℕ) → o ≡ Some j → p ≡ Some j) → one_later o ≡ Some k → one_later p ≡ Some k
kept_later None p k f e = cc
kept_later (Some j) p k f e = rw (f j refl) e

-- a place stays where the list grows
pub place_kept : (n : ℕ) (xs ys : List ℕ) (k : ℕ) → place_of n xs ≡ Some k → place_of n (xs ++ ys) ≡ Some k
place_kept n [] ys k e = cc
place_kept n (x ∷ xs) ys k e = elim (cases_eq n x) [
  | inl same ↦ rw (eq-eqb n x same) (rw (eq-eqb n x same) at e)
  | inr other ↦ rw (ne_eqb n x other) (kept_later (place_of n xs) (place_of n (xs ++ ys)) k (λ j q. place_kept n xs ys j q) (rw (ne_eqb n x other) at e))
]

-- a new number has the next place
pub place_new : (n : ℕ) (xs ys : List ℕ) → place_of n xs ≡ None → place_of n (xs ++ n ∷ ys) ≡ Some (length xs)
place_new n [] ys e = rw (eq-eqb n n refl) refl
place_new n (x ∷ xs) ys e = elim (cases_eq n x) [
  | inl same ↦ let bad : ◌≡◌ {A = Option ℕ} (Some 0) None = (rw (eq-eqb n x same) at e) in cc
  | inr other ↦ rw (ne_eqb n x other) (ap one_later (place_new n xs ys (none_before (place_of n xs) (rw (ne_eqb n x other) at e))))
]

-- a place is within the list
pub place_within : (n : ℕ) (xs : List ℕ) (k : ℕ) → place_of n xs ≡ Some k → k < length xs
place_within n [] k e = cc
place_within n (x ∷ xs) k e = elim (cases_eq n x) [
  | inl same ↦ let z : ◌≡◌ {A = Option ℕ} (Some 0) (Some k) = (rw (eq-eqb n x same) at e) in let s : 0 ≡ k = cc in omega (arith, s)
  | inr other ↦
      let p = some_before (place_of n xs) k (rw (ne_eqb n x other) at e) in
      let b = place_within n xs p.0 p.1 in
      omega (arith, b, p.2)
]

-- another number's place stays
pub place_other : (n m : ℕ) (xs : List ℕ) → (m ≡ n → ⊥) → place_of m (xs ++ n ∷ []) ≡ place_of m xs
place_other n m [] other = rw (ne_eqb m n other) refl
place_other n m (x ∷ xs) other = ap (λ o. if nat_eq m x then Some 0 else one_later o) (place_other n m xs other)

-- what a list shows at a number's place belongs to that number
pub place_shows : {A : Type 0} (d : A) (f : ℕ → A) (xs : List ℕ) (n k : ℕ) → place_of n xs ≡ Some k → get_or (map f xs) k d ≡ f n
place_shows d f [] n k e = cc
place_shows d f (x ∷ xs) n k e = elim (cases_eq n x) [
  | inl same ↦
      let z : ◌≡◌ {A = Option ℕ} (Some 0) (Some k) = (rw (eq-eqb n x same) at e) in
      let s : 0 ≡ k = cc in
      subst (λ i. get_or (map f (x ∷ xs)) i d ≡ f n) s (ap f (sym same))
  | inr other ↦
      let p = some_before (place_of n xs) k (rw (ne_eqb n x other) at e) in
      subst (λ i. get_or (map f (x ∷ xs)) i d ≡ f n) (sym p.2) (place_shows d f xs n p.0 p.1)
]

pub place_at : (xs : List ℕ) (n k : ℕ) → place_of n xs ≡ Some k → get_or xs k 0 ≡ n
place_at [] n k e = cc
place_at (x ∷ xs) n k e = elim (cases_eq n x) [
  | inl same ↦
      let z : ◌≡◌ {A = Option ℕ} (Some 0) (Some k) = (rw (eq-eqb n x same) at e) in
      let s : 0 ≡ k = cc in
      subst (λ i. get_or (x ∷ xs) i 0 ≡ n) s (sym same)
  | inr other ↦
      let p = some_before (place_of n xs) k (rw (ne_eqb n x other) at e) in
      subst (λ i. get_or (x ∷ xs) i 0 ≡ n) (sym p.2) (place_at xs n p.0 p.1)
]

-- a number of the list has a place
pub some_place : (n : ℕ) (xs : List ℕ) (k : ℕ) → k < length xs → get_or xs k n ≡ n → (j : ℕ) × (place_of n xs ≡ Some j)
some_place n [] k h e = absurd (omega (arith, h))
some_place n (x ∷ xs) zero h e = (0, rw (eq-eqb n x (sym e)) refl)
some_place n (x ∷ xs) (suc k) h e = elim (cases_eq n x) [
  | inl same ↦ (0, rw (eq-eqb n x same) refl)
  | inr other ↦ let q = some_place n xs k (omega (arith, h)) e in (suc q.0, rw (ne_eqb n x other) (ap one_later q.1))
]

-- each place of a list is the first of its number
abbrev pub AreFirst : List ℕ → Type 0
AreFirst xs = (k : ℕ) → k < length xs → place_of (get_or xs k 0) xs ≡ Some k

front_get : (xs ys : List ℕ) (k : ℕ) → k < length xs → get_or (xs ++ ys) k 0 ≡ get_or xs k 0
front_get [] ys k h = absurd (omega (arith, h))
front_get (x ∷ xs) ys zero h = refl
front_get (x ∷ xs) ys (suc k) h = front_get xs ys k (omega (arith, h))

last_get : (xs : List ℕ) (n : ℕ) → get_or (xs ++ n ∷ []) (length xs) 0 ≡ n
last_get [] n = refl
last_get (x ∷ xs) n = last_get xs n

pub one_more_first : (xs : List ℕ) (n : ℕ) → AreFirst xs → place_of n xs ≡ None → AreFirst (xs ++ n ∷ [])
one_more_first xs n old new k h = elim (cases_lt k (length xs)) [
  | inl before ↦ rw (front_get xs (n ∷ []) k before) (place_kept (get_or xs k 0) xs (n ∷ []) k (old k before))
  | inr past ↦
      let long : length (xs ++ n ∷ []) ≡ length xs + 1 = rw length-append refl in
      let last : length xs ≡ k = omega (arith, h, past, long) in
      subst (λ i. place_of (get_or (xs ++ n ∷ []) i 0) (xs ++ n ∷ []) ≡ Some i) last
      (subst (λ m. place_of m (xs ++ n ∷ []) ≡ Some (length xs)) (sym (last_get xs n)) (place_new n xs [] new))
]

same_some : (i j : ℕ) → ◌≡◌ {A = Option ℕ} (Some i) (Some j) → i ≡ j
same_some i j e = cc

pub stand_once : (xs : List ℕ) → AreFirst xs → StandOnce xs
stand_once xs firsts i j hi hj e = same_some i j (sym (firsts i hi) ∙ ap (λ n. place_of n xs) e ∙ firsts j hj)
