-- Lines that are kept as the keys of an ordered set.
use Rattle.std.proofs.Common.{◌≡◌, ◌⊎◌, ℕ, List, [], ◌∷◌, map, Bool, true, false, not, ◌||◌, refl, sym, ap, subst, ◌∙◌, inl, inr, arith}
use Rattle.std.specs.BTreeSet.{insert_key}
use Rattle.std.specs.Cmp.Lexicographic.{slice_cmp}
use Rattle.std.specs.List.{Contains, list_any}
use Rattle.std.specs.Ordering.{is_eq, nat_cmp, match_ordering}
use Rattle.std.specs.declared.cmp.Ordering.{Ordering}
use Rattle.std.specs.declared.cmp.Ordering.TheVariants.{Less, Equal, Greater}
use Rattle.std.proofs.lemmas.List.Elements.{Contains-append_left, Contains-append_right, Contains-append_cases, Contains-push, Contains-push_cases}
use Rattle.std.proofs.lemmas.Map.Text.{is_eq-slice_cmp}
use Rattle.std.proofs.lemmas.Slice.Eq.{bytes_eq-Decides}

-- what a list with one more element at its front contains
pub at_front : {X : Type 0} (x : X) (xs : List X) → Contains (x ∷ xs) x
at_front x xs = Contains-append_left (x ∷ []) xs x (Contains-push [] x)

pub behind_front : {X : Type 0} (x y : X) (xs : List X) → Contains xs y → Contains (x ∷ xs) y
behind_front x y xs there = Contains-append_right (x ∷ []) xs y there

none_there : {X : Type 0} (x : X) → ¬ Contains [] x
none_there x there = omega (arith, there.1)

front_cases : {X : Type 0} (x y : X) (xs : List X) → Contains (x ∷ xs) y → (x ≡ y) ⊎ Contains xs y
front_cases x y xs there = elim (Contains-append_cases (x ∷ []) xs y there) [
  | inl here ↦ elim (Contains-push_cases [] x y here) [ inl none ↦ absurd (none_there y none) | inr same ↦ inl same ]
  | inr later ↦ inr later
]

-- a list whose first element is this one contains it
front_is : {X : Type 0} (x y : X) (xs : List X) → x ≡ y → Contains (x ∷ xs) y
front_is x y xs same = subst (λ z. Contains (x ∷ xs) z) same (at_front x xs)

one_true : (a b : Bool) → (a || b) ≡ true → (a ≡ true) ⊎ (b ≡ true)
one_true true b some = inl refl
one_true false b some = inr some

either_true : (a b : Bool) → (a ≡ true) ⊎ (b ≡ true) → (a || b) ≡ true
either_true true b some = refl
either_true false b some = elim some [ inl wrong ↦ absurd cc | inr right ↦ right ]

-- the order of bytes finds equal ones
same_bytes : (xs ys : List ℕ) → is_eq (slice_cmp nat_cmp xs ys) ≡ true → xs ≡ ys
same_bytes xs ys equal = (bytes_eq-Decides xs ys).0 (sym (is_eq-slice_cmp xs ys) ∙ equal)

bytes_same : (xs ys : List ℕ) → xs ≡ ys → is_eq (slice_cmp nat_cmp xs ys) ≡ true
bytes_same xs ys same = is_eq-slice_cmp xs ys ∙ (bytes_eq-Decides xs ys).1 same

-- a test that fails where the fact holds
fails_where : (P : Type 0) (b fresh : Bool) → (b ≡ true → P) → (P → b ≡ true) → fresh ≡ not b
    → (fresh ≡ true → ¬ P) × (¬ P → fresh ≡ true)
fails_where P true fresh to from is = ((λ new p. cc), (λ none. absurd (none (to refl))))
fails_where P false fresh to from is = ((λ new p. let wrong = from p in cc), (λ none. is))

-- the keys are seen by their bytes
module _ {K : Type 0} (bytes : K → List ℕ) where
  -- the test of a query finds it
  pub found : (query : List ℕ) (keys : List K) → list_any (λ k. is_eq (slice_cmp nat_cmp query (bytes k))) keys ≡ true
      → Contains (map bytes keys) query
  found query [] some = absurd cc
  found query (k ∷ keys) some = elim (one_true _ _ some) [
    | inl here ↦ front_is (bytes k) query (map bytes keys) (sym (same_bytes query (bytes k) here))
    | inr later ↦ behind_front (bytes k) query (map bytes keys) (found query keys later)
  ]

  pub finds : (query : List ℕ) (keys : List K) → Contains (map bytes keys) query
      → list_any (λ k. is_eq (slice_cmp nat_cmp query (bytes k))) keys ≡ true
  finds query [] there = absurd (none_there query there)
  finds query (k ∷ keys) there = either_true _ _ (elim (front_cases (bytes k) query (map bytes keys) there) [
    | inl same ↦ inl (bytes_same query (bytes k) (sym same))
    | inr later ↦ inr (finds query keys later)
  ])

  pub fresh_if : (query : List ℕ) (keys : List K) (fresh : Bool)
      → fresh ≡ not (list_any (λ k. is_eq (slice_cmp nat_cmp query (bytes k))) keys)
      → (fresh ≡ true → ¬ Contains (map bytes keys) query) × (¬ Contains (map bytes keys) query → fresh ≡ true)
  fresh_if query keys fresh is = fails_where (Contains (map bytes keys) query) _ fresh (found query keys) (finds query keys) is

  -- the keys with one more, at each answer of the order
  step_in : (o : Ordering) (key k : K) (keys rest : List K) (other : List ℕ)
      → (Contains (map bytes rest) other → Contains (map bytes keys) other ⊎ (bytes key ≡ other))
      → Contains (map bytes (match_ordering o (key ∷ k ∷ keys) (k ∷ keys) (k ∷ rest))) other
      → Contains (map bytes (k ∷ keys)) other ⊎ (bytes key ≡ other)
  step_in Less key k keys rest other more there = elim (front_cases (bytes key) other (map bytes (k ∷ keys)) there)
      [ inl same ↦ inr same | inr later ↦ inl later ]
  step_in Equal key k keys rest other more there = inl there
  step_in Greater key k keys rest other more there = elim (front_cases (bytes k) other (map bytes rest) there) [
    | inl same ↦ inl (front_is (bytes k) other (map bytes keys) same)
    | inr later ↦ elim (more later)
        [ inl old ↦ inl (behind_front (bytes k) other (map bytes keys) old) | inr same ↦ inr same ]
  ]

  step_out : (o : Ordering) (key k : K) (keys rest : List K) (other : List ℕ) → (o ≡ Equal → bytes key ≡ bytes k)
      → (Contains (map bytes keys) other ⊎ (bytes key ≡ other) → Contains (map bytes rest) other)
      → Contains (map bytes (k ∷ keys)) other ⊎ (bytes key ≡ other)
      → Contains (map bytes (match_ordering o (key ∷ k ∷ keys) (k ∷ keys) (k ∷ rest))) other
  step_out Less key k keys rest other equal more there = elim there [
    | inl old ↦ behind_front (bytes key) other (map bytes (k ∷ keys)) old
    | inr same ↦ front_is (bytes key) other (map bytes (k ∷ keys)) same
  ]
  step_out Equal key k keys rest other equal more there = elim there
      [ inl old ↦ old | inr same ↦ front_is (bytes k) other (map bytes keys) (sym (equal refl) ∙ same) ]
  step_out Greater key k keys rest other equal more there = elim there [
    | inl old ↦ elim (front_cases (bytes k) other (map bytes keys) old) [
      | inl same ↦ front_is (bytes k) other (map bytes rest) same
      | inr later ↦ behind_front (bytes k) other (map bytes rest) (more (inl later))
    ]
    | inr same ↦ behind_front (bytes k) other (map bytes rest) (more (inr same))
  ]

  pub inserted : (key : K) (keys : List K) (other : List ℕ)
      → Contains (map bytes (insert_key (λ x y. slice_cmp nat_cmp (bytes x) (bytes y)) keys key)) other
      → Contains (map bytes keys) other ⊎ (bytes key ≡ other)
  inserted key [] other there = elim (front_cases (bytes key) other [] there)
      [ inl same ↦ inr same | inr later ↦ inl later ]
  inserted key (k ∷ keys) other there = step_in (slice_cmp nat_cmp (bytes key) (bytes k)) key k keys _ other (inserted key keys other) there

  pub inserts : (key : K) (keys : List K) (other : List ℕ)
      → Contains (map bytes keys) other ⊎ (bytes key ≡ other)
      → Contains (map bytes (insert_key (λ x y. slice_cmp nat_cmp (bytes x) (bytes y)) keys key)) other
  inserts key [] other there = elim there
      [ inl none ↦ absurd (none_there other none) | inr same ↦ front_is (bytes key) other [] same ]
  inserts key (k ∷ keys) other there = step_out (slice_cmp nat_cmp (bytes key) (bytes k)) key k keys _ other
      (λ equal. same_bytes (bytes key) (bytes k) (ap is_eq equal)) (inserts key keys other) there
