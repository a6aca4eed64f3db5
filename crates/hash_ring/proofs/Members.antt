-- What a list has after a change: through a map, a filter, and a key put in or taken out.
use Rattle.std.proofs.Common.{◌≡◌, ℕ, ◌<◌, ◌⊎◌, inl, inr, Bool, true, false, cond, List, [], ◌∷◌, map, refl, sym, ◌∙◌, ap, subst, arith}
use Rattle.std.specs.List.{Contains, filter}
use Rattle.std.specs.Set.{remove_key}
use Rattle.std.specs.BTreeSet.{insert_key}
use Rattle.std.specs.Ordering.{match_ordering, nat_cmp}
use Rattle.std.specs.Cmp.Lexicographic.{slice_cmp}
use Rattle.std.proofs.lemmas.Map.Lookups.{exact_bytes}
use Rattle.std.specs.declared.cmp.Ordering.{Ordering}
use Rattle.std.specs.declared.cmp.Ordering.TheVariants.{Less, Equal, Greater}
use Rattle.std.proofs.lemmas.List.Elements.{Contains-append_left, Contains-append_right, Contains-append_cases, Contains-push, Contains-push_cases}

module _ {X : Type 0} where
  pub in_front : (x : X) (xs : List X) → Contains (x ∷ xs) x
  in_front x xs = Contains-append_left (x ∷ []) xs x (Contains-push [] x)

  pub further : (x : X) (xs : List X) (y : X) → Contains xs y → Contains (x ∷ xs) y
  further x xs y h = Contains-append_right (x ∷ []) xs y h

  pub nowhere : (y : X) → Contains [] y → ⊥
  nowhere y h = let below : h.0 < 0 = h.1 in absurd (omega arith)

  pub front_or_further : (x : X) (xs : List X) (y : X) → Contains (x ∷ xs) y → (x ≡ y) ⊎ Contains xs y
  front_or_further x xs y h = elim (Contains-append_cases (x ∷ []) xs y h) [
    | inl front ↦ elim (Contains-push_cases [] x y front) [ inl none ↦ absurd (nowhere y none) | inr same ↦ inl same ]
    | inr there ↦ inr there
  ]

  pub in_front_as : (x : X) (xs : List X) (y : X) → x ≡ y → Contains (x ∷ xs) y
  in_front_as x xs y same = subst (λ z. Contains (x ∷ xs) z) same (in_front x xs)

module _ {X Y : Type 0} (f : X → Y) where
  pub mapped : (xs : List X) (x : X) → Contains xs x → Contains (map f xs) (f x)
  mapped [] x h = absurd (nowhere x h)
  mapped (y ∷ ys) x h = elim (front_or_further y ys x h) [
    | inl same ↦ in_front_as (f y) (map f ys) (f x) (ap f same)
    | inr there ↦ further (f y) (map f ys) (f x) (mapped ys x there)
  ]

  pub was_mapped : (xs : List X) (y : Y) → Contains (map f xs) y → (x : X) × Contains xs x × (f x ≡ y)
  was_mapped [] y h = absurd (nowhere y h)
  was_mapped (x ∷ xs) y h = elim (front_or_further (f x) (map f xs) y h) [
    | inl same ↦ (x, in_front x xs, same)
    | inr there ↦ let r = was_mapped xs y there in (r.0, further x xs r.0 r.1, r.2)
  ]

module _ {X : Type 0} (test : X → Bool) where
  pub filtered : (xs : List X) (x : X) → Contains xs x → test x ≡ true → Contains (filter test xs) x
  filtered [] x h is = absurd (nowhere x h)
  filtered (y ∷ ys) x h is = elim (front_or_further y ys x h) [
    | inl same ↦ subst (λ b. Contains (cond b (y ∷ filter test ys) (filter test ys)) x) (sym (ap test same ∙ is)) (in_front_as y (filter test ys) x same)
    | inr there ↦ by (test y) (filtered ys x there is)
  ]
    where
      by : (b : Bool) → Contains (filter test ys) x → Contains (cond b (y ∷ filter test ys) (filter test ys)) x
      by true r = further y (filter test ys) x r
      by false r = r

  pub was_filtered : (xs : List X) (x : X) → Contains (filter test xs) x → Contains xs x × (test x ≡ true)
  was_filtered [] x h = absurd (nowhere x h)
  was_filtered (y ∷ ys) x h = by (λ r. let s = was_filtered ys x r in (further y ys x s.0, s.1)) (test y) refl h
    where
      by : (Contains (filter test ys) x → Contains (y ∷ ys) x × (test x ≡ true)) → (b : Bool) → test y ≡ b → Contains (cond b (y ∷ filter test ys) (filter test ys)) x → Contains (y ∷ ys) x × (test x ≡ true)
      by later true is r = elim (front_or_further y (filter test ys) x r) [
        | inl same ↦ (in_front_as y ys x same, sym (ap test same) ∙ is)
        | inr there ↦ later there
      ]
      by later false is r = later r

module _ {K : Type 0} (cmp : K → K → Ordering) (k : K) where
  pub kept_by_insert : (ks : List K) (x : K) → Contains ks x → Contains (insert_key cmp ks k) x
  kept_by_insert [] x h = absurd (nowhere x h)
  kept_by_insert (y ∷ ys) x h = by (λ there. kept_by_insert ys x there) (cmp k y)
    where
      by : (Contains ys x → Contains (insert_key cmp ys k) x) → (o : Ordering) → Contains (match_ordering o (k ∷ y ∷ ys) (y ∷ ys) (y ∷ insert_key cmp ys k)) x
      by more Less = further k (y ∷ ys) x h
      by more Equal = h
      by more Greater = elim (front_or_further y ys x h) [
        | inl same ↦ in_front_as y (insert_key cmp ys k) x same
        | inr there ↦ further y (insert_key cmp ys k) x (more there)
      ]

  pub was_or_inserted : (ks : List K) (x : K) → Contains (insert_key cmp ks k) x → Contains ks x ⊎ (k ≡ x)
  was_or_inserted [] x h = elim (front_or_further k [] x h) [ inl same ↦ inr same | inr there ↦ inl there ]
  was_or_inserted (y ∷ ys) x h = by (λ there. was_or_inserted ys x there) (cmp k y) h
    where
      by : (Contains (insert_key cmp ys k) x → Contains ys x ⊎ (k ≡ x)) → (o : Ordering) → Contains (match_ordering o (k ∷ y ∷ ys) (y ∷ ys) (y ∷ insert_key cmp ys k)) x → Contains (y ∷ ys) x ⊎ (k ≡ x)
      by more Less r = elim (front_or_further k (y ∷ ys) x r) [ inl same ↦ inr same | inr there ↦ inl there ]
      by more Equal r = inl r
      by more Greater r = elim (front_or_further y (insert_key cmp ys k) x r) [
        | inl same ↦ inl (in_front_as y ys x same)
        | inr there ↦ elim (more there) [ inl old ↦ inl (further y ys x old) | inr same ↦ inr same ]
      ]

  -- what f reads of the key is there, also where an equal key stayed in its place
  pub inserted : {Y : Type 0} (f : K → Y) → ((y : K) → cmp k y ≡ Equal → f y ≡ f k) → (ks : List K) → Contains (map f (insert_key cmp ks k)) (f k)
  inserted f ties [] = in_front (f k) []
  inserted f ties (y ∷ ys) = by (inserted f ties ys) (cmp k y) refl
    where
      by : Contains (map f (insert_key cmp ys k)) (f k) → (o : Ordering) → cmp k y ≡ o → Contains (map f (match_ordering o (k ∷ y ∷ ys) (y ∷ ys) (y ∷ insert_key cmp ys k))) (f k)
      by more Less is = in_front (f k) (map f (y ∷ ys))
      by more Equal is = in_front_as (f y) (map f ys) (f k) (ties y is)
      by more Greater is = further (f y) (map f (insert_key cmp ys k)) (f k) more

-- a key put in, read by f
pub map-insert_key : {K Y : Type 0} (cmp : K → K → Ordering) (order : Y → Y → Ordering) (f : K → Y) → ((x y : K) → cmp x y ≡ order (f x) (f y)) → (k : K) (ks : List K) → map f (insert_key cmp ks k) ≡ insert_key order (map f ks) (f k)
map-insert_key cmp order f same k [] = refl
map-insert_key cmp order f same k (y ∷ ys) = subst (λ o. map f (match_ordering (cmp k y) (k ∷ y ∷ ys) (y ∷ ys) (y ∷ insert_key cmp ys k)) ≡ match_ordering o (f k ∷ f y ∷ map f ys) (f y ∷ map f ys) (f y ∷ insert_key order (map f ys) (f k))) (same k y) (by (map-insert_key cmp order f same k ys) (cmp k y))
  where
    by : map f (insert_key cmp ys k) ≡ insert_key order (map f ys) (f k) → (o : Ordering) → map f (match_ordering o (k ∷ y ∷ ys) (y ∷ ys) (y ∷ insert_key cmp ys k)) ≡ match_ordering o (f k ∷ f y ∷ map f ys) (f y ∷ map f ys) (f y ∷ insert_key order (map f ys) (f k))
    by more Less = refl
    by more Equal = refl
    by more Greater = ap (λ zs. f y ∷ zs) more

-- the first key that passes a test taken out, read by f
pub map-remove_key : {K Y : Type 0} (f : K → Y) (test : Y → Bool) (ks : List K) → map f (remove_key (λ k. test (f k)) ks) ≡ remove_key test (map f ks)
map-remove_key f test [] = refl
map-remove_key f test (y ∷ ys) = by (map-remove_key f test ys) (test (f y))
  where
    by : map f (remove_key (λ k. test (f k)) ys) ≡ remove_key test (map f ys) → (b : Bool) → map f (cond b ys (y ∷ remove_key (λ k. test (f k)) ys)) ≡ cond b (map f ys) (f y ∷ remove_key test (map f ys))
    by more true = refl
    by more false = ap (λ zs. f y ∷ zs) more

-- a name that is put in is there
pub name_inserted : (name : List ℕ) (names : List (List ℕ)) → Contains (insert_key (slice_cmp nat_cmp) names name) name
name_inserted name [] = in_front name []
name_inserted name (y ∷ ys) = by (name_inserted name ys) (slice_cmp nat_cmp name y) refl
  where
    by : Contains (insert_key (slice_cmp nat_cmp) ys name) name → (o : Ordering) → slice_cmp nat_cmp name y ≡ o → Contains (match_ordering o (name ∷ y ∷ ys) (y ∷ ys) (y ∷ insert_key (slice_cmp nat_cmp) ys name)) name
    by more Less is = in_front name (y ∷ ys)
    by more Equal is = in_front_as y ys name (sym (exact_bytes name y is))
    by more Greater is = further y (insert_key (slice_cmp nat_cmp) ys name) name more
