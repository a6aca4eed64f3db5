-- Lists in order: as they are read by a part of each key, and without one of them.
use Rattle.std.proofs.Common.{◌≡◌, ℕ, ◌+◌, ◌≤◌, ◌⊎◌, ◌||◌, inl, inr, Bool, true, false, cond, not, List, [], ◌∷◌, length, map, refl, sym, ◌∙◌, ap, subst, arith}
use Rattle.std.specs.List.{Contains, filter, list_any, AllByRecursion}
use Rattle.std.specs.List.Sorted.{IsStrictlySortedBy}
use Rattle.std.specs.Set.{remove_key}
use Rattle.std.specs.BTreeSet.{insert_key}
use Rattle.std.specs.BTreeMap.{is_at}
use Rattle.std.specs.Str.{bytes_eq}
use Rattle.std.specs.Ordering.{is_eq, is_gt, nat_cmp, match_ordering}
use Rattle.std.specs.declared.cmp.Ordering.{Ordering}
use Rattle.std.specs.declared.cmp.Ordering.TheVariants.{Less, Equal, Greater}
use Rattle.std.specs.Cmp.{IsTotalOrder}
use Rattle.std.specs.Cmp.Lexicographic.{slice_cmp}
use Rattle.std.proofs.lemmas.Cmp.{nat_list_cmp_total, tied_itself}
use Rattle.std.proofs.lemmas.List.{length-map}
use Rattle.std.proofs.lemmas.List.Kept.{IsStrictlySortedBy-filter}
use Rattle.std.proofs.lemmas.Map.Keys.{sorted_head, sorted_tail}
use Rattle.std.proofs.lemmas.Map.Text.{is_eq-slice_cmp}
use Rattle.std.proofs.lemmas.Slice.Eq.{bytes_eq-Decides}
use Rattle.std.specs.String.{string_bytes, string_cmp}
use Rattle.std.specs.declared.string.String.{String}
use Rattle.std.specs.Global.{Global}
use Rattle.hash_ring.specs.Names.{with_name, without}
use Rattle.hash_ring.proofs.Members.{in_front_as, further, nowhere, front_or_further, filtered, map-remove_key, map-insert_key}

-- keys in the order of what f reads, read by f
all_mapped : {K Y : Type 0} (P : Y → Type 0) (f : K → Y) (ks : List K) → AllByRecursion (λ k. P (f k)) ks → AllByRecursion P (map f ks)
all_mapped P f [] h = tt
all_mapped P f (k ∷ ks) h = (h.0, all_mapped P f ks h.1)

pub sorted_mapped : {K Y : Type 0} (order : Y → Y → Ordering) (f : K → Y) (ks : List K) → IsStrictlySortedBy (λ x y. order (f x) (f y)) ks → IsStrictlySortedBy order (map f ks)
unfolding IsStrictlySortedBy
sorted_mapped order f [] h = tt
sorted_mapped order f (k ∷ ks) h = (all_mapped (λ y. order (f k) y ≡ Less) f ks h.0, sorted_mapped order f ks h.1)

-- what holds by recursion holds of each that is there
pub all_there : {X : Type 0} (P : X → Type 0) (xs : List X) → AllByRecursion P xs → (x : X) → Contains xs x → P x
all_there P [] all x there = absurd (nowhere x there)
all_there P (y ∷ ys) all x there = elim (front_or_further y ys x there) [
  | inl same ↦ subst P same all.0
  | inr later ↦ all_there P ys all.1 x later
]

-- the first of the keys that pass a test isn't behind another that passes
pub first_is_least : {K : Type 0} (cmp : K → K → Ordering) → IsTotalOrder cmp → (test : K → Bool) (ks : List K) → IsStrictlySortedBy cmp ks → (first : K) (rest : List K) → filter test ks ≡ first ∷ rest → (other : K) → Contains ks other → test other ≡ true → is_gt (cmp first other) ≡ false
first_is_least cmp total test ks ordered first rest is other there passes = elim (front_or_further first rest other among) [
  | inl same ↦ ap is_gt (subst (λ z. cmp first z ≡ Equal) same (tied_itself total first))
  | inr later ↦ ap is_gt (all_there (λ z. cmp first z ≡ Less) rest below other later)
]
  where
    among : Contains (first ∷ rest) other
    among = subst (λ zs. Contains zs other) is (filtered test ks other there passes)

    below : AllByRecursion (λ z. cmp first z ≡ Less) rest
    below = sorted_head cmp first rest (subst (IsStrictlySortedBy cmp) is (IsStrictlySortedBy-filter cmp test ks ordered))

-- where none passes a test, each fails it
pub none_passes : {K : Type 0} (test : K → Bool) (ks : List K) → filter test ks ≡ [] → (other : K) → Contains ks other → test other ≡ false
none_passes test ks is other there = by (test other) refl
  where
    by : (b : Bool) → test other ≡ b → b ≡ false
    by true passes = absurd (nowhere other (subst (λ zs. Contains zs other) is (filtered test ks other there passes)))
    by false fails = refl

-- ---- texts

-- the order of bytes ties texts that are the same, and no others
pub tie_is : (xs ys : List ℕ) → is_eq (slice_cmp nat_cmp xs ys) ≡ true → xs ≡ ys
tie_is xs ys tie = (bytes_eq-Decides xs ys).0 (sym (is_eq-slice_cmp xs ys) ∙ tie)

pub is_tie : (xs ys : List ℕ) → xs ≡ ys → is_eq (slice_cmp nat_cmp xs ys) ≡ true
is_tie xs ys same = is_eq-slice_cmp xs ys ∙ (bytes_eq-Decides xs ys).1 same

-- a filter that each passes
all_pass : (test : List ℕ → Bool) (names : List (List ℕ)) → AllByRecursion (λ name. test name ≡ true) names → filter test names ≡ names
all_pass test [] all = refl
all_pass test (name ∷ names) all = ap (λ b. cond b (name ∷ filter test names) (filter test names)) all.0 ∙ ap (λ zs. name ∷ zs) (all_pass test names all.1)

-- names behind this one are other names
behind_is_other : (name : List ℕ) (names : List (List ℕ)) → AllByRecursion (λ other. slice_cmp nat_cmp name other ≡ Less) names → AllByRecursion (λ other. not (bytes_eq other name) ≡ true) names
behind_is_other name [] all = tt
behind_is_other name (other ∷ names) all = (by (bytes_eq other name) refl, behind_is_other name names all.1)
  where
    by : (b : Bool) → bytes_eq other name ≡ b → not b ≡ true
    by true same = let tie : slice_cmp nat_cmp name other ≡ Equal = subst (λ z. slice_cmp nat_cmp name z ≡ Equal) (sym ((bytes_eq-Decides other name).0 same)) (tied_itself nat_list_cmp_total name) in let bad : Less ≡ Equal = sym all.0 ∙ tie in cc
    by false apart = refl

-- the first key that is this name taken out: the names are in order, so no other is it
pub removed_is_without : (name : List ℕ) (names : List (List ℕ)) → IsStrictlySortedBy (slice_cmp nat_cmp) names → remove_key (is_at (slice_cmp nat_cmp name)) names ≡ without name names
removed_is_without name [] ordered = refl
removed_is_without name (other ∷ names) ordered = by (removed_is_without name names (sorted_tail (slice_cmp nat_cmp) other names ordered)) (is_eq (slice_cmp nat_cmp name other)) refl
  where
    test : List ℕ → Bool
    test = λ z. not (bytes_eq z name)

    by : remove_key (is_at (slice_cmp nat_cmp name)) names ≡ without name names → (b : Bool) → is_eq (slice_cmp nat_cmp name other) ≡ b → cond b names (other ∷ remove_key (is_at (slice_cmp nat_cmp name)) names) ≡ without name (other ∷ names)
    by more true tie = sym (ap (λ b. cond (not b) (other ∷ without name names) (without name names)) same ∙ all_pass test names (behind_is_other name names below))
      where
        is : name ≡ other
        is = tie_is name other tie

        same : bytes_eq other name ≡ true
        same = (bytes_eq-Decides other name).1 (sym is)

        below : AllByRecursion (λ z. slice_cmp nat_cmp name z ≡ Less) names
        below = subst (λ z. AllByRecursion (λ y. slice_cmp nat_cmp z y ≡ Less) names) (sym is) (sorted_head (slice_cmp nat_cmp) other names ordered)
    by more false apart = sym (ap (λ b. cond (not b) (other ∷ without name names) (without name names)) differs ∙ ap (λ zs. other ∷ zs) (sym more))
      where
        if_same : (b : Bool) → bytes_eq other name ≡ b → b ≡ false
        if_same true same = let bad : true ≡ false = sym (is_tie name other (sym ((bytes_eq-Decides other name).0 same))) ∙ apart in cc
        if_same false differ = refl

        differs : bytes_eq other name ≡ false
        differs = if_same (bytes_eq other name) refl

-- ---- a text among keys that are read by f

either : (a b : Bool) → (a || b) ≡ true → (a ≡ true) ⊎ (b ≡ true)
either true b is = inl refl
either false b is = inr is

or_right : (a b : Bool) → b ≡ true → (a || b) ≡ true
or_right true b is = refl
or_right false b is = is

module _ {K : Type 0} (f : K → List ℕ) (text : List ℕ) where
  pub found : (ks : List K) → list_any (λ k. is_eq (slice_cmp nat_cmp text (f k))) ks ≡ true → Contains (map f ks) text
  found [] is = absurd cc
  found (k ∷ ks) is = elim (either (is_eq (slice_cmp nat_cmp text (f k))) (list_any (λ k. is_eq (slice_cmp nat_cmp text (f k))) ks) is) [
    | inl tie ↦ in_front_as (f k) (map f ks) text (sym (tie_is text (f k) tie))
    | inr later ↦ further (f k) (map f ks) text (found ks later)
  ]

  pub finds : (ks : List K) → Contains (map f ks) text → list_any (λ k. is_eq (slice_cmp nat_cmp text (f k))) ks ≡ true
  finds [] there = absurd (nowhere text there)
  finds (k ∷ ks) there = elim (front_or_further (f k) (map f ks) text there) [
    | inl same ↦ ap (λ b. b || list_any (λ k. is_eq (slice_cmp nat_cmp text (f k))) ks) (is_tie text (f k) (sym same))
    | inr later ↦ or_right (is_eq (slice_cmp nat_cmp text (f k))) _ (finds ks later)
  ]

-- ---- lengths

pub length-insert_key : {K : Type 0} (cmp : K → K → Ordering) (k : K) (ks : List K) → length (insert_key cmp ks k) ≤ length ks + 1
length-insert_key cmp k [] = omega arith
length-insert_key cmp k (y ∷ ys) = by (cmp k y) (length-insert_key cmp k ys)
  where
    by : (o : Ordering) → length (insert_key cmp ys k) ≤ length ys + 1 → length (match_ordering o (k ∷ y ∷ ys) (y ∷ ys) (y ∷ insert_key cmp ys k)) ≤ length (y ∷ ys) + 1
    by Less h = omega arith
    by Equal h = omega arith
    by Greater h = omega arith

pub length-filter-le : {X : Type 0} (test : X → Bool) (xs : List X) → length (filter test xs) ≤ length xs
length-filter-le test [] = omega arith
length-filter-le test (y ∷ ys) = by (test y) (length-filter-le test ys)
  where
    by : (b : Bool) → length (filter test ys) ≤ length ys → length (cond b (y ∷ filter test ys) (filter test ys)) ≤ length (y ∷ ys)
    by true h = omega arith
    by false h = omega arith

-- ---- names that are kept as strings

-- a test of the set says whether it has the name
pub had_as : {K : Type 0} (f : K → List ℕ) (text : List ℕ) (ks : List K) (test answer : Bool) (names : List (List ℕ))
    → test ≡ list_any (λ k. is_eq (slice_cmp nat_cmp text (f k))) ks → answer ≡ test → map f ks ≡ names
    → (answer ≡ true → Contains names text) × (Contains names text → answer ≡ true)
had_as f text ks test answer names is same seen = (
  (λ yes. subst (λ zs. Contains zs text) seen (found f text ks (sym is ∙ sym same ∙ yes))),
  (λ there. same ∙ is ∙ finds f text ks (subst (λ zs. Contains zs text) (sym seen) there)),
)

-- what the set keeps when the name is taken out
pub removed_as : {K : Type 0} (f : K → List ℕ) (text : List ℕ) (old new : List K) (names : List (List ℕ))
    → new ≡ remove_key (λ k. is_eq (slice_cmp nat_cmp text (f k))) old → IsStrictlySortedBy (slice_cmp nat_cmp) (map f old) → map f old ≡ names
    → map f new ≡ without text names
removed_as f text old new names is ordered seen = ap (map f) is ∙ map-remove_key f (is_at (slice_cmp nat_cmp text)) old
    ∙ removed_is_without text (map f old) ordered ∙ ap (without text) seen

-- a test that fails says that the name isn't there
pub hadnt_as : {K : Type 0} (f : K → List ℕ) (text : List ℕ) (ks : List K) (test : Bool) (names : List (List ℕ))
    → test ≡ list_any (λ k. is_eq (slice_cmp nat_cmp text (f k))) ks → map f ks ≡ names → test ≡ false → Contains names text → ⊥
hadnt_as f text ks test names is seen fails there = let passes : test ≡ true = (had_as f text ks test test names is refl seen).1 there in let bad : true ≡ false = sym passes ∙ fails in cc

pub names_with_strings : (name : List ℕ) (old new : List (String Global)) (string : String Global)
    → new ≡ insert_key string_cmp old string → string_bytes string ≡ name → map string_bytes new ≡ with_name name (map string_bytes old)
names_with_strings name old new string is named = ap (map string_bytes) is
    ∙ map-insert_key string_cmp (slice_cmp nat_cmp) string_bytes (λ x y. refl) string old
    ∙ ap (λ n. with_name n (map string_bytes old)) named

pub counted_as : (strings : List (String Global)) (names : List (List ℕ)) (count : ℕ) → count ≡ length strings → map string_bytes strings ≡ names → length names ≡ count
counted_as strings names count is seen = ap length (sym seen) ∙ length-map strings string_bytes ∙ sym is
