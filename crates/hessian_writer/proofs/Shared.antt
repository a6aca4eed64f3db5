-- Equal names of a table share one number.
use Rattle.std.proofs.Common.{◌≡◌, ℕ, zero, suc, ◌+◌, ◌<◌, cond, List, [], ◌∷◌, ◌++◌, length, get_or, refl, ap, sym, ◌∙◌, subst, arith, inl, inr, length-append}
use Rattle.std.specs.Prelude.{Option, Some, None, map}
use Rattle.std.specs.Str.{bytes_eq}
use Rattle.std.specs.Cmp.Lexicographic.{bytes_decides}
use Rattle.std.proofs.lemmas.Bool.{cases_Bool, cases_lt, cases_eq, eq-eqb, ne_eqb, cond-true, cond-false}
use Rattle.std.proofs.lemmas.List.{map-append, length-map, get_or_default}
use Rattle.std.proofs.lemmas.List.Elements.{All-append}
use Rattle.hessian_graph.specs.Canon.{place_of, one_later}
use Rattle.hessian_graph.specs.Forms.{IsEarliest, IsNew}
use Rattle.hessian_graph.proofs.Places.{place_within, place_shows, some_place}
use Rattle.hessian_graph.proofs.TableSteps.{front_get, last_get}
use Rattle.hessian_graph.proofs.Values.{some_is, not_both}
use Rattle.hessian_writer.specs.declared.keys.Keys.{Keys}
use Rattle.hessian_writer.specs.Numbered.{Numbered}
use Rattle.hessian_writer.specs.Sharing.{find_key, IsFirst, KeysFit, AreFirsts, IsOwnFirst, NamesFit, listed}

one_longer : {X : Type 0} (xs : List X) (n : X) → length (xs ++ n ∷ []) ≡ length xs + 1
one_longer xs n = rw length-append refl

-- what holds of each place but the last, and of the last
each_place : (P : ℕ → Type 0) (n : ℕ) → ((i : ℕ) → i < n → P i) → P n → (i : ℕ) → i < n + 1 → P i
each_place P n before last i h = elim (cases_lt i n) [
  | inl b ↦ before i b
  | inr past ↦ let same : n ≡ i = omega (arith, h, past) in subst P same last
]

first_stays : (keys : List (List ℕ)) (firsts : List ℕ) (key : List ℕ) (i : ℕ) (more : List ℕ) (j : ℕ) → length firsts ≡ length keys → IsFirst keys firsts key i → IsFirst (keys ++ more ∷ []) (firsts ++ j ∷ []) key i
first_stays keys firsts key i more j long f =
    let within = f.within in
    record {
      within = let e = one_longer keys more in omega (arith, within, e);
      is = front_get keys (more ∷ []) i [] f.within ∙ f.is;
      first = front_get firsts (j ∷ []) i 0 (omega (arith, within, long)) ∙ f.first;
    }

-- a key that has come before
pub key_again : (keys : List (List ℕ)) (old new : Keys) (key : List ℕ) (i : ℕ) → KeysFit keys old → find_key old key ≡ Some i → new.places ≡ old.places → new.firsts.items ≡ old.firsts.items ++ i ∷ [] → KeysFit (keys ++ key ∷ []) new
key_again keys old new key i fit found places firsts =
    let long = fit.long in
    let find : (other : List ℕ) → find_key new other ≡ find_key old other = λ other. ap (λ p. find_key (record old { places = p }) other) places in
    let last : find_key new (get_or (keys ++ key ∷ []) (length keys) []) ≡ Some (get_or new.firsts.items (length keys) 0) =
    rw (last_get keys key []) (find key ∙ found ∙ ap Some (sym (ap (λ x. get_or x (length keys) 0) firsts ∙ ap (λ n. get_or (old.firsts.items ++ i ∷ []) n 0) (sym long) ∙ last_get old.firsts.items i 0))) in
    record {
      long = ap length firsts ∙ one_longer old.firsts.items i ∙ ap (λ n. n + 1) long ∙ sym (one_longer keys key);
      finds = λ j h. each_place (λ n. find_key new (get_or (keys ++ key ∷ []) n []) ≡ Some (get_or new.firsts.items n 0)) (length keys) (λ n b.
          rw (front_get keys (key ∷ []) n [] b) (find (get_or keys n []) ∙ fit.finds n b ∙ ap Some (sym (ap (λ x. get_or x n 0) firsts ∙ front_get old.firsts.items (i ∷ []) n 0 (omega (arith, b, long))))))
          last j (let e = one_longer keys key in omega (arith, h, e));
      shows = λ other j e. subst (λ x. IsFirst (keys ++ key ∷ []) x other j) (sym firsts) (first_stays keys old.firsts.items other j key i long (fit.shows other j (sym (find other) ∙ e)));
    }

-- a key that comes for the first time
pub key_new : (keys : List (List ℕ)) (old new : Keys) (key : List ℕ) → KeysFit keys old → find_key old key ≡ None → ((other : List ℕ) → find_key new other ≡ cond (bytes_eq key other) (Some (length old.firsts.items)) (find_key old other)) → new.firsts.items ≡ old.firsts.items ++ length old.firsts.items ∷ [] → KeysFit (keys ++ key ∷ []) new
key_new keys old new key fit none step firsts =
    let long = fit.long in
    let n : ℕ = length old.firsts.items in
    let more : List ℕ = old.firsts.items ++ n ∷ [] in
    let here : find_key new key ≡ Some n = step key ∙ cond-true (bytes_eq key key) (Some n) (find_key old key) ((bytes_decides key key).1 refl) in
    let last : find_key new (get_or (keys ++ key ∷ []) (length keys) []) ≡ Some (get_or more (length keys) 0) =
    rw (last_get keys key []) (here ∙ ap Some (sym (ap (λ x. get_or more x 0) (sym long) ∙ last_get old.firsts.items n 0))) in
    let other_finds : (other : List ℕ) (i : ℕ) → find_key old other ≡ Some i → find_key new other ≡ Some i = λ other i e.
    step other ∙ elim (cases_Bool (bytes_eq key other)) [
      | inl same ↦ absurd (not_both (find_key old key) i none (ap (find_key old) ((bytes_decides key other).0 same) ∙ e))
      | inr apart ↦ cond-false (bytes_eq key other) (Some n) (find_key old other) apart ∙ e
    ] in
    record {
      long = ap length firsts ∙ one_longer old.firsts.items n ∙ ap (λ x. x + 1) long ∙ sym (one_longer keys key);
      finds = λ j h. rw firsts (each_place (λ x. find_key new (get_or (keys ++ key ∷ []) x []) ≡ Some (get_or more x 0)) (length keys) (λ x b.
          rw (front_get keys (key ∷ []) x [] b, front_get old.firsts.items (n ∷ []) x 0 (omega (arith, b, long))) (other_finds (get_or keys x []) (get_or old.firsts.items x 0) (fit.finds x b)))
          last j (let e = one_longer keys key in omega (arith, h, e)));
      shows = λ other i e. elim (cases_Bool (bytes_eq key other)) [
        | inl same ↦
            let is : n ≡ i = some_is n i (sym (cond-true (bytes_eq key other) (Some n) (find_key old other) same) ∙ sym (step other) ∙ e) in
            let whole : IsFirst (keys ++ key ∷ []) new.firsts.items key n = record {
              within = let a = one_longer keys key in omega (arith, a, long);
              is = ap (λ x. get_or (keys ++ key ∷ []) x []) long ∙ last_get keys key [];
              first = ap (λ x. get_or x n 0) firsts ∙ last_get old.firsts.items n 0;
            } in
            subst (λ x. IsFirst (keys ++ key ∷ []) new.firsts.items other x) is (subst (λ x. IsFirst (keys ++ key ∷ []) new.firsts.items x n) ((bytes_decides key other).0 same) whole)
        | inr apart ↦
            subst (λ x. IsFirst (keys ++ key ∷ []) x other i) (sym firsts) (first_stays keys old.firsts.items other i key n long (fit.shows other i (sym (cond-false (bytes_eq key other) (Some n) (find_key old other) apart) ∙ sym (step other) ∙ e)))
      ];
    }

-- names that are equal exactly where their keys are
pub record AreKeys {N : Type 0} (none : N) (old : List N) (keys : List (List ℕ)) : Type 0 where
  pub long : length keys ≡ length old
  pub forth : (i j : ℕ) → i < length old → j < length old → get_or old i none ≡ get_or old j none → get_or keys i [] ≡ get_or keys j []
  pub back : (i j : ℕ) → i < length old → j < length old → get_or keys i [] ≡ get_or keys j [] → get_or old i none ≡ get_or old j none

pub firsts_of : {N : Type 0} (none : N) (old : List N) (keys : List (List ℕ)) (k : Keys) → AreKeys none old keys → KeysFit keys k → AreFirsts none old k.firsts.items
firsts_of none old keys k are fit =
    let long = are.long in
    let show : (i : ℕ) → i < length old → IsFirst keys k.firsts.items (get_or keys i []) (get_or k.firsts.items i 0) = λ i h. fit.shows (get_or keys i []) (get_or k.firsts.items i 0) (fit.finds i (omega (arith, h, long))) in
    let within : (i : ℕ) → i < length old → get_or k.firsts.items i 0 < length old = λ i h. let b = (show i h).within in omega (arith, b, long) in
    record {
      long = fit.long ∙ long;
      within = within;
      same = λ i h. are.back (get_or k.firsts.items i 0) i (within i h) h (show i h).is;
      one = λ i j h l e. some_is (get_or k.firsts.items i 0) (get_or k.firsts.items j 0) (sym (fit.finds i (omega (arith, h, long))) ∙ ap (find_key k) (are.forth i j h l e) ∙ fit.finds j (omega (arith, l, long)));
      steady = λ i h. (show i h).first;
    }

pub own_keys : (old : List (List ℕ)) → AreKeys [] old old
own_keys old = record { long = refl; forth = λ i j h l e. e; back = λ i j h l e. e }

one_before : (o : Option ℕ) (k : ℕ) → one_later o ≡ Some k → (j : ℕ) × (o ≡ Some j) × (k ≡ suc j)
one_before None k e = cc
one_before (Some j) k e = let s : suc j ≡ k = cc in (j, refl, sym s)

-- a number stands nowhere before its place
not_before : (xs : List ℕ) (n k j : ℕ) → place_of n xs ≡ Some k → j < k → get_or xs j 0 ≡ n → ⊥
not_before [] n k j e h at = not_both None k refl e
not_before (x ∷ xs) n k zero e h at =
    let z : ◌≡◌ {A = Option ℕ} (Some 0) (Some k) = (rw (eq-eqb n x (sym at)) at e) in
    let s : 0 ≡ k = cc in
    absurd (omega (arith, h, s))
not_before (x ∷ xs) n k (suc j) e h at = elim (cases_eq n x) [
  | inl same ↦
      let z : ◌≡◌ {A = Option ℕ} (Some 0) (Some k) = (rw (eq-eqb n x same) at e) in
      let s : 0 ≡ k = cc in
      absurd (omega (arith, h, s))
  | inr other ↦
      let p = one_before (place_of n xs) k (rw (ne_eqb n x other) at e) in
      not_before xs n p.0 j p.1 (let q = p.2 in omega (arith, h, q)) at
]

-- the names that have a number
module _ {N : Type 0} (none : N) (old : List N) (firsts : List ℕ) (used : Numbered) (fit : NamesFit none old firsts used) (name : ℕ) (there : name < length old) where
  own : (j : ℕ) → j < length used.order → get_or old (get_or used.order j 0) none ≡ get_or old name none → get_or used.order j 0 ≡ get_or firsts name 0
  own j h e =
      let o = fit.are_first j 0 h in
      sym o.first ∙ fit.firsts_are.one (get_or used.order j 0) name o.within there e

  listed_at : (j : ℕ) → j < length used.order → get_or (listed none old used.order) j none ≡ get_or old (get_or used.order j 0) none
  listed_at j h = at used.order j h
    where
      at : (xs : List ℕ) (k : ℕ) → k < length xs → get_or (map (λ i. get_or old i none) xs) k none ≡ get_or old (get_or xs k 0) none
      at [] k b = absurd (omega (arith, b))
      at (x ∷ xs) zero b = refl
      at (x ∷ xs) (suc k) b = at xs k (omega (arith, b))

  pub is_earliest : (k : ℕ) → place_of (get_or firsts name 0) used.order ≡ Some k → IsEarliest none (listed none old used.order) (get_or old name none) k
  is_earliest k e =
      let within = place_within (get_or firsts name 0) used.order k e in
      let long : length (listed none old used.order) ≡ length used.order = length-map used.order (λ i. get_or old i none) in
      record {
        within = omega (arith, within, long);
        is = place_shows none (λ i. get_or old i none) used.order (get_or firsts name 0) k e ∙ fit.firsts_are.same name there;
        earliest = λ j below same.
            let h : j < length used.order = omega (arith, below, within) in
            not_before used.order (get_or firsts name 0) k j e below (own j h (sym (listed_at j h) ∙ same));
      }

  pub is_new : place_of (get_or firsts name 0) used.order ≡ None → IsNew none (listed none old used.order) (get_or old name none)
  is_new e = λ j below same.
      let long : length (listed none old used.order) ≡ length used.order = length-map used.order (λ i. get_or old i none) in
      let h : j < length used.order = omega (arith, below, long) in
      let found = some_place (get_or firsts name 0) used.order j h (get_or_default used.order j (get_or firsts name 0) 0 h ∙ own j h (sym (listed_at j h) ∙ same)) in
      not_both (place_of (get_or firsts name 0) used.order) found.0 e found.1

  -- the name gets the next number
  pub used_more : NamesFit none old firsts (record used { order = used.order ++ get_or firsts name 0 ∷ [] })
  used_more = record {
    firsts_are = fit.firsts_are;
    total_is = fit.total_is;
    are_first = All-append (IsOwnFirst (length old) firsts) used.order (get_or firsts name 0 ∷ []) fit.are_first (λ k d h. one k d h);
  }
    where
      one : (k d : ℕ) → k < 1 → IsOwnFirst (length old) firsts (get_or (get_or firsts name 0 ∷ []) k d)
      one zero d h = record { within = fit.firsts_are.within name there; first = fit.firsts_are.steady name there }
      one (suc k) d h = absurd (omega (arith, h))

  pub listed_more : listed none old (used.order ++ get_or firsts name 0 ∷ []) ≡ listed none old used.order ++ get_or old name none ∷ []
  listed_more = map-append (λ i. get_or old i none) used.order (get_or firsts name 0 ∷ []) ∙ ap (λ x. listed none old used.order ++ x ∷ []) (fit.firsts_are.same name there)
