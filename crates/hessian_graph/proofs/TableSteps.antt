-- Steps of the tables of names.
use Rattle.std.proofs.Common.{◌≡◌, ℕ, zero, suc, ◌+◌, ◌<◌, ◌≤◌, cond, List, [], ◌∷◌, ◌++◌, length, get_or, set, refl, ap, sym, ◌∙◌, subst, arith, inl, inr, length-append}
use Rattle.std.specs.Prelude.{Option, Some, None, replicate}
use Rattle.std.specs.Str.{bytes_eq}
use Rattle.std.specs.Cmp.Lexicographic.{bytes_decides}
use Rattle.std.proofs.lemmas.Bool.{cases_Bool, cases_eq, cases_lt, cond-true, cond-false}
use Rattle.std.proofs.lemmas.List.{length-set, length-replicate, get_or-set_same, get_or-set_other}
use Rattle.hessian_graph.specs.Shape.{Text}
use Rattle.hessian_graph.specs.Tables.{IsIndex, IsNumber, IsKnown}
use Rattle.hessian_graph.proofs.Walking.{none_at}

pub front_get : {X : Type 0} (xs ys : List X) (k : ℕ) (d : X) → k < length xs → get_or (xs ++ ys) k d ≡ get_or xs k d
front_get [] ys k d h = absurd (omega (arith, h))
front_get (x ∷ xs) ys zero d h = refl
front_get (x ∷ xs) ys (suc k) d h = front_get xs ys k d (omega (arith, h))

pub last_get : {X : Type 0} (xs : List X) (n d : X) → get_or (xs ++ n ∷ []) (length xs) d ≡ n
last_get [] n d = refl
last_get (x ∷ xs) n d = last_get xs n d

one_longer : {X : Type 0} (xs : List X) (n : X) → length (xs ++ n ∷ []) ≡ length xs + 1
one_longer xs n = rw length-append refl

some_is : (i j : ℕ) → ◌≡◌ {A = Option ℕ} (Some i) (Some j) → i ≡ j
some_is i j e = cc

-- a new text gets the next number
pub index_more : (find new : List ℕ → Option ℕ) (texts : List Text) (text : Text) → IsIndex find texts → find text ≡ None → ((other : List ℕ) → new other ≡ cond (bytes_eq text other) (Some (length texts)) (find other)) → IsIndex new (texts ++ text ∷ [])
index_more find new texts text old none step = record {
  found = λ other i e. elim (cases_Bool (bytes_eq text other)) [
    | inl same ↦
        let is : i ≡ length texts = some_is i (length texts) (sym e ∙ step other ∙ cond-true (bytes_eq text other) (Some (length texts)) (find other) same) in
        let long = one_longer texts text in
        (omega (arith, is, long), subst (λ j. get_or (texts ++ text ∷ []) j [] ≡ other) (sym is) (last_get texts text [] ∙ (bytes_decides text other).0 same))
    | inr apart ↦
        let f = old.found other i (sym (cond-false (bytes_eq text other) (Some (length texts)) (find other) apart) ∙ sym (step other) ∙ e) in
        let h = f.0 in
        let long = one_longer texts text in
        (omega (arith, h, long), front_get texts (text ∷ []) i [] f.0 ∙ f.1)
  ];
  kept = λ i h. elim (cases_lt i (length texts)) [
    | inl before ↦
        let here : get_or (texts ++ text ∷ []) i [] ≡ get_or texts i [] = front_get texts (text ∷ []) i [] before in
        let was = old.kept i before in
        rw here (step (get_or texts i []) ∙ elim (cases_Bool (bytes_eq text (get_or texts i []))) [
          | inl same ↦
              let bad : ◌≡◌ {A = Option ℕ} None (Some i) = sym none ∙ ap find ((bytes_decides text (get_or texts i [])).0 same) ∙ was in
              cc
          | inr apart ↦ cond-false (bytes_eq text (get_or texts i [])) (Some (length texts)) (find (get_or texts i [])) apart ∙ was
        ])
    | inr past ↦
        let long = one_longer texts text in
        let is : length texts ≡ i = omega (arith, h, past, long) in
        subst (λ j. new (get_or (texts ++ text ∷ []) j []) ≡ Some j) is
        (rw (last_get texts text []) (step text ∙ cond-true (bytes_eq text text) (Some (length texts)) (find text) ((bytes_decides text text).1 refl)))
  ];
}

pub old_number : {N : Type 0} (none : N) (table : List N) (name : N) (n : ℕ) → n < length table → get_or table n none ≡ name → IsNumber none table table name n
old_number none table name n h e = record { within = h; is = e; grown = inl (h, refl) }

-- where the tables grow, what is known still shows the names
pub known_grows : {N : Type 0} (none : N) (known : List (Option ℕ)) (old new more : List N) (name : N) (n : ℕ) → IsNumber none new more name n → IsKnown none known old new → IsKnown none known old more
known_grows none known old new more name n number was = record {
  long = was.long;
  shows = λ k i e. elim number.grown [
    | inl (h, same) ↦ subst (λ t. (i < length t) × (get_or t i none ≡ get_or old k none)) (sym same) (was.shows k i e)
    | inr (h, grown) ↦
        let s = was.shows k i e in
        let b = s.0 in
        let long = one_longer new name in
        let all : (i < length (new ++ name ∷ [])) × (get_or (new ++ name ∷ []) i none ≡ get_or old k none) = (omega (arith, b, long), front_get new (name ∷ []) i none s.0 ∙ s.1) in
        subst (λ t. (i < length t) × (get_or t i none ≡ get_or old k none)) (sym grown) all
  ];
}

pub known_more : {N : Type 0} (none : N) (known : List (Option ℕ)) (old new more : List N) (name : N) (k n : ℕ) → k < length old → get_or old k none ≡ name → IsNumber none new more name n → IsKnown none known old new → IsKnown none (set known k (Some n)) old more
known_more none known old new more name k n h is number was =
    let grown = known_grows none known old new more name n number was in
    record {
      long = length-set known k (Some n) ∙ was.long;
      shows = λ j i e. elim (cases_eq j k) [
        | inl same ↦
            let long = was.long in
            let here : get_or (set known k (Some n)) j None ≡ Some n = rw same (get_or-set_same known k (Some n) None (omega (arith, h, long))) in
            let s : n ≡ i = some_is n i (sym here ∙ e) in
            subst (λ x. (x < length more) × (get_or more x none ≡ get_or old j none)) s (number.within, number.is ∙ sym is ∙ ap (λ x. get_or old x none) (sym same))
        | inr other ↦ grown.shows j i (sym (get_or-set_other known k j (Some n) None other) ∙ e)
      ];
    }

pub grown_long : {N : Type 0} (none : N) (old new : List N) (name : N) (n : ℕ) → IsNumber none old new name n → (length new ≤ length old + 1) × (n ≤ length old)
grown_long none old new name n number = elim number.grown [
  | inl (h, same) ↦ let e = ap length same in (omega (arith, e), omega (arith, h))
  | inr (h, grown) ↦ let e = ap length grown ∙ one_longer old name in (omega (arith, e), omega (arith, h))
]

pub none_known : {N : Type 0} (none : N) (old new : List N) (n : ℕ) → n ≡ length old → IsKnown none (replicate n None) old new
none_known none old new n long = record {
  long = length-replicate n None ∙ long;
  shows = λ k i e. let bad : ◌≡◌ {A = Option ℕ} None (Some i) = sym (none_at n k) ∙ e in cc;
}
