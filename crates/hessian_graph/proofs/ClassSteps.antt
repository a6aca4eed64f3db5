-- Steps of the table of classes.
use Rattle.std.proofs.Common.{◌≡◌, ℕ, zero, suc, ◌+◌, ◌<◌, Bool, true, false, cond, List, [], ◌∷◌, ◌++◌, length, get_or, refl, ap, sym, ◌∙◌, subst, arith, inl, inr, length-append, append_assoc}
use Rattle.std.specs.Prelude.{Option, Some, None, All}
use Rattle.std.specs.Ordering.{nat_cmp, is_eq, eq_by_cmp}
use Rattle.std.specs.Str.{bytes_eq}
use Rattle.std.specs.Cmp.{eq_by_cmp_equiv}
use Rattle.std.specs.Cmp.Lexicographic.{slice_cmp, bytes_decides, nat_list_cmp_total, nat_list_eq_equiv}
use Rattle.std.specs.BTreeMap.{BTreeMap, UpdatesBy, get_by, is_at}
use Rattle.std.specs.Map.{KeepsOthers, IsKeyTest, AreApart, lookup}
use Rattle.std.proofs.lemmas.Map.Text.{is_eq-slice_cmp}
use Rattle.std.proofs.lemmas.Bool.{cases_Bool, cases_lt, cond-true, cond-false}
use Rattle.std.proofs.lemmas.List.{append-nil, map-append}
use Rattle.std.proofs.lemmas.List.Elements.{All-append}
use Rattle.hessian_graph.specs.declared.node.Class.{Class}
use Rattle.hessian_graph.specs.Shape.{Text, no_class}
use Rattle.hessian_graph.specs.declared.names.ClassTable.{ClassTable}
use Rattle.hessian_graph.specs.Tables.{IsNumber, find_key, Spell, Extends, IsClassIndex, spelled, words_of}
use Rattle.hessian_graph.proofs.TableSteps.{front_get, last_get}

others_kept : {K X : Type 0} (eq : K → K → Bool) (test : K → Bool) (old new : List (K × X)) → KeepsOthers eq test old new → (other : K → Bool) → IsKeyTest eq other → AreApart test other → lookup other new ≡ lookup other old
unfolding KeepsOthers
others_kept eq test old new h = h

apart : (bs cs ks : List ℕ) → bytes_eq bs cs ≡ false → is_eq (slice_cmp nat_cmp bs ks) ≡ true → is_eq (slice_cmp nat_cmp cs ks) ≡ false
apart bs cs ks n y = is_eq-slice_cmp cs ks ∙ nat_list_eq_equiv.symm cs ks ∙ sym (nat_list_eq_equiv.congr bs ks cs (sym (is_eq-slice_cmp bs ks) ∙ y)) ∙ n

-- what a change at a list of numbers leaves at any list
pub at_lists : {K X : Type 0} (m n : BTreeMap K X) (view : K → List ℕ) (bs : List ℕ) (w : Option X) → UpdatesBy (λ x y. slice_cmp nat_cmp (view x) (view y)) (λ k. slice_cmp nat_cmp bs (view k)) m n w → (cs : List ℕ) → get_by (λ k. slice_cmp nat_cmp cs (view k)) n ≡ cond (bytes_eq bs cs) w (get_by (λ k. slice_cmp nat_cmp cs (view k)) m)
at_lists m n view bs w h cs = elim (cases_Bool (bytes_eq bs cs)) [
  | inl same ↦
      subst (λ l. get_by (λ k. slice_cmp nat_cmp l (view k)) n ≡ w) ((bytes_decides bs cs).0 same) h.1
      ∙ sym (cond-true (bytes_eq bs cs) w (get_by (λ k. slice_cmp nat_cmp cs (view k)) m) same)
  | inr other ↦
      others_kept (eq_by_cmp (λ x y. slice_cmp nat_cmp (view x) (view y))) (is_at (λ k. slice_cmp nat_cmp bs (view k))) m.entries n.entries h.3
      (is_at (λ k. slice_cmp nat_cmp cs (view k)))
      (λ x y. (eq_by_cmp_equiv nat_list_cmp_total).congr cs (view x) (view y))
      (λ k. apart bs cs (view k) other)
      ∙ sym (cond-false (bytes_eq bs cs) w (get_by (λ k. slice_cmp nat_cmp cs (view k)) m) other)
]

-- the same in a table of classes
pub key_step : (t u : ClassTable) (key : List ℕ) (n : ℕ) → UpdatesBy (λ x y. slice_cmp nat_cmp x.items y.items) (λ k. slice_cmp nat_cmp key k.items) t.places u.places (Some n) → (ns : List ℕ) → find_key u ns ≡ cond (bytes_eq key ns) (Some n) (find_key t ns)
key_step t u key n h ns = at_lists t.places u.places (λ k. k.items) key (Some n) h ns

one_longer : {X : Type 0} (xs : List X) (n : X) → length (xs ++ n ∷ []) ≡ length xs + 1
one_longer xs n = rw length-append refl

pub extends_by_number : (old new : List Text) (name : Text) (n : ℕ) → IsNumber [] old new name n → Extends old new
extends_by_number old new name n number = elim number.grown [
  | inl (h, same) ↦ record { more = []; is = same ∙ sym (append-nil old) }
  | inr (h, grown) ↦ record { more = name ∷ []; is = grown }
]

pub extends_both : (a b c : List Text) → Extends a b → Extends b c → Extends a c
extends_both a b c p q = record { more = p.more ++ q.more; is = q.is ∙ ap (λ x. x ++ q.more) p.is ∙ append_assoc a p.more q.more }

spelled_longer : (texts more : List Text) (ns : List ℕ) → All (λ n. n < length texts) ns → spelled (texts ++ more) ns ≡ spelled texts ns
spelled_longer texts more [] b = refl
spelled_longer texts more (n ∷ ns) b =
    let here : get_or (texts ++ more) n [] ≡ get_or texts n [] = front_get texts more n [] (b 0 n (omega arith)) in
    let rest : spelled (texts ++ more) ns ≡ spelled texts ns = spelled_longer texts more ns (λ k d h. b (suc k) d (omega (arith, h))) in
    cc

-- words keep their numbers where the table of words grows
pub spell_longer : (old new : List Text) (ns : List ℕ) (words : List Text) → Extends old new → Spell old ns words → Spell new ns words
spell_longer old new ns words e s =
    let long : length (old ++ e.more) ≡ length old + length e.more = rw length-append refl in
    subst (λ t. Spell t ns words) (sym e.is) (record {
      below = λ k d h. let b = s.below k d h in omega (arith, b, long);
      is = spelled_longer old e.more ns s.below ∙ s.is;
    })

pub spell_more : (old new : List Text) (ns : List ℕ) (words : List Text) (word : Text) (n : ℕ) → Spell old ns words → IsNumber [] old new word n → Spell new (ns ++ n ∷ []) (words ++ word ∷ [])
spell_more old new ns words word n s number =
    let t = spell_longer old new ns words (extends_by_number old new word n number) s in
    record {
      below = All-append (λ i. i < length new) ns (n ∷ []) t.below (λ k d h. one k d h);
      is = map-append (λ i. get_or new i []) ns (n ∷ []) ∙ ap (λ x. x ++ get_or new n [] ∷ []) t.is ∙ ap (λ x. words ++ x ∷ []) number.is;
    }
  where
    one : (k d : ℕ) → k < 1 → get_or (n ∷ []) k d < length new
    one zero d h = number.within
    one (suc k) d h = absurd (omega (arith, h))

pub no_classes : (find : List ℕ → Option ℕ) (texts : List Text) → ((ns : List ℕ) → find ns ≡ None) → IsClassIndex find texts []
no_classes find texts none = record {
  found = λ ns i e. let bad : ◌≡◌ {A = Option ℕ} None (Some i) = sym (none ns) ∙ e in cc;
  kept = λ i h. absurd (omega (arith, h));
}

pub classes_longer : (find : List ℕ → Option ℕ) (old new : List Text) (rows : List Class) → Extends old new → IsClassIndex find old rows → IsClassIndex find new rows
classes_longer find old new rows e was = record {
  found = λ ns i f. let q = was.found ns i f in (q.0, spell_longer old new ns (words_of (get_or rows i no_class)) e q.1);
  kept = was.kept;
}

of_words : List Text → Class
of_words [] = no_class
of_words (w ∷ ws) = record { name = w; fields = ws }

-- classes of the same words are equal
pub same_class : (c d : Class) → words_of c ≡ words_of d → c ≡ d
unfolding of_words
same_class c d e = ap of_words e

some_is : (i j : ℕ) → ◌≡◌ {A = Option ℕ} (Some i) (Some j) → i ≡ j
some_is i j e = cc

pub classes_more : (find new : List ℕ → Option ℕ) (texts : List Text) (rows : List Class) (key : List ℕ) (class : Class) → IsClassIndex find texts rows → find key ≡ None → Spell texts key (words_of class) → ((ns : List ℕ) → new ns ≡ cond (bytes_eq key ns) (Some (length rows)) (find ns)) → IsClassIndex new texts (rows ++ class ∷ [])
classes_more find new texts rows key class was none spell step = record {
  found = λ ns i e. elim (cases_Bool (bytes_eq key ns)) [
    | inl same ↦
        let is : i ≡ length rows = some_is i (length rows) (sym e ∙ step ns ∙ cond-true (bytes_eq key ns) (Some (length rows)) (find ns) same) in
        let long = one_longer rows class in
        let here : get_or (rows ++ class ∷ []) i no_class ≡ class = subst (λ j. get_or (rows ++ class ∷ []) j no_class ≡ class) (sym is) (last_get rows class no_class) in
        (omega (arith, is, long), subst (λ x. Spell texts ns (words_of x)) (sym here) (subst (λ x. Spell texts x (words_of class)) ((bytes_decides key ns).0 same) spell))
    | inr other ↦
        let f = was.found ns i (sym (cond-false (bytes_eq key ns) (Some (length rows)) (find ns) other) ∙ sym (step ns) ∙ e) in
        let h = f.0 in
        let long = one_longer rows class in
        (omega (arith, h, long), subst (λ x. Spell texts ns (words_of x)) (sym (front_get rows (class ∷ []) i no_class f.0)) f.1)
  ];
  kept = λ i h. elim (cases_lt i (length rows)) [
    | inl before ↦
        let k = was.kept i before in (
          k.0,
          step k.0 ∙ elim (cases_Bool (bytes_eq key k.0)) [
            | inl same ↦
                let bad : ◌≡◌ {A = Option ℕ} None (Some i) = sym none ∙ ap find ((bytes_decides key k.0).0 same) ∙ k.1 in
                cc
            | inr other ↦ cond-false (bytes_eq key k.0) (Some (length rows)) (find k.0) other ∙ k.1
          ],
        )
    | inr past ↦
        let long = one_longer rows class in
        let is : length rows ≡ i = omega (arith, h, past, long) in
        (key, step key ∙ cond-true (bytes_eq key key) (Some (length rows)) (find key) ((bytes_decides key key).1 refl) ∙ ap Some is)
  ];
}
