-- The writer's forms of a class's texts are the forms of no other class's texts.
use Rattle.std.proofs.Common.{◌≡◌, ℕ, ◌+◌, ◌<◌, ◌≤◌, List, [], ◌∷◌, ◌++◌, length, get_or, take, refl, ap, sym, ◌∙◌, subst, arith, inl, inr, ◌⊎◌, length-append}
use Rattle.std.proofs.lemmas.List.{append-nil, append_cancel_left, get_or-append-add, take_more, take_all}
use Rattle.std.proofs.lemmas.Bool.{cases_lt}
use Rattle.hessian_text.specs.declared.stage.Kind.TheVariants.{Text as TextKind}
use Rattle.hessian_text.specs.ChunkHead.ChunkHead.{text_short}
use Rattle.hessian_text.specs.Items.Contents.{none as nothing}
use Rattle.hessian_text.specs.Spelling.{Spelling, AreBytes}
use Rattle.hessian_text.specs.Spelling.Spelling.{last}
use Rattle.hessian_text.specs.Written.{WrittenText}
use Rattle.hessian_text.proofs.Running.{spelled_once}
use Rattle.hessian_text.proofs.TextBack.{text_spells}
use Rattle.hessian_graph.specs.declared.node.Class.{Class}
use Rattle.hessian_graph.specs.Shape.{Text, no_class}
use Rattle.hessian_graph.specs.Spells.{TextsSpelling}
use Rattle.hessian_graph.specs.Spells.TextsSpelling.{none, one}
use Rattle.hessian_graph.specs.Tables.{words_of}
use Rattle.hessian_graph.proofs.ClassSteps.{same_class}
use Rattle.hessian_graph.proofs.TableSteps.{front_get, last_get}
use Rattle.hessian_writer.specs.declared.keys.Keys.{Keys}
use Rattle.hessian_writer.specs.Leaves.{hessian_forms}
use Rattle.hessian_writer.specs.Sharing.{KeysFit, AreFirsts}
use Rattle.hessian_writer.proofs.Shared.{firsts_of, own_keys}
use Rattle.hessian_writer.proofs.LeafLaws.{one_text as one_form_of_text}

small_front : (xs ys : List ℕ) → AreBytes (xs ++ ys) → AreBytes xs
small_front xs ys s = record {
  small = λ i h. subst (λ b. b < 256) (front_get xs ys i 0 h) (s.small i (let e = length_both in omega (arith, h, e)));
}
  where
    length_both : length (xs ++ ys) ≡ length xs + length ys
    length_both = rw length-append refl

small_back : (xs ys : List ℕ) → AreBytes (xs ++ ys) → AreBytes ys
small_back xs ys s = record {
  small = λ i h. subst (λ b. b < 256) (get_or-append-add xs ys i 0) (s.small (length xs + i) (let e = length_both in omega (arith, h, e)));
}
  where
    length_both : length (xs ++ ys) ≡ length xs + length ys
    length_both = rw length-append refl

-- of two fronts of one list one is a front of the other
two_fronts : (xs ys us vs : List ℕ) → xs ++ ys ≡ us ++ vs → ((m : List ℕ) × (us ≡ xs ++ m)) ⊎ ((m : List ℕ) × (xs ≡ us ++ m))
two_fronts [] ys us vs e = inl (us, refl)
two_fronts (x ∷ xs) ys [] vs e = inr (x ∷ xs, refl)
two_fronts (x ∷ xs) ys (u ∷ us) vs e =
    let same : x ≡ u = cc in
    let rest : xs ++ ys ≡ us ++ vs = cc in
    elim (two_fronts xs ys us vs rest) [
      | inl p ↦ inl (p.0, let q = p.1 in let r : u ∷ us ≡ x ∷ (xs ++ p.0) = cc in r)
      | inr p ↦ inr (p.0, let q = p.1 in let r : x ∷ xs ≡ u ∷ (us ++ p.0) = cc in r)
    ]

no_bytes : (x : ℕ) (xs : List ℕ) → x ∷ xs ≡ [] → ⊥
no_bytes x xs e = cc

none_small : AreBytes []
none_small = record { small = λ i h. absurd (omega (arith, h)) }

-- a text has at least one byte
not_empty : (text : Text) → WrittenText text [] → ⊥
not_empty text w =
    let zero_units : Spelling TextKind [] (0 ∷ []) = last [] (0 ∷ []) [] 0 (text_short 0 0 (record { low = omega arith; high = omega arith }) refl) nothing in
    let q = spelled_once TextKind text [] [] (0 ∷ []) none_small (text_spells text [] w) zero_units in
    no_bytes 0 [] q.0

empty_front : (xs ys : List ℕ) → xs ++ ys ≡ [] → xs ≡ []
empty_front [] ys e = refl
empty_front (x ∷ xs) ys e = absurd (no_bytes x (xs ++ ys) e)

-- texts at the front of the same bytes are equal
one_front : (a b : Text) (fa fb ra rb : List ℕ) → AreBytes fa → AreBytes fb → WrittenText a fa → WrittenText b fb → fa ++ ra ≡ fb ++ rb → (b ≡ a) × (fa ≡ fb)
one_front a b fa fb ra rb sa sb wa wb e = elim (two_fronts fa ra fb rb e) [
  | inl p ↦
      let q = spelled_once TextKind a b fa p.0 sa (text_spells a fa wa) (subst (Spelling TextKind b) p.1 (text_spells b fb wb)) in
      (q.1, sym (p.1 ∙ ap (λ x. fa ++ x) q.0 ∙ append-nil fa))
  | inr p ↦
      let q = spelled_once TextKind b a fb p.0 sb (text_spells b fb wb) (subst (Spelling TextKind a) p.1 (text_spells a fa wa)) in
      (sym q.1, p.1 ∙ ap (λ x. fb ++ x) q.0 ∙ append-nil fb)
]

-- texts of the same bytes are equal
same_texts : {xs ys : List Text} {a b : List ℕ} → TextsSpelling hessian_forms xs a → TextsSpelling hessian_forms ys b → AreBytes a → a ≡ b → ys ≡ xs
same_texts none none small e = refl
same_texts none (one text texts front rest is more) small e = absurd (not_empty text (subst (WrittenText text) (empty_front front rest (sym e)) is))
same_texts (one text texts front rest is more) none small e = absurd (not_empty text (subst (WrittenText text) (empty_front front rest e) is))
same_texts (one text texts front rest is more) (one other others head tail it later) small e =
    let q = one_front text other front head rest tail (small_front front rest small) (small_front head tail (subst AreBytes e small)) is it e in
    let back : rest ≡ tail = append_cancel_left front rest tail (e ∙ ap (λ x. x ++ tail) (sym q.1)) in
    let ts : others ≡ texts = same_texts more later (small_back front rest small) back in
    ap (λ x. x ∷ others) q.0 ∙ ap (λ x. text ∷ x) ts

-- and the same texts have the same bytes
same_bytes : {xs : List Text} {a b : List ℕ} → TextsSpelling hessian_forms xs a → TextsSpelling hessian_forms xs b → a ≡ b
same_bytes none none = refl
same_bytes (one text texts front rest is more) (one other others head tail it later) =
    ap (λ x. x ++ rest) (one_form_of_text text front head is it) ∙ ap (λ x. head ++ x) (same_bytes more later)

-- the key of a class
pub record IsKeyOf (class : Class) (key : List ℕ) : Type 0 where
  pub spells : TextsSpelling hessian_forms (words_of class) key
  pub small : AreBytes key

-- the keys of the classes up to this place
pub record KeysSoFar (classes : List Class) (n : ℕ) (k : Keys) : Type 0 where
  pub keys : List (List ℕ)
  pub fit : KeysFit keys k
  pub long : length keys ≡ n
  pub each : (i : ℕ) → i < n → IsKeyOf (get_or classes i no_class) (get_or keys i [])

pub no_class_keys : (classes : List Class) (k : Keys) → KeysFit [] k → KeysSoFar classes 0 k
no_class_keys classes k fit = record { keys = []; fit = fit; long = refl; each = λ i h. absurd (omega (arith, h)) }

pub next_class_key : (classes : List Class) (n : ℕ) (old new : Keys) (class : Class) (key : List ℕ) → KeysSoFar classes n old → class ≡ get_or classes n no_class → IsKeyOf class key → ((keys : List (List ℕ)) → KeysFit keys old → KeysFit (keys ++ key ∷ []) new) → KeysSoFar classes (n + 1) new
next_class_key classes n old new class key s e is step = record {
  keys = s.keys ++ key ∷ [];
  fit = step s.keys s.fit;
  long = rw length-append (ap (λ x. x + 1) s.long);
  each = λ i h. elim (cases_lt i n) [
    | inl before ↦
        let long = s.long in
        subst (IsKeyOf (get_or classes i no_class)) (sym (front_get s.keys (key ∷ []) i [] (omega (arith, before, long)))) (s.each i before)
    | inr past ↦
        let same : n ≡ i = omega (arith, h, past) in
        let here : get_or (s.keys ++ key ∷ []) n [] ≡ key = ap (λ x. get_or (s.keys ++ key ∷ []) x []) (sym s.long) ∙ last_get s.keys key [] in
        subst (λ x. IsKeyOf (get_or classes x no_class) (get_or (s.keys ++ key ∷ []) x [])) same
        (subst (IsKeyOf (get_or classes n no_class)) (sym here) (subst (λ x. IsKeyOf x key) e is))
  ];
}

-- all classes have keys
pub class_firsts : (classes : List Class) (n : ℕ) (k : Keys) → KeysSoFar classes n k → n ≡ length classes → AreFirsts no_class classes k.firsts.items
class_firsts classes n k s e =
    let long = s.long in
    firsts_of no_class classes s.keys k (record {
      long = s.long ∙ e;
      forth = λ i j h l same. same_bytes (s.each i (omega (arith, h, e))).spells (subst (λ (x : Class). TextsSpelling hessian_forms (words_of x) (get_or s.keys j [])) (sym same) (s.each j (omega (arith, l, e))).spells);
      back = λ i j h l same. same_class (get_or classes i no_class) (get_or classes j no_class) (sym (same_texts (s.each i (omega (arith, h, e))).spells (s.each j (omega (arith, l, e))).spells (s.each i (omega (arith, h, e))).small same));
    }) s.fit

-- the types up to a place are their own keys
pub next_type_key : (types : List Text) (n : ℕ) (old new : Keys) (text key : List ℕ) → KeysFit (take n types) old → n < length types → text ≡ get_or types n text → key ≡ text → ((keys : List (List ℕ)) → KeysFit keys old → KeysFit (keys ++ key ∷ []) new) → KeysFit (take (n + 1) types) new
next_type_key types n old new text key s h e is step =
    let cut : take (n + 1) types ≡ take n types ++ text ∷ [] = take_more types n text h ∙ ap (λ (x : Text). take n types ++ x ∷ []) (sym e) in
    subst (λ ks. KeysFit ks new) (sym cut) (subst (λ x. KeysFit (take n types ++ x ∷ []) new) is (step (take n types) s))

pub type_firsts : (types : List Text) (n : ℕ) (k : Keys) → KeysFit (take n types) k → length types ≤ n → AreFirsts [] types k.firsts.items
type_firsts types n k s h = firsts_of [] types types k (own_keys types) (subst (λ ks. KeysFit ks k) (take_all n types h) s)
