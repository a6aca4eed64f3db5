-- Texts that are prepared one by one.
use Rattle.std.proofs.Common.{◌≡◌, ℕ, ◌+◌, ◌<◌, List, [], ◌∷◌, ◌++◌, length, get_or, ap, sym, ◌∙◌, subst, arith, inl, inr, length-append}
use Rattle.std.proofs.lemmas.Bool.{cases_lt}
use Rattle.std.proofs.lemmas.List.{get_or_default}
use Rattle.hessian_graph.specs.declared.node.Class.{Class}
use Rattle.hessian_graph.specs.Shape.{no_class}
use Rattle.hessian_graph.proofs.TableSteps.{front_get, last_get}
use Rattle.graph_notation.specs.declared.class_texts.ClassTexts.{ClassTexts}
use Rattle.graph_notation.specs.Preparing.{EachAt, AreTexts, HaveFirst}

-- one more
pub each_more : {T : Type 0} (Fits : ℕ → T → Type 0) (n : ℕ) (xs : List T) (x : T) → EachAt Fits n xs → Fits n x → EachAt Fits (n + 1) (xs ++ x ∷ [])
each_more {T} Fits n xs x e h = record {
  count = length-append xs (x ∷ []) ∙ ap (λ k. k + 1) e.count;
  each = λ k d l. elim (cases_lt k n) [
    | inl low ↦ let long = e.count in subst (Fits k) (sym (front_get xs (x ∷ []) k d (omega (arith, low, long)))) (e.each k d low)
    | inr high ↦
        let long = e.count in
        let is : n ≡ k = omega (arith, l, high) in
        let here : length xs ≡ k = omega (arith, long, is) in
        subst (λ (y : T). Fits k y) (sym (ap (λ i. get_or (xs ++ x ∷ []) i d) (sym here) ∙ last_get xs x d)) (subst (λ i. Fits i x) is h)
  ];
}

-- the texts of one more class
pub first_more : (classes : List Class) (n : ℕ) (texts : List ClassTexts) (class : Class) (more : ClassTexts) → n < length classes → class ≡ get_or classes n class → HaveFirst classes n texts → AreTexts class more → HaveFirst classes (n + 1) (texts ++ more ∷ [])
first_more classes n texts class more low is have fits =
    each_more (λ k. AreTexts (get_or classes k no_class)) n texts more have
    (subst (λ (x : Class). AreTexts x more) (is ∙ get_or_default classes n class no_class low) fits)
