-- Names get numbers in the order of first use.
use Rattle.std.proofs.Common.{◌≡◌, ℕ, suc, ◌+◌, ◌<◌, ◌^◌, List, [], ◌∷◌, ◌++◌, length, get_or, refl, ap, sym, ◌∙◌, subst, arith, inl, inr, length-append}
use Rattle.std.specs.Prelude.{Option, Some, All}
use Rattle.std.specs.List.{flat_map}
use Rattle.std.specs.BTreeMap.{get_by_text}
use Rattle.std.proofs.lemmas.Grind.{flat_map-append}
use Rattle.std.proofs.lemmas.List.{append-nil}
use Rattle.hessian_graph.specs.declared.value.Value.{Value}
use Rattle.hessian_graph.specs.declared.node.Node.{Node}
use Rattle.hessian_graph.specs.declared.node.Class.{Class}
use Rattle.hessian_graph.specs.Shape.{Text, no_class}
use Rattle.hessian_graph.specs.Canon.{Rises, type_number, class_number}
use Rattle.hessian_graph.specs.InUse.{InOrderOfUse}
use Rattle.hessian_graph.specs.Tables.{IsIndex, IsNumber, spelled, words_of}
use Rattle.hessian_graph.proofs.TableSteps.{old_number, grown_long}
use Rattle.hessian_graph.proofs.Uses.{rises_both}
use Rattle.graph_notation.specs.declared.building.Tables.{Tables}
use Rattle.graph_notation.specs.Built.{Grows}
use Rattle.graph_notation.specs.Naming.{NamesFit, IsShown, NamesTaken, find_key}

-- nodes use so many types and classes, in the order of first use
pub record Uses (types classes : ℕ) (nodes : List Node) : Type 0 where
  pub types_rise : Rises 0 (flat_map type_number nodes) types
  pub classes_rise : Rises 0 (flat_map class_number nodes) classes

pub grows_none : {N : Type 0} (rows : List N) → Grows rows rows
grows_none rows = record { more = []; is = sym (append-nil rows); one = omega arith }

pub number_grows : {N : Type 0} (none : N) (old new : List N) (name : N) (n : ℕ) → IsNumber none old new name n → Grows old new
number_grows none old new name n number = elim number.grown [
  | inl (h, same) ↦ subst (Grows old) (sym same) (grows_none old)
  | inr (h, grown) ↦ record { more = name ∷ []; is = grown; one = omega arith }
]

pub number_rises : {N : Type 0} (none : N) (old new : List N) (name : N) (n : ℕ) → IsNumber none old new name n → Rises (length old) (n ∷ []) (length new)
number_rises none old new name n number = elim number.grown [
  | inl (h, same) ↦ inl (h, ap length (sym same))
  | inr (h, grown) ↦
      let long : length (old ++ name ∷ []) ≡ length old + 1 = length-append old (name ∷ []) in
      let e : suc (length old) ≡ length new = sym (ap length grown ∙ long ∙ (omega arith)) in
      inr (h, e)
]

pub number_small : {N : Type 0} (none : N) (old new : List N) (name : N) (n : ℕ) → IsNumber none old new name n → length old < 2 ^ 32 → n < 2 ^ 32
number_small none old new name n number h = let l = (grown_long none old new name n number).1 in omega (arith, l, h)

-- a row that is there is the class's number
pub shown_number : (rows : List Class) (n : ℕ) (class : Class) → IsShown rows n class → IsNumber no_class rows rows class n
shown_number rows n class s = old_number no_class rows class n s.within s.is

used_more : (f : Node → List ℕ) (ns : List Node) (n : Node) (a b : ℕ) → Rises 0 (flat_map f ns) a → Rises a (f n) b → Rises 0 (flat_map f (ns ++ n ∷ [])) b
used_more f ns n a b r s =
    let e : flat_map f (ns ++ n ∷ []) ≡ flat_map f ns ++ f n = flat_map-append f ns (n ∷ []) ∙ ap (λ z. flat_map f ns ++ z) (append-nil (f n)) in
    subst (λ z. Rises 0 z b) (sym e) (rises_both 0 a b (flat_map f ns) (f n) r s)

pub uses_more : (old new : Tables) (ns : List Node) (n : Node) → Uses (length old.types.texts.items) (length old.classes.rows.items) ns → NamesTaken old new n → Uses (length new.types.texts.items) (length new.classes.rows.items) (ns ++ n ∷ [])
uses_more old new ns n u t = record {
  types_rise = used_more type_number ns n (length old.types.texts.items) (length new.types.texts.items) u.types_rise t.types_rise;
  classes_rise = used_more class_number ns n (length old.classes.rows.items) (length new.classes.rows.items) u.classes_rise t.classes_rise;
}

same_some : (i j : ℕ) → ◌≡◌ {A = Option ℕ} (Some i) (Some j) → i ≡ j
same_some i j e = cc

texts_once : (find : List ℕ → Option ℕ) (texts : List Text) → IsIndex find texts → (i j : ℕ) → i < length texts → j < length texts → get_or texts i [] ≡ get_or texts j [] → i ≡ j
texts_once find texts index i j hi hj e = same_some i j (sym (index.kept i hi) ∙ ap find e ∙ index.kept j hj)

-- words have one list of numbers
words_once : (find : List ℕ → Option ℕ) (texts : List Text) → IsIndex find texts → (ns ms : List ℕ) → All (λ n. n < length texts) ns → All (λ n. n < length texts) ms → spelled texts ns ≡ spelled texts ms → ns ≡ ms
words_once find texts index [] [] a b e = refl
words_once find texts index [] (m ∷ ms) a b e = cc
words_once find texts index (n ∷ ns) [] a b e = cc
words_once find texts index (n ∷ ns) (m ∷ ms) a b e =
    let head : get_or texts n [] ≡ get_or texts m [] = cc in
    let tail : spelled texts ns ≡ spelled texts ms = cc in
    let one : n ≡ m = texts_once find texts index n m (a 0 n (omega arith)) (b 0 m (omega arith)) head in
    let rest : ns ≡ ms = words_once find texts index ns ms (λ k d h. a (suc k) d (omega (arith, h))) (λ k d h. b (suc k) d (omega (arith, h))) tail in
    cc

-- tables that fit have the names in the order of first use, each once
pub in_use : (t : Tables) (roots : List Value) (nodes : List Node) → NamesFit t → Uses (length t.types.texts.items) (length t.classes.rows.items) nodes → InOrderOfUse (record { roots = roots; nodes = nodes; types = t.types.texts.items; classes = t.classes.rows.items })
in_use t roots nodes fit u = record {
  types = u.types_rise;
  types_once = texts_once (get_by_text t.types.places) t.types.texts.items fit.0;
  classes = u.classes_rise;
  classes_once = λ i j hi hj e.
      let k = fit.1.1.kept i hi in
      let l = fit.1.1.kept j hj in
      let s = (fit.1.1.found k.0 i k.1).1 in
      let r = (fit.1.1.found l.0 j l.1).1 in
      let one : k.0 ≡ l.0 = words_once (get_by_text t.classes.words.places) t.classes.words.texts.items fit.1.0 k.0 l.0 s.below r.below (s.is ∙ ap words_of e ∙ sym r.is) in
      same_some i j (sym k.1 ∙ ap (find_key t.classes) one ∙ l.1);
}
