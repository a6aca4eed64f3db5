-- Tables of names in the order of first use.
use Rattle.std.proofs.Common.{◌≡◌, ℕ, suc, ◌+◌, ◌<◌, ◌≤◌, List, [], ◌∷◌, ◌++◌, length, get_or, refl, ap, sym, ◌∙◌, subst, arith, inl, inr, take, append_assoc}
use Rattle.std.specs.Prelude.{Option, Some, None, IsSome, All}
use Rattle.std.specs.List.{flat_map}
use Rattle.std.specs.BTreeMap.{get_by_text}
use Rattle.std.proofs.lemmas.List.{append-nil, take_more, take_all, get_or-take, length-take-le}
use Rattle.std.proofs.lemmas.Grind.{flat_map-append}
use Rattle.hessian_graph.specs.declared.value.Value.{Value}
use Rattle.hessian_graph.specs.declared.node.Node.{Node}
use Rattle.hessian_graph.specs.declared.node.Node.TheVariants as nodes
use Rattle.hessian_graph.specs.declared.names.Names.{Names}
use Rattle.hessian_graph.specs.declared.parts.Parts.{Parts}
use Rattle.hessian_graph.specs.Shape.{Text, no_vertex}
use Rattle.hessian_graph.specs.Canon.{Rises, given_number, type_number, class_number}
use Rattle.hessian_graph.specs.InUse.{InOrderOfUse}
use Rattle.hessian_graph.specs.Tables.{IsIndex, IsKnown, spelled, words_of, find_key, Remembers, renamed_numbers}
use Rattle.hessian_graph.specs.Moving.{TypeKnown, NodeKnown, NamesFit, AllMoved, TablesRise, NamesNext, types_used, classes_used}

pub rises_both : (a b c : ℕ) (xs ys : List ℕ) → Rises a xs b → Rises b ys c → Rises a (xs ++ ys) c
rises_both a b c [] ys p q = subst (λ i. Rises i ys c) (sym p) q
rises_both a b c (x ∷ xs) ys (inl (h, r)) q = inl (h, rises_both a b c xs ys r q)
rises_both a b c (x ∷ xs) ys (inr (e, r)) q = inr (e, rises_both (suc a) b c xs ys r q)

renamed_both : (known : List (Option ℕ)) (xs ys : List ℕ) → renamed_numbers known (xs ++ ys) ≡ renamed_numbers known xs ++ renamed_numbers known ys
renamed_both known [] ys = refl
renamed_both known (x ∷ xs) ys = ap (λ z. given_number (get_or known x None) ++ z) (renamed_both known xs ys) ∙ sym (append_assoc (given_number (get_or known x None)) (renamed_numbers known xs) (renamed_numbers known ys))

-- a name that is known adds none
pub rises_known : {N : Type 0} (none : N) (known : List (Option ℕ)) (old new : List N) (k i : ℕ) → IsKnown none known old new → get_or known k None ≡ Some i → Rises (length new) (renamed_numbers known (k ∷ [])) (length new)
rises_known none known old new k i fit e = subst (λ o. Rises (length new) (given_number o ++ []) (length new)) (sym e) (inl ((fit.shows k i e).0, refl))

same_option : (known more : List (Option ℕ)) (k : ℕ) → Remembers known more → (o : Option ℕ) → get_or known k None ≡ o → IsSome o → get_or more k None ≡ get_or known k None
same_option known more k r None e s = cc
same_option known more k r (Some i) e s = r k i e ∙ sym e

same_type_numbers : (known more : List (Option ℕ)) (t : Option ℕ) → Remembers known more → TypeKnown known t → renamed_numbers more (given_number t) ≡ renamed_numbers known (given_number t)
same_type_numbers known more None r s = refl
same_type_numbers known more (Some k) r s = ap (λ o. given_number o ++ []) (same_option known more k r (get_or known k None) refl s)

node_types : (known more others : List (Option ℕ)) (node : Node) → Remembers known more → NodeKnown known others node → renamed_numbers more (type_number node) ≡ renamed_numbers known (type_number node)
node_types known more others (nodes.List t items) r s = same_type_numbers known more t r s
node_types known more others (nodes.Map t pairs) r s = same_type_numbers known more t r s
node_types known more others (nodes.Object c vs) r s = refl

node_classes : (known more others : List (Option ℕ)) (node : Node) → Remembers known more → NodeKnown others known node → renamed_numbers more (class_number node) ≡ renamed_numbers known (class_number node)
node_classes known more others (nodes.List t items) r s = refl
node_classes known more others (nodes.Map t pairs) r s = refl
node_classes known more others (nodes.Object c vs) r s = ap (λ o. given_number o ++ []) (same_option known more c r (get_or known c None) refl s)

module _ (p : Parts) (types classes types' classes' : List (Option ℕ)) where
  all_types : (olds : List ℕ) → Remembers types types' → ((j : ℕ) → j < length olds → NodeKnown types classes (get_or p.nodes (get_or olds j 0) no_vertex)) → renamed_numbers types' (types_used p olds) ≡ renamed_numbers types (types_used p olds)
  all_types [] r s = refl
  all_types (o ∷ olds) r s =
      let ks : List ℕ = type_number (get_or p.nodes o no_vertex) in
      let head : renamed_numbers types' ks ≡ renamed_numbers types ks = node_types types types' classes (get_or p.nodes o no_vertex) r (s 0 (omega arith)) in
      let tail : renamed_numbers types' (types_used p olds) ≡ renamed_numbers types (types_used p olds) = all_types olds r (λ j h. s (suc j) (omega (arith, h))) in
      renamed_both types' ks (types_used p olds) ∙ ap (λ z. z ++ renamed_numbers types' (types_used p olds)) head ∙ ap (λ z. renamed_numbers types ks ++ z) tail ∙ sym (renamed_both types ks (types_used p olds))

  all_classes : (olds : List ℕ) → Remembers classes classes' → ((j : ℕ) → j < length olds → NodeKnown types classes (get_or p.nodes (get_or olds j 0) no_vertex)) → renamed_numbers classes' (classes_used p olds) ≡ renamed_numbers classes (classes_used p olds)
  all_classes [] r s = refl
  all_classes (o ∷ olds) r s =
      let ks : List ℕ = class_number (get_or p.nodes o no_vertex) in
      let head : renamed_numbers classes' ks ≡ renamed_numbers classes ks = node_classes classes classes' types (get_or p.nodes o no_vertex) r (s 0 (omega arith)) in
      let tail : renamed_numbers classes' (classes_used p olds) ≡ renamed_numbers classes (classes_used p olds) = all_classes olds r (λ j h. s (suc j) (omega (arith, h))) in
      renamed_both classes' ks (classes_used p olds) ∙ ap (λ z. z ++ renamed_numbers classes' (classes_used p olds)) head ∙ ap (λ z. renamed_numbers classes ks ++ z) tail ∙ sym (renamed_both classes ks (classes_used p olds))

one_more_used : (f : ℕ → List ℕ) (order : List ℕ) (i : ℕ) → i < length order → flat_map f (take (i + 1) order) ≡ flat_map f (take i order) ++ f (get_or order i 0)
one_more_used f order i h = ap (flat_map f) (take_more order i 0 h) ∙ flat_map-append f (take i order) (get_or order i 0 ∷ []) ∙ ap (λ z. flat_map f (take i order) ++ z) (append-nil (f (get_or order i 0)))

-- the tables rise by the names of one more node
pub rise_more : (p : Parts) (old new : Names) (order : List ℕ) (i : ℕ) → i < length order → TablesRise p old (take i order) → NamesNext old new (get_or p.nodes (get_or order i 0) no_vertex) → Remembers old.types.known.items new.types.known.items → Remembers old.classes.known.items new.classes.known.items → ((j : ℕ) → j < i → NodeKnown old.types.known.items old.classes.known.items (get_or p.nodes (get_or order j 0) no_vertex)) → TablesRise p new (take (i + 1) order)
rise_more p old new order i h rise next rt rc known =
    let node : Node = get_or p.nodes (get_or order i 0) no_vertex in
    let front : List ℕ = take i order in
    let long : length (take i order) ≡ i = length-take-le i order (omega (arith, h)) in
    let seen : (j : ℕ) → j < length (take i order) → NodeKnown old.types.known.items old.classes.known.items (get_or p.nodes (get_or (take i order) j 0) no_vertex) = λ j l.
    let within : j < i = omega (arith, l, long) in
    subst (λ n. NodeKnown old.types.known.items old.classes.known.items (get_or p.nodes n no_vertex)) (sym (get_or-take i order j 0 within)) (known j within) in
    let types : renamed_numbers new.types.known.items (types_used p (take (i + 1) order)) ≡ renamed_numbers old.types.known.items (types_used p front) ++ renamed_numbers new.types.known.items (type_number node) =
    ap (renamed_numbers new.types.known.items) (one_more_used (λ n. type_number (get_or p.nodes n no_vertex)) order i h)
    ∙ renamed_both new.types.known.items (types_used p front) (type_number node)
    ∙ ap (λ z. z ++ renamed_numbers new.types.known.items (type_number node)) (all_types p old.types.known.items old.classes.known.items new.types.known.items new.classes.known.items front rt seen) in
    let classes : renamed_numbers new.classes.known.items (classes_used p (take (i + 1) order)) ≡ renamed_numbers old.classes.known.items (classes_used p front) ++ renamed_numbers new.classes.known.items (class_number node) =
    ap (renamed_numbers new.classes.known.items) (one_more_used (λ n. class_number (get_or p.nodes n no_vertex)) order i h)
    ∙ renamed_both new.classes.known.items (classes_used p front) (class_number node)
    ∙ ap (λ z. z ++ renamed_numbers new.classes.known.items (class_number node)) (all_classes p old.types.known.items old.classes.known.items new.types.known.items new.classes.known.items front rc seen) in
    record {
      types = subst (λ z. Rises 0 z (length new.types.words.texts.items)) (sym types) (rises_both 0 (length old.types.words.texts.items) (length new.types.words.texts.items) (renamed_numbers old.types.known.items (types_used p front)) (renamed_numbers new.types.known.items (type_number node)) rise.types next.types);
      classes = subst (λ z. Rises 0 z (length new.classes.rows.items)) (sym classes) (rises_both 0 (length old.classes.rows.items) (length new.classes.rows.items) (renamed_numbers old.classes.known.items (classes_used p front)) (renamed_numbers new.classes.known.items (class_number node)) rise.classes next.classes);
    }

pub rise_whole : (p : Parts) (n : Names) (order : List ℕ) (i : ℕ) → length order ≤ i → TablesRise p n (take i order) → TablesRise p n order
rise_whole p n order i h rise = subst (TablesRise p n) (take_all i order h) rise

-- the moved nodes use the new numbers
moved_types : (p : Parts) (n : Names) (order olds : List ℕ) (news : List Node) → AllMoved p n order olds news → flat_map type_number news ≡ renamed_numbers n.types.known.items (types_used p olds)
moved_types p n order [] [] a = refl
moved_types p n order [] (x ∷ news) a = absurd a
moved_types p n order (o ∷ olds) [] a = absurd a
moved_types p n order (o ∷ olds) (x ∷ news) a =
    let head : type_number x ≡ renamed_numbers n.types.known.items (type_number (get_or p.nodes o no_vertex)) = a.0.types in
    ap (λ z. z ++ flat_map type_number news) head
    ∙ ap (λ z. renamed_numbers n.types.known.items (type_number (get_or p.nodes o no_vertex)) ++ z) (moved_types p n order olds news a.1)
    ∙ sym (renamed_both n.types.known.items (type_number (get_or p.nodes o no_vertex)) (types_used p olds))

moved_classes : (p : Parts) (n : Names) (order olds : List ℕ) (news : List Node) → AllMoved p n order olds news → flat_map class_number news ≡ renamed_numbers n.classes.known.items (classes_used p olds)
moved_classes p n order [] [] a = refl
moved_classes p n order [] (x ∷ news) a = absurd a
moved_classes p n order (o ∷ olds) [] a = absurd a
moved_classes p n order (o ∷ olds) (x ∷ news) a =
    let head : class_number x ≡ renamed_numbers n.classes.known.items (class_number (get_or p.nodes o no_vertex)) = a.0.classes in
    ap (λ z. z ++ flat_map class_number news) head
    ∙ ap (λ z. renamed_numbers n.classes.known.items (class_number (get_or p.nodes o no_vertex)) ++ z) (moved_classes p n order olds news a.1)
    ∙ sym (renamed_both n.classes.known.items (class_number (get_or p.nodes o no_vertex)) (classes_used p olds))

same_some : (i j : ℕ) → ◌≡◌ {A = Option ℕ} (Some i) (Some j) → i ≡ j
same_some i j e = cc

texts_once : (find : List ℕ → Option ℕ) (texts : List Text) → IsIndex find texts → (i j : ℕ) → i < length texts → j < length texts → get_or texts i [] ≡ get_or texts j [] → i ≡ j
texts_once find texts index i j hi hj e = same_some i j (sym (index.kept i hi) ∙ ap find e ∙ index.kept j hj)

-- words have one list of numbers
spell_once : (find : List ℕ → Option ℕ) (texts : List Text) → IsIndex find texts → (ns ms : List ℕ) → All (λ n. n < length texts) ns → All (λ n. n < length texts) ms → spelled texts ns ≡ spelled texts ms → ns ≡ ms
spell_once find texts index [] [] a b e = refl
spell_once find texts index [] (m ∷ ms) a b e = cc
spell_once find texts index (n ∷ ns) [] a b e = cc
spell_once find texts index (n ∷ ns) (m ∷ ms) a b e =
    let head : get_or texts n [] ≡ get_or texts m [] = cc in
    let tail : spelled texts ns ≡ spelled texts ms = cc in
    let one : n ≡ m = texts_once find texts index n m (a 0 n (omega arith)) (b 0 m (omega arith)) head in
    let rest : ns ≡ ms = spell_once find texts index ns ms (λ k d h. a (suc k) d (omega (arith, h))) (λ k d h. b (suc k) d (omega (arith, h))) tail in
    cc

pub in_use : (p : Parts) (n : Names) (order : List ℕ) (roots : List Value) (news : List Node) → NamesFit p n → TablesRise p n order → AllMoved p n order order news → InOrderOfUse (record { roots = roots; nodes = news; types = n.types.words.texts.items; classes = n.classes.rows.items })
in_use p n order roots news fit rise a = record {
  types = subst (λ z. Rises 0 z (length n.types.words.texts.items)) (sym (moved_types p n order order news a)) rise.types;
  types_once = texts_once (get_by_text n.types.words.places) n.types.words.texts.items fit.types.0;
  classes = subst (λ z. Rises 0 z (length n.classes.rows.items)) (sym (moved_classes p n order order news a)) rise.classes;
  classes_once = λ i j hi hj e.
      let k = fit.classes.1.kept i hi in
      let l = fit.classes.1.kept j hj in
      let s = (fit.classes.1.found k.0 i k.1).1 in
      let t = (fit.classes.1.found l.0 j l.1).1 in
      let one : k.0 ≡ l.0 = spell_once (get_by_text n.classes.words.places) n.classes.words.texts.items fit.classes.0 k.0 l.0 s.below t.below (s.is ∙ ap words_of e ∙ sym t.is) in
      same_some i j (sym k.1 ∙ ap (find_key n.classes) one ∙ l.1);
}

known_stays : {N : Type 0} (none : N) (known : List (Option ℕ)) (old new : List N) (k : ℕ) → IsKnown none known old new → (o : Option ℕ) → get_or known k None ≡ o → IsSome o → Rises (length new) (renamed_numbers known (k ∷ [])) (length new)
known_stays none known old new k fit None e s = cc
known_stays none known old new k fit (Some i) e s = rises_known none known old new k i fit e

-- a name that is known by now adds none
pub rises_stay : {N : Type 0} (none : N) (known : List (Option ℕ)) (old new : List N) (k : ℕ) → IsKnown none known old new → IsSome (get_or known k None) → Rises (length new) (renamed_numbers known (k ∷ [])) (length new)
rises_stay none known old new k fit s = known_stays none known old new k fit (get_or known k None) refl s
