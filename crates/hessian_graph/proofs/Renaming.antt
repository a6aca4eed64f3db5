-- Values and nodes under new numbers.
use Rattle.std.proofs.Common.{◌≡◌, ℕ, zero, suc, ◌+◌, ◌<◌, List, [], ◌∷◌, ◌++◌, length, get_or, refl, ap, sym, ◌∙◌, subst, arith, take}
use Rattle.std.specs.Prelude.{Option, Some, None, IsSome, All, map, unwrap_or}
use Rattle.std.proofs.lemmas.List.{map-append, take_more, length-map, append-nil}
use Rattle.hessian_graph.specs.declared.value.Value.{Value}
use Rattle.hessian_graph.specs.declared.value.Value.TheVariants.{Null}
use Rattle.hessian_graph.specs.declared.value.Pair.{Pair}
use Rattle.hessian_graph.specs.declared.node.Node.TheVariants as nodes
use Rattle.hessian_graph.specs.declared.node.Class.{Class}
use Rattle.hessian_graph.specs.Shape.{Text, ListKind, MapKind, ObjectKind, alternately, type_of, no_class, node_shape}
use Rattle.hessian_graph.specs.declared.names.Names.{Names}
use Rattle.hessian_graph.specs.declared.parts.Parts.{Parts}
use Rattle.hessian_graph.specs.Canon.{renumbered, given_number}
use Rattle.hessian_graph.specs.Work.{NamesBelow}
use Rattle.hessian_graph.specs.Tables.{IsKnown, NumberBelow, known_number, renamed_numbers}
use Rattle.hessian_graph.specs.Moving.{PairsBelow, NamesFit, ClassFits, TypeKnown, moved_shape, IsMoved}

pub alternately_more : (ps : List Pair) (p : Pair) → alternately (ps ++ p ∷ []) ≡ alternately ps ++ (p.key ∷ p.value ∷ [])
alternately_more [] p = refl
alternately_more (q ∷ ps) p = ap (λ xs. q.key ∷ q.value ∷ xs) (alternately_more ps p)

pub pairs_below : (count : ℕ) (ps : List Pair) → All (NamesBelow count) (alternately ps) → PairsBelow count ps
pairs_below count [] a k d h = absurd (omega (arith, h))
pairs_below count (p ∷ ps) a zero d h = (a 0 Null (omega arith), a 1 Null (omega arith))
pairs_below count (p ∷ ps) a (suc k) d h = pairs_below count ps (λ i e l. a (suc (suc i)) e (omega (arith, l))) k d (omega (arith, h))

-- one more pair is moved
pub pair_moved : (order : List ℕ) (pairs moved : List Pair) (i : ℕ) (p q : Pair) → i < length pairs → get_or pairs i p ≡ p → q.key ≡ renumbered order p.key → q.value ≡ renumbered order p.value → alternately moved ≡ map (renumbered order) (alternately (take i pairs)) → alternately (moved ++ q ∷ []) ≡ map (renumbered order) (alternately (take (i + 1) pairs))
pair_moved order pairs moved i p q h is key mate e =
    let cut : take (i + 1) pairs ≡ take i pairs ++ p ∷ [] = take_more pairs i p h ∙ ap (λ x. take i pairs ++ x ∷ []) is in
    let whole : map (renumbered order) (alternately (take (i + 1) pairs)) ≡ map (renumbered order) (alternately (take i pairs)) ++ (renumbered order p.key ∷ renumbered order p.value ∷ []) =
    ap (λ x. map (renumbered order) (alternately x)) cut ∙ ap (map (renumbered order)) (alternately_more (take i pairs) p) ∙ map-append (renumbered order) (alternately (take i pairs)) (p.key ∷ p.value ∷ []) in
    alternately_more moved q ∙ ap (λ x. x ++ (q.key ∷ q.value ∷ [])) e
    ∙ ap (λ x. map (renumbered order) (alternately (take i pairs)) ++ (x ∷ q.value ∷ [])) key
    ∙ ap (λ x. map (renumbered order) (alternately (take i pairs)) ++ (renumbered order p.key ∷ x ∷ [])) mate
    ∙ sym whole

number_of_some : (o : Option ℕ) → IsSome o → (i : ℕ) × (o ≡ Some i)
number_of_some None s = cc
number_of_some (Some i) s = (i, refl)

type_renamed : (known : List (Option ℕ)) (old new : List Text) (o : Option ℕ) → IsKnown [] known old new → TypeKnown known o → (type_of new (known_number known o) ≡ type_of old o) × NumberBelow (length new) (known_number known o)
type_renamed known old new None fit t = (refl, tt)
type_renamed known old new (Some k) fit t =
    let q = number_of_some (get_or known k None) t in
    let s = fit.shows k q.0 q.1 in
    (subst (λ o. type_of new o ≡ Some (get_or old k [])) (sym q.1) (ap Some s.1), subst (NumberBelow (length new)) (sym q.1) s.0)

numbers_renamed : (known : List (Option ℕ)) (t : Option ℕ) → given_number (known_number known t) ≡ renamed_numbers known (given_number t)
numbers_renamed known None = refl
numbers_renamed known (Some k) = sym (append-nil (given_number (get_or known k None)))

pub list_moved : (p : Parts) (n : Names) (order : List ℕ) (t : Option ℕ) (items moved : List Value) → NamesFit p n → TypeKnown n.types.known.items t → moved ≡ map (renumbered order) items → IsMoved p n order (nodes.List t items) (nodes.List (known_number n.types.known.items t) moved)
list_moved p n order t items moved fit known e =
    let r = type_renamed n.types.known.items p.types n.types.words.texts.items t fit.types.1 known in
    record {
      shape = ap (λ x. record { kind = ListKind x; values = moved }) r.0 ∙ ap (λ x. record { kind = ListKind (type_of p.types t); values = x }) e;
      there = r.1;
      types = numbers_renamed n.types.known.items t;
      classes = refl;
    }

pub map_moved : (p : Parts) (n : Names) (order : List ℕ) (t : Option ℕ) (pairs moved : List Pair) → NamesFit p n → TypeKnown n.types.known.items t → alternately moved ≡ map (renumbered order) (alternately pairs) → IsMoved p n order (nodes.Map t pairs) (nodes.Map (known_number n.types.known.items t) moved)
map_moved p n order t pairs moved fit known e =
    let r = type_renamed n.types.known.items p.types n.types.words.texts.items t fit.types.1 known in
    record {
      shape = ap (λ x. record { kind = MapKind x; values = alternately moved }) r.0 ∙ ap (λ x. record { kind = MapKind (type_of p.types t); values = x }) e;
      there = r.1;
      types = numbers_renamed n.types.known.items t;
      classes = refl;
    }

pub object_moved : (p : Parts) (n : Names) (order : List ℕ) (c : ℕ) (vs moved : List Value) → NamesFit p n → IsSome (get_or n.classes.known.items c None) → ClassFits p.classes c (length vs) → moved ≡ map (renumbered order) vs → IsMoved p n order (nodes.Object c vs) (nodes.Object (unwrap_or (get_or n.classes.known.items c None) 0) moved)
object_moved p n order c vs moved fit known there e =
    let classes : List (Option ℕ) = n.classes.known.items in
    let news : List Class = n.classes.rows.items in
    let q = number_of_some (get_or classes c None) known in
    let s = fit.classes.2.shows c q.0 q.1 in
    let i : unwrap_or (get_or classes c None) 0 ≡ q.0 = ap (λ o. unwrap_or o 0) q.1 in
    let count : length moved ≡ length (get_or news q.0 no_class).fields = ap length e ∙ length-map vs (renumbered order) ∙ there.count_is ∙ ap (λ (x : Class). length x.fields) (sym s.1) in
    let shape : node_shape n.types.words.texts.items news (nodes.Object q.0 moved) ≡ moved_shape p.types p.classes order (nodes.Object c vs) = ap (λ x. record { kind = ObjectKind x; values = moved }) s.1 ∙ ap (λ x. record { kind = ObjectKind (get_or p.classes c no_class); values = x }) e in
    let fits : ClassFits news q.0 (length moved) = record { below = s.0; count_is = count } in
    let number : q.0 ∷ [] ≡ renamed_numbers classes (c ∷ []) = sym (ap (λ o. given_number o ++ []) q.1) in
    record {
      shape = subst (λ k. node_shape n.types.words.texts.items news (nodes.Object k moved) ≡ moved_shape p.types p.classes order (nodes.Object c vs)) (sym i) shape;
      there = subst (λ k. ClassFits news k (length moved)) (sym i) fits;
      types = refl;
      classes = ap (λ k. k ∷ []) i ∙ number;
    }

pub number_within : {N : Type 0} (none : N) (known : List (Option ℕ)) (old new : List N) (o : Option ℕ) → IsKnown none known old new → NumberBelow (length old) o → NumberBelow (length known) o
number_within none known old new None fit b = tt
number_within none known old new (Some k) fit b = let e = fit.long in omega (arith, e, b)

pub pair_below : (count : ℕ) (ps : List Pair) (i : ℕ) (p : Pair) → PairsBelow count ps → i < length ps → get_or ps i p ≡ p → NamesBelow count p.key × NamesBelow count p.value
pair_below count ps i p all h e = subst (λ (x : Pair). NamesBelow count x.key × NamesBelow count x.value) e (all i p h)
