-- Arguments of one shape get one answer, whatever the kind.
use Rattle.std.proofs.Common.{◌≡◌, ℕ, suc, ◌<◌, ◌^◌, List, [], ◌∷◌, length, reverse, refl, ap, sym, ◌∙◌, subst, inl, inr}
use Rattle.std.specs.Prelude.{◌+ℤ◌, None}
use Rattle.std.specs.List.{AllZip}
use Rattle.hessian_graph.specs.declared.value.Value.{Value}
use Rattle.hessian_graph.specs.declared.value.Value.TheVariants as values
use Rattle.hessian_graph.specs.Shape.{Kind, ListKind, MapKind, ObjectKind, Shape, node_of, values_at, kind_at}
use Rattle.hessian_graph.specs.Iso.{Match, IsIso, Iso}
use Rattle.hessian_graph.specs.Work.{IsClosed}
use Rattle.hessian_graph.proofs.Forms.{one_form}
use Rattle.service_table.specs.declared.kind.Kind.{Kind as Service}
use Rattle.service_table.specs.declared.kind.Kind.TheVariants as kinds
use Rattle.service_table.specs.Endings.{Ending, Given, Thrown, Stated, IsCanonEnding}
use Rattle.service_table.specs.Endings.IsCanonEnding.{given, thrown, stated}
use Rattle.service_table.specs.Replies.{first_of, first_alone, reversed, reversed_node, reversed_kind, number_of, total, added, added_node, added_kind, knot_class, sum_ending, answer}
use Rattle.service_table.proofs.Extending.{all_more, match_more, zip_reverse, first_match, iso_first, iso_new, self_match}
use Rattle.service_table.proofs.CanonForms.{one_canon, some_canon}
use Rattle.service_table.proofs.Closed.{OfGraph, answer_closed}

-- an ending has one canonical form at most
pub one_ending : {x a b : Ending} → IsCanonEnding x a → IsCanonEnding x b → a ≡ b
one_ending (given g h p) (given g' h' q) = ap Given (one_canon g h h' p q)
one_ending (thrown g h p) (thrown g' h' q) = ap Thrown (one_canon g h h' p q)
one_ending (stated code text) (stated code' text') = refl

-- the endings have no two canonical forms
abbrev pub Same : Ending → Ending → Type 0
Same x y = (a b : Ending) → IsCanonEnding x a → IsCanonEnding y b → a ≡ b

same_given : {g h : Shape} {a b : Ending} → Iso g h → IsCanonEnding (Given g) a → IsCanonEnding (Given h) b → a ≡ b
same_given i (given g a p) (given h b q) = ap Given (one_form i.0 g h i.1 a b p q)

same_thrown : {g h : Shape} {a b : Ending} → Iso g h → IsCanonEnding (Thrown g) a → IsCanonEnding (Thrown h) b → a ≡ b
same_thrown i (thrown g a p) (thrown h b q) = ap Thrown (one_form i.0 g h i.1 a b p q)

same_equal : (x y : Ending) → x ≡ y → Same x y
same_equal x y e a b p q = one_ending p (subst (λ z. IsCanonEnding z b) (sym e) q)

-- values that match count the same
number_same : (ps : List (ℕ × ℕ)) (v w : Value) → Match ps v w → number_of v ≡ number_of w
number_same ps v w (inl same) = ap number_of same.0
number_same ps v w (inr (n, m, a, b, c)) = ap number_of a ∙ sym (ap number_of b)

total_same : (ps : List (ℕ × ℕ)) (vs ws : List Value) → AllZip (Match ps) vs ws → total vs ≡ total ws
total_same ps [] [] z = refl
total_same ps [] (w ∷ ws) z = absurd z
total_same ps (v ∷ vs) [] z = absurd z
total_same ps (v ∷ vs) (w ∷ ws) z = ap (λ n. n +ℤ total vs) (number_same ps v w z.0) ∙ ap (λ n. number_of w +ℤ n) (total_same ps vs ws z.1)

module _ (pairs : List (ℕ × ℕ)) (g h : Shape) (iso : IsIso pairs g h) where
  abbrev one : Match pairs (first_of g) (first_of h)
  one = first_match pairs g.roots h.roots iso.roots

  firsts : AllZip (Match pairs) (first_of g ∷ []) (first_of h ∷ [])
  firsts = (one, tt)

  -- what is added up
  added_same : (n m : ℕ) (kind other : Kind) → kind ≡ other → AllZip (Match pairs) (values_at g n) (values_at h m) → total (added_kind kind n g) ≡ total (added_kind other m h)
  added_same n m (ListKind type) other e z = subst (λ k. total (values_at g n) ≡ total (added_kind k m h)) e (total_same pairs (values_at g n) (values_at h m) z)
  added_same n m (MapKind type) other e z = subst (λ k. total (first_of g ∷ []) ≡ total (added_kind k m h)) e (total_same pairs (first_of g ∷ []) (first_of h ∷ []) firsts)
  added_same n m (ObjectKind class) other e z = subst (λ k. total (first_of g ∷ []) ≡ total (added_kind k m h)) e (total_same pairs (first_of g ∷ []) (first_of h ∷ []) firsts)

  sum_same : Match pairs (first_of g) (first_of h) → total (added g) ≡ total (added h)
  sum_same (inl same) =
      ap (λ o. total (added_node o g)) same.1 ∙ total_same pairs (first_of g ∷ []) (first_of h ∷ []) firsts
      ∙ sym (ap (λ o. total (added_node o h)) (ap node_of (sym same.0) ∙ same.1))
  sum_same (inr (n, m, a, b, c)) =
      let x = iso.nodes n m c in
      ap (λ o. total (added_node o g)) (ap node_of a) ∙ added_same n m (kind_at g n) (kind_at h m) x.kinds x.values ∙ sym (ap (λ o. total (added_node o h)) (ap node_of b))

  -- what is turned round
  turned_kind : (n m : ℕ) (kind other : Kind) → kind ≡ other → AllZip (Match pairs) (values_at g n) (values_at h m) → Iso (reversed_kind kind n g) (reversed_kind other m h)
  turned_kind n m (ListKind type) other e z = subst (λ k. Iso (reversed_kind (ListKind type) n g) (reversed_kind k m h)) e
      (iso_new pairs g h iso (ListKind type) (reverse (values_at g n)) (reverse (values_at h m))
      (all_more (length g.nodes, length h.nodes) pairs (reverse (values_at g n)) (reverse (values_at h m)) (zip_reverse (Match pairs) (values_at g n) (values_at h m) z)))
  turned_kind n m (MapKind type) other e z = subst (λ k. Iso (first_alone g) (reversed_kind k m h)) e (iso_first g h (pairs, iso))
  turned_kind n m (ObjectKind class) other e z = subst (λ k. Iso (first_alone g) (reversed_kind k m h)) e (iso_first g h (pairs, iso))

  turned : Match pairs (first_of g) (first_of h) → Iso (reversed g) (reversed h)
  turned (inl same) =
      let a : reversed g ≡ first_alone g = ap (λ o. reversed_node o g) same.1 in
      let b : reversed h ≡ first_alone h = ap (λ o. reversed_node o h) (ap node_of (sym same.0) ∙ same.1) in
      subst (λ x. Iso x (reversed h)) (sym a) (subst (Iso (first_alone g)) (sym b) (iso_first g h (pairs, iso)))
  turned (inr (n, m, a, b, c)) =
      let x = iso.nodes n m c in
      let p : reversed g ≡ reversed_kind (kind_at g n) n g = ap (λ o. reversed_node o g) (ap node_of a) in
      let q : reversed h ≡ reversed_kind (kind_at h m) m h = ap (λ o. reversed_node o h) (ap node_of b) in
      subst (λ y. Iso y (reversed h)) (sym p) (subst (Iso (reversed_kind (kind_at g n) n g)) (sym q) (turned_kind n m (kind_at g n) (kind_at h m) x.kinds x.values))

  abbrev both : ℕ × ℕ
  both = (length g.nodes, length h.nodes)

  more_firsts : Match (both ∷ pairs) (first_of g) (first_of h)
  more_firsts = match_more both pairs (first_of g) (first_of h) one

  pub same_answer : (kind : Service) → Same (answer kind g) (answer kind h)
  same_answer kinds.Void a b p q = one_ending p q
  same_answer kinds.Echo a b p q = same_given (iso_first g h (pairs, iso)) p q
  same_answer kinds.Args a b p q = same_given (iso_new pairs g h iso (ListKind None) g.roots h.roots (all_more both pairs g.roots h.roots iso.roots)) p q
  same_answer kinds.Twice a b p q = same_given (iso_new pairs g h iso (ListKind None) (first_of g ∷ first_of g ∷ []) (first_of h ∷ first_of h ∷ []) (more_firsts, (more_firsts, tt))) p q
  same_answer kinds.Reverse a b p q = same_given (turned one) p q
  same_answer kinds.Sum a b p q = same_equal (answer kinds.Sum g) (answer kinds.Sum h) (ap sum_ending (sum_same one)) a b p q
  same_answer kinds.Knot a b p q = same_given (iso_new pairs g h iso (ObjectKind knot_class) (values.Node (length g.nodes) ∷ first_of g ∷ []) (values.Node (length h.nodes) ∷ first_of h ∷ [])
      (self_match pairs g h iso (ObjectKind knot_class) [] [], (more_firsts, tt))) p q
  same_answer kinds.Throw a b p q = same_thrown (iso_first g h (pairs, iso)) p q

-- an ending whose graph names no nodes but its own has a canonical form
pub some_ending : (x : Ending) → OfGraph IsClosed x → (a : Ending) × IsCanonEnding x a
some_ending (Given g) closed = let f = some_canon g closed in (Given f.0, given g f.0 f.1)
some_ending (Thrown g) closed = let f = some_canon g closed in (Thrown f.0, thrown g f.0 f.1)
some_ending (Stated code text) closed = (Stated code text, stated code text)

-- isomorphic arguments share the canonical form of their answer
pub alike_answer : (kind : Service) (g h : Shape) → IsClosed h → suc (length h.nodes) < 2 ^ 32 → Iso g h → (a : Ending) → IsCanonEnding (answer kind g) a → IsCanonEnding (answer kind h) a
alike_answer kind g h closed few iso a canon =
    let b = some_ending (answer kind h) (answer_closed kind h closed few) in
    subst (IsCanonEnding (answer kind h)) (sym (same_answer iso.0 g h iso.1 kind a b.0 canon b.1)) b.1
