-- Isomorphic graphs stay so where one root is taken, or a node is put behind the nodes of both.
use Rattle.std.proofs.Common.{◌≡◌, ℕ, zero, suc, ◌<◌, List, [], ◌∷◌, ◌++◌, length, get_or, reverse, refl, ap, sym, ◌∙◌, subst, arith, inl, inr, ◌⊎◌, length-append}
use Rattle.std.specs.Prelude.{Contains, map}
use Rattle.std.specs.List.{AllZip}
use Rattle.std.proofs.lemmas.List.{reverse-append}
use Rattle.std.proofs.lemmas.List.Elements.{AllZip-push}
use Rattle.hessian_graph.specs.declared.value.Value.{Value}
use Rattle.hessian_graph.specs.declared.value.Value.TheVariants.{Null, Node}
use Rattle.hessian_graph.specs.Shape.{Shape, NodeShape, Kind, no_node, values_at}
use Rattle.hessian_graph.specs.Iso.{StandOnce, Match, NodesMatch, IsIso, Iso}
use Rattle.hessian_graph.proofs.TableSteps.{front_get, last_get}
use Rattle.service_table.specs.Replies.{first_alone, with_new}

here : (p : ℕ × ℕ) (ps : List (ℕ × ℕ)) → Contains (p ∷ ps) p
here p ps = (0, omega arith, refl)

behind : (p : ℕ × ℕ) (ps : List (ℕ × ℕ)) (n m : ℕ) → Contains ps (n, m) → Contains (p ∷ ps) (n, m)
behind p ps n m c = let h = c.1 in (suc c.0, omega (arith, h), c.2)

-- a pair of the longer list is the new one or an old one
parted : (p : ℕ × ℕ) (ps : List (ℕ × ℕ)) (n m k : ℕ) → k < length (p ∷ ps) → get_or (p ∷ ps) k (n, m) ≡ (n, m) → (p ≡ (n, m)) ⊎ Contains ps (n, m)
parted p ps n m zero h e = inl e
parted p ps n m (suc k) h e = inr (k, omega (arith, h), e)

pub match_more : (p : ℕ × ℕ) (ps : List (ℕ × ℕ)) (v w : Value) → Match ps v w → Match (p ∷ ps) v w
match_more p ps v w (inl same) = inl same
match_more p ps v w (inr (n, m, a, b, c)) = inr (n, m, a, b, behind p ps n m c)

pub all_more : (p : ℕ × ℕ) (ps : List (ℕ × ℕ)) (vs ws : List Value) → AllZip (Match ps) vs ws → AllZip (Match (p ∷ ps)) vs ws
all_more p ps [] [] z = tt
all_more p ps [] (w ∷ ws) z = absurd z
all_more p ps (v ∷ vs) [] z = absurd z
all_more p ps (v ∷ vs) (w ∷ ws) z = (match_more p ps v w z.0, all_more p ps vs ws z.1)

-- values that match place by place do so from the last to the first
pub zip_reverse : (R : Value → Value → Type 0) (vs ws : List Value) → AllZip R vs ws → AllZip R (reverse vs) (reverse ws)
zip_reverse R [] [] z = tt
zip_reverse R [] (w ∷ ws) z = absurd z
zip_reverse R (v ∷ vs) [] z = absurd z
zip_reverse R (v ∷ vs) (w ∷ ws) z =
    subst (λ x. AllZip R x (reverse (w ∷ ws))) (sym (reverse-append (v ∷ []) vs))
    (subst (λ x. AllZip R (reverse vs ++ v ∷ []) x) (sym (reverse-append (w ∷ []) ws))
    (AllZip-push R (reverse vs) (reverse ws) v w (zip_reverse R vs ws z.1) z.0))

-- the first of values that match
pub first_match : (ps : List (ℕ × ℕ)) (vs ws : List Value) → AllZip (Match ps) vs ws → Match ps (get_or vs 0 Null) (get_or ws 0 Null)
first_match ps [] [] z = inl (refl, refl)
first_match ps [] (w ∷ ws) z = absurd z
first_match ps (v ∷ vs) [] z = absurd z
first_match ps (v ∷ vs) (w ∷ ws) z = z.0

-- a number above all others stands once beside them
once_more : (x : ℕ) (xs : List ℕ) → StandOnce xs → ((i : ℕ) → i < length xs → get_or xs i 0 < x) → StandOnce (x ∷ xs)
once_more x xs once less zero zero h l e = refl
once_more x xs once less zero (suc j) h l e = let b = less j (omega (arith, l)) in let same : x ≡ get_or xs j 0 = e in absurd (omega (arith, b, same))
once_more x xs once less (suc i) zero h l e = let b = less i (omega (arith, h)) in let same : get_or xs i 0 ≡ x = e in absurd (omega (arith, b, same))
once_more x xs once less (suc i) (suc j) h l e = ap suc (once i j (omega (arith, h)) (omega (arith, l)) e)

firsts_below : (ps : List (ℕ × ℕ)) (count : ℕ) → ((n m : ℕ) → Contains ps (n, m) → n < count) → (i : ℕ) → i < length (map (λ p. p.0) ps) → get_or (map (λ p. p.0) ps) i 0 < count
firsts_below [] count f i h = absurd (omega (arith, h))
firsts_below (p ∷ ps) count f zero h = f p.0 p.1 (here p ps)
firsts_below (p ∷ ps) count f (suc i) h = firsts_below ps count (λ n m c. f n m (behind p ps n m c)) i (omega (arith, h))

seconds_below : (ps : List (ℕ × ℕ)) (count : ℕ) → ((n m : ℕ) → Contains ps (n, m) → m < count) → (i : ℕ) → i < length (map (λ p. p.1) ps) → get_or (map (λ p. p.1) ps) i 0 < count
seconds_below [] count f i h = absurd (omega (arith, h))
seconds_below (p ∷ ps) count f zero h = f p.0 p.1 (here p ps)
seconds_below (p ∷ ps) count f (suc i) h = seconds_below ps count (λ n m c. f n m (behind p ps n m c)) i (omega (arith, h))

-- the first arguments alone
pub iso_first : (g h : Shape) → Iso g h → Iso (first_alone g) (first_alone h)
iso_first g h (pairs, iso) = (
  pairs,
  record {
    left = iso.left;
    right = iso.right;
    roots = (first_match pairs g.roots h.roots iso.roots, tt);
    nodes = λ n m c. let x = iso.nodes n m c in record { left = x.left; right = x.right; kinds = x.kinds; values = x.values };
  },
)

module _ (pairs : List (ℕ × ℕ)) (g h : Shape) (iso : IsIso pairs g h) (kind : Kind) (vs ws : List Value) where
  abbrev both : ℕ × ℕ
  both = (length g.nodes, length h.nodes)

  old_match : (n m : ℕ) → NodesMatch pairs g h n m → NodesMatch (both ∷ pairs) (with_new kind vs g) (with_new kind ws h) n m
  old_match n m x =
      let new : NodeShape = record { kind = kind; values = vs } in
      let other : NodeShape = record { kind = kind; values = ws } in
      let l = x.left in
      let r = x.right in
      let a : get_or (g.nodes ++ new ∷ []) n no_node ≡ get_or g.nodes n no_node = front_get g.nodes (new ∷ []) n no_node l in
      let b : get_or (h.nodes ++ other ∷ []) m no_node ≡ get_or h.nodes m no_node = front_get h.nodes (other ∷ []) m no_node r in
      let long = length-append g.nodes (new ∷ []) in
      let wide = length-append h.nodes (other ∷ []) in
      record {
        left = omega (arith, l, long);
        right = omega (arith, r, wide);
        kinds = ap (λ (y : NodeShape). y.kind) a ∙ x.kinds ∙ sym (ap (λ (y : NodeShape). y.kind) b);
        values = subst (λ (y : NodeShape). AllZip (Match (both ∷ pairs)) y.values (values_at (with_new kind ws h) m)) (sym a)
            (subst (λ (y : NodeShape). AllZip (Match (both ∷ pairs)) (values_at g n) y.values) (sym b) (all_more both pairs (values_at g n) (values_at h m) x.values));
      }

  module _ (z : AllZip (Match (both ∷ pairs)) vs ws) where
    new_match : NodesMatch (both ∷ pairs) (with_new kind vs g) (with_new kind ws h) (length g.nodes) (length h.nodes)
    new_match =
        let new : NodeShape = record { kind = kind; values = vs } in
        let other : NodeShape = record { kind = kind; values = ws } in
        let a : get_or (g.nodes ++ new ∷ []) (length g.nodes) no_node ≡ new = last_get g.nodes new no_node in
        let b : get_or (h.nodes ++ other ∷ []) (length h.nodes) no_node ≡ other = last_get h.nodes other no_node in
        let long = length-append g.nodes (new ∷ []) in
        let wide = length-append h.nodes (other ∷ []) in
        record {
          left = omega (arith, long);
          right = omega (arith, wide);
          kinds = ap (λ (y : NodeShape). y.kind) a ∙ sym (ap (λ (y : NodeShape). y.kind) b);
          values = subst (λ (y : NodeShape). AllZip (Match (both ∷ pairs)) y.values (values_at (with_new kind ws h) (length h.nodes))) (sym a)
              (subst (λ (y : NodeShape). AllZip (Match (both ∷ pairs)) vs y.values) (sym b) z);
        }

    all_match : (n m : ℕ) → (both ≡ (n, m)) ⊎ Contains pairs (n, m) → NodesMatch (both ∷ pairs) (with_new kind vs g) (with_new kind ws h) n m
    all_match n m (inl e) = subst (λ (p : ℕ × ℕ). NodesMatch (both ∷ pairs) (with_new kind vs g) (with_new kind ws h) p.0 p.1) e new_match
    all_match n m (inr c) = old_match n m (iso.nodes n m c)

    -- a new node of one kind, whose values match
    pub iso_new : Iso (with_new kind vs g) (with_new kind ws h)
    iso_new = (
      both ∷ pairs,
      record {
        left = once_more (length g.nodes) (map (λ p. p.0) pairs) iso.left (firsts_below pairs (length g.nodes) (λ n m c. (iso.nodes n m c).left));
        right = once_more (length h.nodes) (map (λ p. p.1) pairs) iso.right (seconds_below pairs (length h.nodes) (λ n m c. (iso.nodes n m c).right));
        roots = (inr (length g.nodes, length h.nodes, refl, refl, here both pairs), tt);
        nodes = λ n m c. all_match n m (parted both pairs n m c.0 c.1 c.2);
      },
    )

  -- the new nodes match, as values of their own
  pub self_match : Match (both ∷ pairs) (Node (length g.nodes)) (Node (length h.nodes))
  self_match = inr (length g.nodes, length h.nodes, refl, refl, here both pairs)
