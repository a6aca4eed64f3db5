-- A node that begins lacks all that it has in the end, and one that ends lacks nothing.
use Rattle.std.proofs.Common.{◌≡◌, ℕ, zero, suc, ◌<◌, List, [], ◌∷◌, ◌++◌, length, get_or, refl, ap, sym, ◌∙◌, subst, arith, inl, inr, length-append, add-zero}
use Rattle.std.specs.Prelude.{Ok}
use Rattle.std.proofs.lemmas.Bool.{ne_eqb, cases_eq}
use Rattle.std.proofs.lemmas.List.{append-nil, get_or_append_left, get_or-append-add}
use Rattle.hessian_graph.specs.declared.value.Value.{Value}
use Rattle.hessian_graph.specs.Shape.{Shape, values_at}
use Rattle.hessian_graph.specs.Line.{Symbol, End, values_then}
use Rattle.hessian_reader.specs.declared.table.Sort.{Sort}
use Rattle.hessian_reader.specs.Nodes.{Begun}
use Rattle.hessian_reader.specs.declared.store.Lacks.{Lacks}
use Rattle.hessian_reader.specs.declared.store.OpenNode.{OpenNode}
use Rattle.hessian_reader.specs.States.{State, ToEnd, Count, Key, Mate, no_begun, values_so_far, with_open, closes}
use Rattle.hessian_reader.specs.Steps.{end_of, end_step}
use Rattle.hessian_reader.proofs.Lacking.{Even, never_odd, LacksFit, AllFit, AreOpen, behind, to_come, share, share_here, share_there, share_none, owed, owed_first, owed_past, rest_is, Lacking}

-- `Z` takes the innermost open node away

pub record Ends (g : Shape) (s : State) (os : List OpenNode) (ss : List Symbol) : Type 0 where
  pub others : List OpenNode
  pub is : end_step os s ≡ Ok (closes others s)
  pub lacking : Lacking g s.built.roots s.built.wanted s.built.nodes others ss

module _ (g : Shape) (s : State) (ss : List Symbol) where
  abbrev Says : List OpenNode → List (List Value) → Type 0
  Says os rs = (i : ℕ) → i < length s.built.nodes → values_at g i ≡ values_so_far s.built.nodes i ++ owed i os rs

  end_here : (o : OpenNode) (os : List OpenNode) (rs : List (List Value)) (last : List Value) → AllFit os rs → End ∷ ss ≡ End ∷ to_come os rs last → g.roots ≡ s.built.roots ++ last → length last ≡ s.built.wanted → Says (o ∷ os) ([] ∷ rs) → Lacking g s.built.roots s.built.wanted s.built.nodes os ss
  end_here o os rs last fit e roots wants says = record {
    rests = rs;
    last = last;
    fit = fit;
    rest = rest_is End End ss (to_come os rs last) e;
    roots_are = roots;
    wants = wants;
    values_are = λ i h. says i h ∙ rw (owed_first i o os [] rs, share_none i o.node) refl;
  }

  end_open : (n : ℕ) (lacks : Lacks) (os : List OpenNode) (r : List Value) (rs : List (List Value)) (last : List Value) → LacksFit lacks (length r) → AllFit os rs → End ∷ ss ≡ values_then r (behind lacks (to_come os rs last)) → g.roots ≡ s.built.roots ++ last → length last ≡ s.built.wanted → Says (record { node = n; lacks = lacks } ∷ os) (r ∷ rs) → Ends g s (record { node = n; lacks = lacks } ∷ os) ss
  end_open n lacks os (w ∷ r) rs last fits fit e roots wants says = cc
  end_open n (Count k) os [] rs last fits fit e roots wants says = absurd (omega arith)
  end_open n Mate os [] rs last fits fit e roots wants says = absurd (never_odd fits)
  end_open n ToEnd os [] rs last fits fit e roots wants says = record { others = os; is = refl; lacking = end_here (record { node = n; lacks = ToEnd }) os rs last fit e roots wants says }
  end_open n Key os [] rs last fits fit e roots wants says = record { others = os; is = refl; lacking = end_here (record { node = n; lacks = Key }) os rs last fit e roots wants says }

  end_by : (os : List OpenNode) (rests : List (List Value)) (last : List Value) → AllFit os rests → End ∷ ss ≡ to_come os rests last → g.roots ≡ s.built.roots ++ last → length last ≡ s.built.wanted → Says os rests → Ends g s os ss
  end_by [] rests [] fit e roots wants says = cc
  end_by [] rests (w ∷ last) fit e roots wants says = cc
  end_by (o ∷ os) [] last fit e roots wants says = absurd fit
  end_by (o ∷ os) (r ∷ rs) last fit e roots wants says = end_open o.node o.lacks os r rs last fit.0 fit.1 e roots wants says

  pub end : (os : List OpenNode) → Lacking g s.built.roots s.built.wanted s.built.nodes os (End ∷ ss) → Ends g s os ss
  end os p = end_by os p.rests p.last p.fit p.rest p.roots_are p.wants p.values_are

-- and what it took away lacked nothing but it

pub record Ended (g : Shape) (s u : State) (os : List OpenNode) (ss : List Symbol) : Type 0 where
  pub others : List OpenNode
  pub is : closes others s ≡ u
  pub lacking : Lacking g s.built.roots s.built.wanted s.built.nodes others ss → Lacking g s.built.roots s.built.wanted s.built.nodes os (End ∷ ss)

module _ (g : Shape) (s u : State) (ss : List Symbol) where
  unend_here : (n : ℕ) (lacks : Lacks) (os : List OpenNode) → LacksFit lacks 0 → ((x : List Symbol) → behind lacks x ≡ End ∷ x) → Lacking g s.built.roots s.built.wanted s.built.nodes os ss → Lacking g s.built.roots s.built.wanted s.built.nodes (record { node = n; lacks = lacks } ∷ os) (End ∷ ss)
  unend_here n lacks os fits ends q = record {
    rests = [] ∷ q.rests;
    last = q.last;
    fit = (fits, q.fit);
    rest = ap (λ x. End ∷ x) q.rest ∙ sym (ends (to_come os q.rests q.last));
    roots_are = q.roots_are;
    wants = q.wants;
    values_are = λ i h. q.values_are i h ∙ rw (owed_first i (record { node = n; lacks = lacks }) os [] q.rests, share_none i n) refl;
  }

  unend_open : (n : ℕ) (lacks : Lacks) (os : List OpenNode) → end_of lacks os s ≡ Ok u → Ended g s u (record { node = n; lacks = lacks } ∷ os) ss
  unend_open n (Count k) os e = cc
  unend_open n Mate os e = cc
  unend_open n ToEnd os e = record { others = os; is = cc; lacking = unend_here n ToEnd os tt (λ x. refl) }
  unend_open n Key os e = record { others = os; is = cc; lacking = unend_here n Key os (0, refl) (λ x. refl) }

  pub end_back : (os : List OpenNode) → end_step os s ≡ Ok u → Ended g s u os ss
  end_back [] e = cc
  end_back (o ∷ os) e = unend_open o.node o.lacks os e

-- a node may begin so
abbrev pub MayBegin : Lacks → Type 0
MayBegin ToEnd = Unit {0}
MayBegin (Count k) = Unit {0}
MayBegin Key = Unit {0}
MayBegin Mate = ⊥

abbrev pub LacksAll : Lacks → ℕ → Type 0
LacksAll ToEnd count = Unit {0}
LacksAll (Count k) count = k ≡ count
LacksAll Key count = Even count
LacksAll Mate count = ⊥

some_count : (k n : ℕ) (os : List OpenNode) → with_open (Count (suc k)) n os ≡ record { node = n; lacks = Count (suc k) } ∷ os
some_count k n os = rw (ne_eqb (suc k) 0 (λ e. omega arith)) refl

nothing : (xs : List Value) → length xs ≡ 0 → xs ≡ []
nothing [] e = refl
nothing (x ∷ xs) e = cc

module _ (g : Shape) (roots : List Value) (wanted : ℕ) (nodes : List Begun) (sort : Sort) (os : List OpenNode) where
  -- the nodes with the new one
  abbrev More : List Begun
  More = nodes ++ record { sort = sort; values = [] } ∷ []

  new_empty : values_so_far More (length nodes) ≡ []
  new_empty =
      let e : get_or More (length nodes) no_begun ≡ record { sort = sort; values = [] } = rw (← add-zero (length nodes)) (get_or-append-add nodes (record { sort = sort; values = [] } ∷ []) 0 no_begun) in
      ap (λ (b : Begun). b.values) e

  old_same : (i : ℕ) → i < length nodes → values_so_far More i ≡ values_so_far nodes i
  old_same i low = ap (λ (b : Begun). b.values) (get_or_append_left nodes (record { sort = sort; values = [] } ∷ []) no_begun i low)

  at_new : (i : ℕ) (rests : List (List Value)) (r : List Value) → AreOpen (length nodes) os → values_at g (length nodes) ≡ r → ((i : ℕ) → i < length nodes → values_at g i ≡ values_so_far nodes i ++ owed i os rests) → i < length More → values_at g i ≡ values_so_far More i ++ (share i (length nodes) r ++ owed i os rests)
  at_new i rests r sane is old h = elim (cases_eq i (length nodes)) [
    | inl e ↦ rw (share_here i (length nodes) r e, e, owed_past (length nodes) os rests sane, new_empty) (is ∙ sym (append-nil r))
    | inr ne ↦ let bound = simp length-append at h in let below : i < length nodes = omega (arith, bound) in rw (share_there i (length nodes) r ne, old_same i below) (old i below)
  ]

  begin_open : (lacks : Lacks) (after ss : List Symbol) → AreOpen (length nodes) os → LacksFit lacks (length (values_at g (length nodes))) → after ≡ behind lacks ss → Lacking g roots wanted nodes os ss → Lacking g roots wanted More (record { node = length nodes; lacks = lacks } ∷ os) (values_then (values_at g (length nodes)) after)
  begin_open lacks after ss sane fits e p = record {
    rests = values_at g (length nodes) ∷ p.rests;
    last = p.last;
    fit = (fits, p.fit);
    rest = ap (λ x. values_then (values_at g (length nodes)) x) (e ∙ ap (behind lacks) p.rest);
    roots_are = p.roots_are;
    wants = p.wants;
    values_are = λ i h. at_new i p.rests (values_at g (length nodes)) sane refl p.values_are h ∙ rw (owed_first i (record { node = length nodes; lacks = lacks }) os (values_at g (length nodes)) p.rests) refl;
  }

  pub begin : (lacks : Lacks) (ss : List Symbol) → AreOpen (length nodes) os → LacksAll lacks (length (values_at g (length nodes))) → Lacking g roots wanted nodes os ss → Lacking g roots wanted More (with_open lacks (length nodes) os) (values_then (values_at g (length nodes)) (behind lacks ss))
  begin ToEnd ss sane is p = begin_open ToEnd (End ∷ ss) ss sane tt refl p
  begin Mate ss sane is p = absurd is
  begin Key ss sane is p = begin_open Key (End ∷ ss) ss sane is refl p
  begin (Count zero) ss sane is p =
      let e : values_at g (length nodes) ≡ [] = nothing _ (sym is) in
      rw e (record {
        rests = p.rests;
        last = p.last;
        fit = p.fit;
        rest = p.rest;
        roots_are = p.roots_are;
        wants = p.wants;
        values_are = λ i h. at_new i p.rests [] sane e p.values_are h ∙ rw (share_none i (length nodes)) refl;
      })
  begin (Count (suc k)) ss sane is p = rw (some_count k (length nodes) os) (begin_open (Count (suc k)) ss ss sane (is, omega arith) refl p)

  -- and back
  is_whole : (rests : List (List Value)) (r : List Value) → AreOpen (length nodes) os → ((i : ℕ) → i < length More → values_at g i ≡ values_so_far More i ++ (share i (length nodes) r ++ owed i os rests)) → values_at g (length nodes) ≡ r
  is_whole rests r sane new =
      let below : length nodes < length More = simp length-append (omega arith) in
      let e = new (length nodes) below in
      (rw (share_here (length nodes) (length nodes) r refl, owed_past (length nodes) os rests sane, new_empty) at e) ∙ append-nil r

  older : (rests : List (List Value)) (r : List Value) → ((i : ℕ) → i < length More → values_at g i ≡ values_so_far More i ++ (share i (length nodes) r ++ owed i os rests)) → (i : ℕ) → i < length nodes → values_at g i ≡ values_so_far nodes i ++ owed i os rests
  older rests r new i below =
      let more : i < length More = simp length-append (omega arith) in
      let ne : i ≡ length nodes → ⊥ = λ e. omega arith in
      rw (share_there i (length nodes) r ne, old_same i below) at (new i more)

  -- a node that had begun was lacking before
  pub record Began (lacks : Lacks) (after : List Symbol) : Type 0 where
    pub ss : List Symbol
    pub rest : after ≡ values_then (values_at g (length nodes)) (behind lacks ss)
    pub is : LacksAll lacks (length (values_at g (length nodes)))
    pub lacking : Lacking g roots wanted nodes os ss

  unbegin_by : (lacks : Lacks) (after : List Symbol) (rests : List (List Value)) (last : List Value) → AreOpen (length nodes) os → ((n : ℕ) → LacksFit lacks n → LacksAll lacks n) → AllFit (record { node = length nodes; lacks = lacks } ∷ os) rests → after ≡ to_come (record { node = length nodes; lacks = lacks } ∷ os) rests last → g.roots ≡ roots ++ last → length last ≡ wanted → ((i : ℕ) → i < length More → values_at g i ≡ values_so_far More i ++ owed i (record { node = length nodes; lacks = lacks } ∷ os) rests) → Began lacks after
  unbegin_by lacks after [] last sane is fit e roots_are wants new = absurd fit
  unbegin_by lacks after (r ∷ rs) last sane is fit e roots_are wants new =
      let new' : (i : ℕ) → i < length More → values_at g i ≡ values_so_far More i ++ (share i (length nodes) r ++ owed i os rs) = λ i h. new i h ∙ rw (owed_first i (record { node = length nodes; lacks = lacks }) os r rs) refl in
      let w = is_whole rs r sane new' in
      record {
        ss = to_come os rs last;
        rest = rw w e;
        is = rw w (is (length r) fit.0);
        lacking = record {
          rests = rs;
          last = last;
          fit = fit.1;
          rest = refl;
          roots_are = roots_are;
          wants = wants;
          values_are = older rs r new';
        };
      }

  pub begin_back : (lacks : Lacks) (after : List Symbol) → MayBegin lacks → AreOpen (length nodes) os → Lacking g roots wanted More (with_open lacks (length nodes) os) after → Began lacks after
  begin_back ToEnd after may sane p = unbegin_by ToEnd after p.rests p.last sane (λ n h. tt) p.fit p.rest p.roots_are p.wants p.values_are
  begin_back Key after may sane p = unbegin_by Key after p.rests p.last sane (λ n h. h) p.fit p.rest p.roots_are p.wants p.values_are
  begin_back Mate after may sane p = absurd may
  begin_back (Count (suc k)) after may sane p =
      let q = subst (λ (x : List OpenNode). Lacking g roots wanted More x after) (some_count k (length nodes) os) p in
      unbegin_by (Count (suc k)) after q.rests q.last sane (λ n h. h.0) q.fit q.rest q.roots_are q.wants q.values_are
  begin_back (Count zero) after may sane p =
      let new : (i : ℕ) → i < length More → values_at g i ≡ values_so_far More i ++ (share i (length nodes) [] ++ owed i os p.rests) = λ i h. p.values_are i h ∙ rw (share_none i (length nodes)) refl in
      let w = is_whole p.rests [] sane new in
      record {
        ss = after;
        rest = rw w refl;
        is = rw w refl;
        lacking = record {
          rests = p.rests;
          last = p.last;
          fit = p.fit;
          rest = p.rest;
          roots_are = p.roots_are;
          wants = p.wants;
          values_are = older p.rests [] new;
        };
      }
