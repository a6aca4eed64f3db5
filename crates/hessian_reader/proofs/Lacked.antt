-- A value that was given was lacking before.
use Rattle.std.proofs.Common.{◌≡◌, ℕ, zero, suc, ◌-◌, ◌<◌, false, List, [], ◌∷◌, ◌++◌, length, refl, ap, sym, ◌∙◌, subst, append_assoc, arith}
use Rattle.std.proofs.lemmas.Bool.{lt-leb, eqb-false}
use Rattle.hessian_graph.specs.declared.value.Value.{Value}
use Rattle.hessian_graph.specs.Shape.{Shape, values_at}
use Rattle.hessian_graph.specs.Line.{Symbol, ValueOf, values_then}
use Rattle.hessian_reader.specs.declared.store.Lacks.{Lacks}
use Rattle.hessian_reader.specs.declared.store.OpenNode.{OpenNode}
use Rattle.hessian_reader.specs.States.{Built, ToEnd, Count, Key, Mate, values_so_far, with_item, one_less, with_value, lacks_none}
use Rattle.hessian_reader.proofs.Lacking.{even_more, odd_more, LacksFit, AllFit, Positive, AreOpen, behind, to_come, share, share_none, owed, owed_first, item_length, takes_first, Lacking, Lacks'}

module _ (g : Shape) (b : Built) (v : Value) (ss : List Symbol) where
  -- what the graph says of the values once the node has one more
  abbrev Says : ℕ → List OpenNode → List (List Value) → Type 0
  Says n os rs = (i : ℕ) → i < length (with_item b.nodes n v) → values_at g i ≡ values_so_far (with_item b.nodes n v) i ++ owed i os rs

  back_root : (rests : List (List Value)) (last : List Value) → 0 < b.wanted → AllFit [] rests → ss ≡ to_come [] rests last → g.roots ≡ (b.roots ++ v ∷ []) ++ last → length last ≡ b.wanted - 1 → ((i : ℕ) → i < length b.nodes → values_at g i ≡ values_so_far b.nodes i ++ owed i [] rests) → Lacking g b.roots b.wanted b.nodes [] (ValueOf v ∷ ss)
  back_root rests last some fit e roots wants says = record {
    rests = rests;
    last = v ∷ last;
    fit = fit;
    rest = ap (λ x. ValueOf v ∷ x) e;
    roots_are = roots ∙ append_assoc b.roots (v ∷ []) last;
    wants = omega arith;
    values_are = says;
  }

  -- the innermost node lacked the value, and then these
  back_one : (n : ℕ) (lacks : Lacks) (os : List OpenNode) (r : List Value) (rs : List (List Value)) (last : List Value) → n < length b.nodes → LacksFit lacks (suc (length r)) → AllFit os rs → ss ≡ values_then r (behind lacks (to_come os rs last)) → g.roots ≡ b.roots ++ last → length last ≡ b.wanted → ((i : ℕ) → i < length b.nodes → values_at g i ≡ values_so_far (with_item b.nodes n v) i ++ (share i n r ++ owed i os rs)) → Lacking g b.roots b.wanted b.nodes (record { node = n; lacks = lacks } ∷ os) (ValueOf v ∷ ss)
  back_one n lacks os r rs last low fits fit e roots wants says = record {
    rests = (v ∷ r) ∷ rs;
    last = last;
    fit = (fits, fit);
    rest = ap (λ x. ValueOf v ∷ x) e;
    roots_are = roots;
    wants = wants;
    values_are = λ i h. says i h ∙ sym (takes_first b.nodes n i v r (owed i os rs) low) ∙ rw (owed_first i (record { node = n; lacks = lacks }) os (v ∷ r) rs) refl;
  }

  back_on : (n : ℕ) (lacks after : Lacks) (os : List OpenNode) (rests : List (List Value)) (last : List Value) → n < length b.nodes → ((k : ℕ) → LacksFit after k → LacksFit lacks (suc k)) → ((xs : List Symbol) → behind after xs ≡ behind lacks xs) → AllFit (record { node = n; lacks = after } ∷ os) rests → ss ≡ to_come (record { node = n; lacks = after } ∷ os) rests last → g.roots ≡ b.roots ++ last → length last ≡ b.wanted → Says n (record { node = n; lacks = after } ∷ os) rests → Lacking g b.roots b.wanted b.nodes (record { node = n; lacks = lacks } ∷ os) (ValueOf v ∷ ss)
  back_on n lacks after os [] last low fits same fit e roots wants says = absurd fit
  back_on n lacks after os (r ∷ rs) last low fits same fit e roots wants says =
      back_one n lacks os r rs last low (fits (length r) fit.0) fit.1 (e ∙ ap (values_then r) (same (to_come os rs last))) roots wants
      (λ i h. says i (subst (λ m. i < m) (sym (item_length b.nodes n v)) h) ∙ rw (owed_first i (record { node = n; lacks = after }) os r rs) refl)

  back_open : (n : ℕ) (lacks : Lacks) (os : List OpenNode) → n < length b.nodes → Positive lacks → Lacks' g (with_value (record { node = n; lacks = lacks } ∷ os) v b) ss → Lacking g b.roots b.wanted b.nodes (record { node = n; lacks = lacks } ∷ os) (ValueOf v ∷ ss)
  back_open n ToEnd os low positive p = back_on n ToEnd ToEnd os p.rests p.last low (λ k _. tt) (λ x. refl) p.fit p.rest p.roots_are p.wants p.values_are
  back_open n Key os low positive p = back_on n Key Mate os p.rests p.last low (λ k h. even_more k h) (λ x. refl) p.fit p.rest p.roots_are p.wants p.values_are
  back_open n Mate os low positive p = back_on n Mate Key os p.rests p.last low (λ k h. odd_more k h) (λ x. refl) p.fit p.rest p.roots_are p.wants p.values_are
  back_open n (Count zero) os low positive p = absurd (omega arith)
  back_open n (Count (suc zero)) os low positive p = back_one n (Count 1) os [] p.rests p.last low (refl, omega arith) p.fit p.rest p.roots_are p.wants (λ i h. p.values_are i (subst (λ m. i < m) (sym (item_length b.nodes n v)) h) ∙ rw (share_none i n) refl)
  back_open n (Count (suc (suc k))) os low positive p =
      let e : one_less (Count (suc (suc k))) n os ≡ record { node = n; lacks = Count (suc k) } ∷ os = rw (lt-leb (suc (suc k)) 1 (omega arith)) (let d : suc (suc k) - 1 ≡ suc k = omega arith in ap (λ j. record { node = n; lacks = Count j } ∷ os) d) in
      let q = subst (λ (x : List OpenNode). Lacking g b.roots b.wanted (with_item b.nodes n v) x ss) e p in
      back_on n (Count (suc (suc k))) (Count (suc k)) os q.rests q.last low (λ m h. (omega arith, omega arith)) (λ x. refl) q.fit q.rest q.roots_are q.wants q.values_are

  pub give_back : (os : List OpenNode) → AreOpen (length b.nodes) os → lacks_none os b.wanted ≡ false → Lacks' g (with_value os v b) ss → Lacking g b.roots b.wanted b.nodes os (ValueOf v ∷ ss)
  give_back [] sane some p = back_root p.rests p.last (let h = eqb-false b.wanted 0 some in omega (arith, h)) p.fit p.rest p.roots_are p.wants p.values_are
  give_back (o ∷ os) sane some p = back_open o.node o.lacks os sane.0 sane.1 p
