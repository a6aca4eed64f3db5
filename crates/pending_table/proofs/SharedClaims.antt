-- What a claim of a waiting id, and the end of it, leave of the model.
use Rattle.std.proofs.Common.{◌≡◌, ◌≢◌, ℕ, ◌+◌, ◌-◌, ◌<◌, ⊎_elim, Option, Some, None, List, [], ◌∷◌, ◌++◌, length, set, slice_get, sym, refl, ap, ◌∙◌, subst, arith}
use Rattle.pending_table.specs.DeskLogs.{opening, open_id}
use Rattle.pending_table.specs.SharedPlays.{claims_with, gives_up}
use Rattle.pending_table.specs.SharedRule.{Phase, free, waiting, claimed, done, taken, tag_of, claimed_below, IsNamed, IsFair, IsTimely, IsSeen, Sits, Works, ClaimsOnce, Ledger}
use Rattle.pending_table.specs.WindowLogs.{claim}
use Rattle.pending_table.specs.Words.{slot_of}
use Rattle.pending_table.proofs.SharedFrame.{one_element, either_set, set_here}
use Rattle.pending_table.proofs.SharedShows.{no_element}
use Rattle.pending_table.proofs.SharedTurns.{named_on, rooted_on, window_seen, window_moves}
use Rattle.pending_table.proofs.SharedWindowSteps.{once_still}
use Rattle.pending_table.proofs.Sitting.{get_snoc, get_last, get_longer}
use Rattle.pending_table.specs.declared.answers.Taken.{Taken}
use Rattle.pending_table.specs.declared.logs.Claim.{Claim}
use Rattle.pending_table.specs.declared.logs.Sight.{Sight}
use Rattle.pending_table.specs.declared.shared.parts.DeskPart.{DeskPart}
use Rattle.pending_table.specs.declared.shared.parts.WindowPart.{WindowPart}

module _ {R K : Type 0} (fits : K → ℕ → R → Type 0) (key : K) (slots : ℕ) (desks : List (DeskPart R)) (windows : List (WindowPart R)) (phases : List (Phase R)) (lost setter : ℕ) (ledger : Ledger fits key slots desks windows phases lost setter)
    (k : ℕ) (w : WindowPart R) (here : slice_get windows k ≡ Some w) (inside : k < length windows) (slot id : ℕ) (x : Taken R) (d : DeskPart R) (at : slice_get desks slot ≡ Some d) where
  -- the window claims an id that waits
  module _ (sights : List Sight) (idle : w.giving ≡ None) (there : slice_get phases slot ≡ Some waiting) (last : d.log.last ≡ id + 1) where
    -- a claim after the step is a claim of before, or the new one
    claim_after : {F : Type 0} (l i : ℕ) (u : WindowPart R) (a : Claim R) → slice_get (set windows k (claims_with id x sights w)) l ≡ Some u → slice_get u.log.claims i ≡ Some a
        → ((t : WindowPart R) → slice_get windows l ≡ Some t → slice_get t.log.claims i ≡ Some a → F) → (l ≡ k → i ≡ length w.log.claims → claim id x ≡ a → F) → F
    claim_after l i u a lu ia old new = ⊎_elim
        (λ (y : (l ≡ k) × (claims_with id x sights w ≡ u)). ⊎_elim (λ was. old w (ap (slice_get windows) y.0 ∙ here) was)
        (λ (z : (i ≡ length w.log.claims) × (claim id x ≡ a)). new y.0 z.0 z.1)
        (get_snoc w.log.claims (claim id x) a i (ap (λ (z : WindowPart R). slice_get z.log.claims i) y.1 ∙ ia)))
        (λ (y : (l ≢ k) × (slice_get windows l ≡ Some u)). old u y.1 ia) (either_set windows k l (claims_with id x sights w) u lu)

    own_slot : slot_of slots id ≡ slot
    own_slot =
        let sits = ledger.sits slot d waiting at there in
        let is : id ≡ open_id d.log = omega arith in
        ap (slot_of slots) is ∙ (sits.own (length d.log.ended) (opening (open_id d.log) d.log.deadline) (sits.newest sits.is_open)).1

    -- no window has claimed the id before
    unclaimed : (l i : ℕ) (t : WindowPart R) (a : Claim R) → slice_get windows l ≡ Some t → slice_get t.log.claims i ≡ Some a → a.id ≢ id
    unclaimed l i t a lt ia same =
        let was = ((ledger.works l t lt).older i a ia d waiting (ap (λ (n : ℕ). slice_get desks (slot_of slots n)) same ∙ (ap (slice_get desks) own_slot ∙ at)) (ap (λ (n : ℕ). slice_get phases (slot_of slots n)) same ∙ (ap (slice_get phases) own_slot ∙ there))).0 in
        let low : a.id < d.log.last - 1 = was in omega arith

    claims_stay : (i : ℕ) (c : Claim R) → slice_get w.log.claims i ≡ Some c → slice_get (w.log.claims ++ claim id x ∷ []) i ≡ Some c
    claims_stay i c is = get_longer w.log.claims (claim id x ∷ []) i c is

    desk_there : (f : DeskPart R) → slice_get desks (slot_of slots id) ≡ Some f → d ≡ f
    desk_there f fe = one_element d f (sym at ∙ (ap (slice_get desks) (sym own_slot) ∙ fe))

    phase_there : (r : Phase R) → slice_get (set phases slot (claimed k x)) (slot_of slots id) ≡ Some r → claimed k x ≡ r
    phase_there r re = ⊎_elim (λ (y : (slot_of slots id ≡ slot) × (claimed k x ≡ r)). y.1)
        (λ (y : (slot_of slots id ≢ slot) × (slice_get phases (slot_of slots id) ≡ Some r)). absurd (y.0 own_slot)) (either_set phases slot (slot_of slots id) (claimed k x) r re)

    same_giving : (j : ℕ) (y : Taken R) → ◌≡◌ {A = Option (ℕ × Taken R)} (Some (id, x)) (Some (j, y)) → ◌≡◌ {A = ℕ × Taken R} (id, x) (j, y)
    same_giving j y is = one_element {A = ℕ × Taken R} (id, x) (j, y) is

    works_claimed : IsFair fits key slots id x → IsTimely fits key slots d id x → ((i : ℕ) (sight : Sight) → slice_get sights i ≡ Some sight → IsSeen fits key slots desks phases sight)
        → Works fits key slots desks (set phases slot (claimed k x)) lost setter k (claims_with id x sights w)
    works_claimed fair timely sees =
        let o = ledger.works k w here in record {
          number_is = o.number_is;
          fair = λ i c ic. ⊎_elim (o.fair i c) (λ (new : (i ≡ length w.log.claims) × (claim id x ≡ c)). subst (λ (y : Claim R). IsFair fits key slots y.id y.given) new.1 fair) (get_snoc w.log.claims (claim id x) c i ic);
          older = λ i c ic f r fe re. ⊎_elim
              (λ old. ⊎_elim
              (λ (y : (slot_of slots c.id ≡ slot) × (claimed k x ≡ r)).
              let was = o.older i c old d waiting (ap (slice_get desks) y.0 ∙ at) (ap (slice_get phases) y.0 ∙ there) in
              let low : c.id < d.log.last - 1 = was.0 in
              let less : c.id < d.log.last = omega arith in
              let same : d ≡ f = one_element d f (sym at ∙ (ap (slice_get desks) (sym y.0) ∙ fe)) in
              subst (λ (z : DeskPart R × Phase R). (c.id < claimed_below z.0.log.last z.1) × IsTimely fits key slots z.0 c.id c.given) (λ j. (same j, y.1 j)) (less, was.1))
              (λ (y : (slot_of slots c.id ≢ slot) × (slice_get phases (slot_of slots c.id) ≡ Some r)). o.older i c old f r fe y.1) (either_set phases slot (slot_of slots c.id) (claimed k x) r re))
              (λ (new : (i ≡ length w.log.claims) × (claim id x ≡ c)).
              let num : id ≡ c.id = ap (λ (y : Claim R). y.id) new.1 in
              let same = desk_there f (ap (λ (n : ℕ). slice_get desks (slot_of slots n)) num ∙ fe) in
              let turn = phase_there r (ap (λ (n : ℕ). slice_get (set phases slot (claimed k x)) (slot_of slots n)) num ∙ re) in
              let less : id < d.log.last = omega arith in
              subst (λ (z : DeskPart R × Phase R × Claim R). (z.2.id < claimed_below z.0.log.last z.1) × IsTimely fits key slots z.0 z.2.id z.2.given) (λ j. (same j, turn j, new.1 j)) (less, timely))
              (get_snoc w.log.claims (claim id x) c i ic);
          gives = λ j y is f r fe re.
              let both = same_giving j y is in
              let num : id ≡ j = ap (λ (z : ℕ × Taken R). z.0) both in
              let same = desk_there f (ap (λ (n : ℕ). slice_get desks (slot_of slots n)) num ∙ fe) in
              let turn = phase_there r (ap (λ (n : ℕ). slice_get (set phases slot (claimed k x)) (slot_of slots n)) num ∙ re) in
              (sym turn ∙ ap (λ (z : ℕ × Taken R). claimed k z.1) both, ap (λ (z : DeskPart R). z.log.last) (sym same) ∙ (last ∙ ap (λ (n : ℕ). n + 1) num));
          named = λ j y is. (length w.log.claims, get_last w.log.claims (claim id x) ∙ ap (λ (z : ℕ × Taken R). Some (claim z.0 z.1)) (same_giving j y is));
          sees = λ i s is. window_seen fits key slots desks phases slot waiting (claimed k x) there (λ _. refl) s (sees i s is);
          set_is = o.set_is;
          kept_is = o.kept_is;
        }

    sits_claimed : Sits fits key slots (set windows k (claims_with id x sights w)) lost slot d (claimed k x)
    sits_claimed =
        let s = ledger.sits slot d waiting at there in
        let is : id ≡ open_id d.log = omega arith in record {
          number = s.number;
          is_open = s.is_open;
          took = s.took;
          small = s.small;
          begun = s.begun;
          counted = s.counted;
          own = s.own;
          rising = s.rising;
          newest = s.newest;
          settled = λ i e at_end. let was = s.settled i e at_end in
              (was.0, rooted_on fits key slots windows k w (claims_with id x sights w) lost e.id (named_on fits key slots windows k w (claims_with id x sights w) here inside claims_stay e.id) e.end was.1);
          turn = (claims_with id x sights w, set_here windows k (claims_with id x sights w) inside, ap (λ (n : ℕ). Some (n, x)) is);
          asked = s.asked;
        }

    claimed_once : ClaimsOnce fits key slots (set windows k (claims_with id x sights w))
    claimed_once j m i n s t a b js mt ia nb e = claim_after {F = (j ≡ m) × (i ≡ n)} j i s a js ia
        (λ s' js' ia'. claim_after {F = (j ≡ m) × (i ≡ n)} m n t b mt nb (λ t' mt' nb'. ledger.once j m i n s' t' a b js' mt' ia' nb' e)
        (λ mk nl ca. absurd (unclaimed j i s' a js' ia' (e ∙ ap (λ (y : Claim R). y.id) (sym ca)))))
        (λ jk il ca. claim_after {F = (j ≡ m) × (i ≡ n)} m n t b mt nb (λ t' mt' nb'. absurd (unclaimed m n t' b mt' nb' (sym e ∙ ap (λ (y : Claim R). y.id) (sym ca))))
        (λ mk nl cb. (jk ∙ sym mk, il ∙ sym nl)))

    pub claimed_ledger : IsFair fits key slots id x → IsTimely fits key slots d id x → ((i : ℕ) (sight : Sight) → slice_get sights i ≡ Some sight → IsSeen fits key slots desks phases sight)
        → Ledger fits key slots desks (set windows k (claims_with id x sights w)) (set phases slot (claimed k x)) lost setter
    claimed_ledger fair timely sees =
        window_moves fits key slots desks windows phases lost setter ledger k w (claims_with id x sights w) here inside slot d waiting (claimed k x) at there (works_claimed fair timely sees) sits_claimed
        (record {
          adds = claims_stay;
          bounds = λ n low. let less : n < d.log.last - 1 = low in let up : n < d.log.last = omega arith in up;
          others = λ other y no is. let z : 1 ≡ 2 = ap tag_of is in absurd (omega arith);
          waits_on = λ _. refl;
          gives_on = λ j y is no. absurd (no_element {A = ℕ × Taken R} (j, y) (sym idle ∙ is));
        })
        claimed_once

  -- the window has put the value in, and the id is done
  module _ (gives : w.giving ≡ Some (id, x)) (place : slot_of slots id ≡ slot) (there : slice_get phases slot ≡ Some (claimed k x)) where
    pub given_ledger : Ledger fits key slots desks (set windows k (gives_up w)) (set phases slot (done x)) lost setter
    given_ledger =
        let o = ledger.works k w here in
        let s = ledger.sits slot d (claimed k x) at there in
        let own = o.named id x gives in
        let last : d.log.last ≡ id + 1 = (o.gives id x gives d (claimed k x) (ap (slice_get desks) place ∙ at) (ap (slice_get phases) place ∙ there)).1 in
        let is : id ≡ open_id d.log = omega arith in
        let v : WindowPart R = gives_up w in
        window_moves fits key slots desks windows phases lost setter ledger k w v here inside slot d (claimed k x) (done x) at there
        (record {
          number_is = o.number_is;
          fair = o.fair;
          older = λ i c ic f r fe re. ⊎_elim
              (λ (y : (slot_of slots c.id ≡ slot) × (done x ≡ r)).
              let was = o.older i c ic d (claimed k x) (ap (slice_get desks) y.0 ∙ at) (ap (slice_get phases) y.0 ∙ there) in
              let same : d ≡ f = one_element d f (sym at ∙ (ap (slice_get desks) (sym y.0) ∙ fe)) in
              subst (λ (z : DeskPart R × Phase R). (c.id < claimed_below z.0.log.last z.1) × IsTimely fits key slots z.0 c.id c.given) (λ j. (same j, y.1 j)) was)
              (λ (y : (slot_of slots c.id ≢ slot) × (slice_get phases (slot_of slots c.id) ≡ Some r)). o.older i c ic f r fe y.1) (either_set phases slot (slot_of slots c.id) (done x) r re);
          gives = λ j y no. absurd (no_element {A = ℕ × Taken R} (j, y) no);
          named = λ j y no. absurd (no_element {A = ℕ × Taken R} (j, y) no);
          sees = λ i sight at_sight. window_seen fits key slots desks phases slot (claimed k x) (done x) there (λ waits. let z : 3 ≡ 1 = ap tag_of waits in absurd (omega arith)) sight (o.sees i sight at_sight);
          set_is = o.set_is;
          kept_is = o.kept_is;
        })
        (record {
          number = s.number;
          is_open = s.is_open;
          took = s.took;
          small = s.small;
          begun = s.begun;
          counted = s.counted;
          own = s.own;
          rising = s.rising;
          newest = s.newest;
          settled = λ i e at_end. let was = s.settled i e at_end in (was.0, rooted_on fits key slots windows k w v lost e.id (named_on fits key slots windows k w v here inside (λ i c ic. ic) e.id) e.end was.1);
          turn = subst (λ (n : ℕ). IsNamed fits key slots (set windows k v) n x) is (k, v, set_here windows k v inside, own);
          asked = s.asked;
        })
        (record {
          adds = λ i c ic. ic;
          bounds = λ n low. low;
          others = λ other y no is. absurd (no (other_claimer other y is));
          waits_on = λ waits. let z : 3 ≡ 1 = ap tag_of waits in absurd (omega arith);
          gives_on = λ j y is no. absurd (no (ap (λ (z : ℕ × Taken R). slot_of slots z.0) (one_element {A = ℕ × Taken R} (j, y) (id, x) (sym is ∙ gives)) ∙ place));
        })
        (once_still fits key slots windows k w v here refl ledger.once)
      where
        other_claimer : (other : ℕ) (y : Taken R) → claimed k x ≡ claimed other y → other ≡ k
        other_claimer other y e = sym (ap (λ (p : Phase R). elim p as (λ _. ℕ) [ free ↦ k | waiting ↦ k | claimed l z ↦ l | done z ↦ k | taken z ↦ k ]) e)
