-- What a step of one window, which may move a slot on, leaves of the rest of the model.
use Rattle.std.proofs.Common.{◌≡◌, ◌≢◌, ℕ, ◌-◌, ◌<◌, ⊎_elim, Some, true, List, length, set, slice_get, sym, refl, ap, ◌∙◌, subst, arith, length-set}
use Rattle.pending_table.specs.DeskLogs.{opening}
use Rattle.pending_table.specs.SharedRule.{Phase, free, waiting, claimed, done, taken, is_open_in, claimed_below, IsNamed, IsRooted, HasTurn, IsTimely, IsSeen, Sits, Works, ClaimsOnce, Ledger}
use Rattle.pending_table.specs.WindowLogs.{claim}
use Rattle.pending_table.specs.Words.{slot_of}
use Rattle.pending_table.proofs.Scanning.{same_or}
use Rattle.pending_table.proofs.SharedFrame.{one_element, either_set, set_here, set_else}
use Rattle.pending_table.specs.declared.answers.Taken.{Taken}
use Rattle.pending_table.specs.declared.logs.Claim.{Claim}
use Rattle.pending_table.specs.declared.logs.End.{End}
use Rattle.pending_table.specs.declared.logs.End.TheVariants as end
use Rattle.pending_table.specs.declared.logs.Sight.{Sight}
use Rattle.pending_table.specs.declared.logs.Sight.TheVariants.{Word, Due, Claimed, Missed}
use Rattle.pending_table.specs.declared.shared.parts.DeskPart.{DeskPart}
use Rattle.pending_table.specs.declared.shared.parts.WindowPart.{WindowPart}

-- what others may know of a window and of the slot that it works on, before its step and after it
pub record WindowGoes {R : Type 0} (number slot slots last : ℕ) (w : WindowPart R) (p : Phase R) (v : WindowPart R) (q : Phase R) : Type 0 where
  pub adds : (place : ℕ) (c : Claim R) → slice_get w.log.claims place ≡ Some c → slice_get v.log.claims place ≡ Some c
  pub bounds : (id : ℕ) → id < claimed_below last p → id < claimed_below last q
  pub others : (other : ℕ) (x : Taken R) → other ≢ number → p ≡ claimed other x → q ≡ claimed other x
  pub waits_on : q ≡ waiting → p ≡ waiting
  pub gives_on : (id : ℕ) (x : Taken R) → w.giving ≡ Some (id, x) → slot_of slots id ≢ slot → v.giving ≡ Some (id, x)

module _ {R K : Type 0} (fits : K → ℕ → R → Type 0) (key : K) (slots : ℕ) (windows : List (WindowPart R)) (k : ℕ) (w v : WindowPart R) where
  -- a value that a window names is named still
  pub named_on : slice_get windows k ≡ Some w → k < length windows → ((place : ℕ) (c : Claim R) → slice_get w.log.claims place ≡ Some c → slice_get v.log.claims place ≡ Some c)
      → (id : ℕ) (x : Taken R) → IsNamed fits key slots windows id x → IsNamed fits key slots (set windows k v) id x
  named_on here inside adds id x is =
      ⊎_elim
      (λ same. let own : is.1 ≡ w = one_element is.1 w (sym is.2 ∙ (ap (slice_get windows) same ∙ here)) in
      (k, v, set_here windows k v inside, (is.3.0, adds is.3.0 (claim id x) (ap (λ (y : WindowPart R). slice_get y.log.claims is.3.0) (sym own) ∙ is.3.1))))
      (λ other. (is.0, is.1, set_else windows k is.0 v other ∙ is.2, is.3)) (same_or is.0 k)

  pub rooted_on : (lost id : ℕ) → ((x : Taken R) → IsNamed fits key slots windows id x → IsNamed fits key slots (set windows k v) id x) → (e : End R) → IsRooted fits key slots windows lost id e → IsRooted fits key slots (set windows k v) lost id e
  rooted_on lost id on (end.Ready x) is = on x is
  rooted_on lost id on (end.Lost n) is = is
  rooted_on lost id on end.Freed is = is

  turn_on : (slot last : ℕ) (p q : Phase R) → slice_get windows k ≡ Some w → k < length windows → WindowGoes k slot slots last w p v q → (id : ℕ) (r : Phase R) → (is_open_in r ≡ true → slot_of slots id ≢ slot)
      → HasTurn fits key slots windows id r → HasTurn fits key slots (set windows k v) id r
  turn_on slot last p q here inside goes id free away turn = tt
  turn_on slot last p q here inside goes id waiting away turn = tt
  turn_on slot last p q here inside goes id (claimed l x) away turn =
      ⊎_elim
      (λ same. let own : turn.0 ≡ w = one_element turn.0 w (sym turn.1 ∙ (ap (slice_get windows) same ∙ here)) in
      (v, ap (slice_get (set windows k v)) same ∙ set_here windows k v inside, goes.gives_on id x (ap (λ (y : WindowPart R). y.giving) (sym own) ∙ turn.2) (away refl)))
      (λ other. (turn.0, set_else windows k l v other ∙ turn.1, turn.2)) (same_or l k)
  turn_on slot last p q here inside goes id (done x) away turn = named_on here inside goes.adds id x turn
  turn_on slot last p q here inside goes id (taken x) away turn = named_on here inside goes.adds id x turn

  -- the desk of another slot sits as it did
  pub sits_on : (lost slot last : ℕ) (p q : Phase R) → slice_get windows k ≡ Some w → k < length windows → WindowGoes k slot slots last w p v q → (j : ℕ) → j ≢ slot → (d : DeskPart R) (r : Phase R)
      → Sits fits key slots windows lost j d r → Sits fits key slots (set windows k v) lost j d r
  sits_on lost slot last p q here inside goes j other d r sits = record {
    number = sits.number;
    is_open = sits.is_open;
    took = sits.took;
    small = sits.small;
    begun = sits.begun;
    counted = sits.counted;
    own = sits.own;
    rising = sits.rising;
    newest = sits.newest;
    settled = λ i e is. let was = sits.settled i e is in (was.0, rooted_on lost e.id (named_on here inside goes.adds e.id) e.end was.1);
    turn = turn_on slot last p q here inside goes (d.log.last - 1) r
        (λ is same. other (sym (sits.own (length d.log.ended) (opening (d.log.last - 1) d.log.deadline) (sits.newest (sits.is_open ∙ is))).1 ∙ same)) sits.turn;
    asked = sits.asked;
  }

module _ {R K : Type 0} (fits : K → ℕ → R → Type 0) (key : K) (slots : ℕ) where
  pub window_seen : (desks : List (DeskPart R)) (phases : List (Phase R)) (slot : ℕ) (p q : Phase R) → slice_get phases slot ≡ Some p → (q ≡ waiting → p ≡ waiting) → (s : Sight) → IsSeen fits key slots desks phases s → IsSeen fits key slots desks (set phases slot q) s
  window_seen desks phases slot p q ph on (Word s word) old = old
  window_seen desks phases slot p q ph on (Due s id deadline) old = λ f r fe re.
      ⊎_elim (λ (x : (s ≡ slot) × (q ≡ r)). let was = old f p fe (ap (slice_get phases) x.0 ∙ ph) in (was.0, (λ last waits. was.1 last (on (x.1 ∙ waits)))))
      (λ (x : (s ≢ slot) × (slice_get phases s ≡ Some r)). old f r fe x.1) (either_set phases slot s q r re)
  window_seen desks phases slot p q ph on (Claimed s id deadline) old = old
  window_seen desks phases slot p q ph on (Missed s id deadline word) old = old

  -- after a step of one window the ledger holds, if that window works, the slot's desk sits, and no id is claimed twice
  pub window_moves : (desks : List (DeskPart R)) (windows : List (WindowPart R)) (phases : List (Phase R)) (lost setter : ℕ) → Ledger fits key slots desks windows phases lost setter
      → (k : ℕ) (w v : WindowPart R) → slice_get windows k ≡ Some w → k < length windows → (slot : ℕ) (d : DeskPart R) (p q : Phase R) → slice_get desks slot ≡ Some d → slice_get phases slot ≡ Some p
      → Works fits key slots desks (set phases slot q) lost setter k v → Sits fits key slots (set windows k v) lost slot d q → WindowGoes k slot slots d.log.last w p v q → ClaimsOnce fits key slots (set windows k v)
      → Ledger fits key slots desks (set windows k v) (set phases slot q) lost setter
  window_moves desks windows phases lost setter ledger k w v here inside slot d p q at ph works sits goes once = record {
    desk_count = ledger.desk_count;
    phase_count = length-set phases slot q ∙ ledger.phase_count;
    window_count = length-set windows k v ∙ ledger.window_count;
    some_slot = ledger.some_slot;
    sits = λ j f r fe re.
        ⊎_elim
        (λ (x : (j ≡ slot) × (q ≡ r)). let same : d ≡ f = one_element d f (sym at ∙ (ap (slice_get desks) (sym x.0) ∙ fe)) in
        subst (λ (y : ℕ × DeskPart R × Phase R). Sits fits key slots (set windows k v) lost y.0 y.1 y.2) (λ i. (sym x.0 i, same i, x.1 i)) sits)
        (λ (x : (j ≢ slot) × (slice_get phases j ≡ Some r)). sits_on fits key slots windows k w v lost slot d.log.last p q here inside goes j x.0 f r (ledger.sits j f r fe x.1)) (either_set phases slot j q r re);
    works = λ j u uj.
        ⊎_elim
        (λ (x : (j ≡ k) × (v ≡ u)). subst (λ (y : ℕ × WindowPart R). Works fits key slots desks (set phases slot q) lost setter y.0 y.1) (λ i. (sym x.0 i, x.1 i)) works)
        (λ (x : (j ≢ k) × (slice_get windows j ≡ Some u)). let o = ledger.works j u x.1 in record {
          number_is = o.number_is;
          fair = o.fair;
          older = λ i c ic f r fe re.
              ⊎_elim
              (λ (y : (slot_of slots c.id ≡ slot) × (q ≡ r)).
              let same : d ≡ f = one_element d f (sym at ∙ (ap (slice_get desks) (sym y.0) ∙ fe)) in
              let was = o.older i c ic d p (ap (slice_get desks) y.0 ∙ at) (ap (slice_get phases) y.0 ∙ ph) in
              subst (λ (z : DeskPart R × Phase R). (c.id < claimed_below z.0.log.last z.1) × IsTimely fits key slots z.0 c.id c.given) (λ i. (same i, y.1 i)) (goes.bounds c.id was.0, was.1))
              (λ (y : (slot_of slots c.id ≢ slot) × (slice_get phases (slot_of slots c.id) ≡ Some r)). o.older i c ic f r fe y.1) (either_set phases slot (slot_of slots c.id) q r re);
          gives = λ id z g f r fe re.
              ⊎_elim
              (λ (y : (slot_of slots id ≡ slot) × (q ≡ r)). let was = o.gives id z g f p fe (ap (slice_get phases) y.0 ∙ ph) in (sym y.1 ∙ goes.others j z x.0 was.0, was.1))
              (λ (y : (slot_of slots id ≢ slot) × (slice_get phases (slot_of slots id) ≡ Some r)). o.gives id z g f r fe y.1) (either_set phases slot (slot_of slots id) q r re);
          named = o.named;
          sees = λ i s is. window_seen desks phases slot p q ph goes.waits_on s (o.sees i s is);
          set_is = o.set_is;
          kept_is = o.kept_is;
        })
        (either_set windows k j v u uj);
    once = once;
    setter_there = λ some_lost. let there = ledger.setter_there some_lost in let count = length-set windows k v in omega arith;
  }
