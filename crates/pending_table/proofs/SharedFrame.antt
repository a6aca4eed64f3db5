-- What a step of one desk or of one window leaves of the rest of the model.
use Rattle.std.proofs.Common.{◌≡◌, ◌≢◌, ◌⊎◌, ℕ, zero, suc, ◌+◌, ◌/◌, ◌<◌, ◌≤◌, ⊎_elim, inl, inr, Option, Some, None, List, [], ◌∷◌, length, set, slice_get, sym, refl, ap, ◌∙◌, subst, arith, length-set}
use Rattle.pending_table.specs.DeskLogs.{opening}
use Rattle.pending_table.specs.SharedRule.{Phase, waiting, claimed, claimed_below, IsTimely, IsSeen, Sits, Ledger}
use Rattle.pending_table.specs.Words.{slot_of}
use Rattle.pending_table.specs.declared.answers.Taken.{Taken}
use Rattle.pending_table.specs.declared.logs.Opened.{Opened}
use Rattle.pending_table.specs.declared.logs.Sight.{Sight}
use Rattle.pending_table.specs.declared.logs.Sight.TheVariants.{Word, Due, Claimed, Missed}
use Rattle.pending_table.specs.declared.shared.parts.DeskPart.{DeskPart}
use Rattle.pending_table.specs.declared.shared.parts.WindowPart.{WindowPart}

module _ {A : Type 0} where
  none_some : (a : A) → None ≡ Some a → ⊥
  none_some a e = subst (λ (o : Option A). elim o as (λ _. Type 0) [ None ↦ Unit {0} | Some b ↦ ⊥ ]) e tt

  pub one_element : (a b : A) → Some a ≡ Some b → a ≡ b
  one_element a b e = ap (λ (o : Option A). elim o as (λ _. A) [ None ↦ a | Some c ↦ c ]) e

  -- an element of a list of which one was set
  pub either_set : (l : List A) (i j : ℕ) (a b : A) → slice_get (set l i a) j ≡ Some b → ((j ≡ i) × (a ≡ b)) ⊎ ((j ≢ i) × (slice_get l j ≡ Some b))
  either_set [] i j a b e = absurd (none_some b e)
  either_set (x ∷ xs) zero zero a b e = inl (refl, one_element a b e)
  either_set (x ∷ xs) zero (suc j) a b e = inr ((λ h. omega arith), e)
  either_set (x ∷ xs) (suc i) zero a b e = inr ((λ h. omega arith), e)
  either_set (x ∷ xs) (suc i) (suc j) a b e = ⊎_elim (λ t. inl (ap suc t.0, t.1)) (λ t. let n = t.0 in inr ((λ h. n (omega arith)), t.1)) (either_set xs i j a b e)

  pub set_here : (l : List A) (i : ℕ) (a : A) → i < length l → slice_get (set l i a) i ≡ Some a
  set_here [] i a inside = absurd (omega arith)
  set_here (x ∷ xs) zero a inside = refl
  set_here (x ∷ xs) (suc i) a inside = set_here xs i a (omega arith)

  pub set_else : (l : List A) (i j : ℕ) (a : A) → j ≢ i → slice_get (set l i a) j ≡ slice_get l j
  set_else [] i j a other = refl
  set_else (x ∷ xs) zero zero a other = absurd (other refl)
  set_else (x ∷ xs) zero (suc j) a other = refl
  set_else (x ∷ xs) (suc i) zero a other = refl
  set_else (x ∷ xs) (suc i) (suc j) a other = set_else xs i j a (λ e. other (ap suc e))

module _ {A B F : Type 0} where
  -- elements of two lists, in both of which the same place was set
  pub both_set : (l : List A) (m : List B) (i : ℕ) (a : A) (b : B) (j : ℕ) (x : A) (y : B) → slice_get (set l i a) j ≡ Some x → slice_get (set m i b) j ≡ Some y
      → (j ≡ i → a ≡ x → b ≡ y → F) → (j ≢ i → slice_get l j ≡ Some x → slice_get m j ≡ Some y → F) → F
  both_set l m i a b j x y ex ey here there =
      ⊎_elim (λ u. ⊎_elim (λ v. here u.0 u.1 v.1) (λ v. absurd (v.0 u.0)) (either_set m i j b y ey))
      (λ u. ⊎_elim (λ v. absurd (u.0 v.0)) (λ v. there u.0 u.1 v.1) (either_set m i j b y ey)) (either_set l i j a x ex)

-- what others may know of a desk and its slot, before a step of the desk and after it
pub record DeskGoes {R : Type 0} (d : DeskPart R) (p : Phase R) (e : DeskPart R) (q : Phase R) : Type 0 where
  pub rises : d.log.last ≤ e.log.last
  pub bounds : (id : ℕ) → id < claimed_below d.log.last p → id < claimed_below e.log.last q
  pub grows : (place : ℕ) (o : Opened) → slice_get d.log.opened place ≡ Some o → slice_get e.log.opened place ≡ Some o
  pub keeps_turn : (number : ℕ) (x : Taken R) → p ≡ claimed number x → (q ≡ claimed number x) × (e.log.last ≡ d.log.last)
  pub keeps_date : e.log.last ≡ d.log.last → q ≡ waiting → (p ≡ waiting) × (e.log.deadline ≡ d.log.deadline)

module _ {R K : Type 0} (fits : K → ℕ → R → Type 0) (key : K) (slots : ℕ) where
  -- a bound on a slot's last id outlasts a step of its desk
  bound_on : (desks : List (DeskPart R)) (slot : ℕ) (d e : DeskPart R) → slice_get desks slot ≡ Some d → d.log.last ≤ e.log.last → (n at : ℕ) → ((f : DeskPart R) → slice_get desks at ≡ Some f → n ≤ f.log.last)
      → (f : DeskPart R) → slice_get (set desks slot e) at ≡ Some f → n ≤ f.log.last
  bound_on desks slot d e here up n at old f fe =
      ⊎_elim (λ (x : (at ≡ slot) × (e ≡ f)). let low : n ≤ d.log.last = old d (ap (slice_get desks) x.0 ∙ here) in let same : e.log.last ≡ f.log.last = ap (λ (y : DeskPart R). y.log.last) x.1 in omega arith)
      (λ (x : (at ≢ slot) × (slice_get desks at ≡ Some f)). old f x.1) (either_set desks slot at e f fe)

  desk_seen : (desks : List (DeskPart R)) (phases : List (Phase R)) (slot : ℕ) (d : DeskPart R) (p : Phase R) (e : DeskPart R) (q : Phase R) → slice_get desks slot ≡ Some d → slice_get phases slot ≡ Some p → DeskGoes d p e q
      → (s : Sight) → IsSeen fits key slots desks phases s → IsSeen fits key slots (set desks slot e) (set phases slot q) s
  desk_seen desks phases slot d p e q at ph goes (Word s w) old = bound_on desks slot d e at goes.rises (w / 4) s old
  desk_seen desks phases slot d p e q at ph goes (Due s id deadline) old = λ f r fe re.
      both_set {F = (id + 1 ≤ f.log.last) × (f.log.last ≡ id + 1 → r ≡ waiting → f.log.deadline ≡ deadline)} desks phases slot e q s f r fe re
      (λ here ef qr.
      let was = old d p (ap (slice_get desks) here ∙ at) (ap (slice_get phases) here ∙ ph) in
      let up = goes.rises in
      let low : id + 1 ≤ d.log.last = was.0 in
      let same : e.log.last ≡ f.log.last = ap (λ (y : DeskPart R). y.log.last) ef in (
        omega arith,
        (λ last waits.
            let still : e.log.last ≡ d.log.last = omega arith in
            let back : d.log.last ≡ id + 1 = omega arith in
            let date = goes.keeps_date still (qr ∙ waits) in
            ap (λ (y : DeskPart R). y.log.deadline) (sym ef) ∙ (date.1 ∙ was.1 back date.0)),
      ))
      (λ other f' r'. old f r f' r')
  desk_seen desks phases slot d p e q at ph goes (Claimed s id deadline) old = bound_on desks slot d e at goes.rises (id + 1) s old
  desk_seen desks phases slot d p e q at ph goes (Missed s id deadline w) old = bound_on desks slot d e at goes.rises (id + 1) s old

  -- after a step of one desk the ledger holds, if that desk sits
  pub desk_moves : (desks : List (DeskPart R)) (windows : List (WindowPart R)) (phases : List (Phase R)) (lost setter : ℕ) → Ledger fits key slots desks windows phases lost setter
      → (slot : ℕ) (d : DeskPart R) (p : Phase R) (e : DeskPart R) (q : Phase R) → slice_get desks slot ≡ Some d → slice_get phases slot ≡ Some p
      → Sits fits key slots windows lost slot e q → DeskGoes d p e q → Ledger fits key slots (set desks slot e) windows (set phases slot q) lost setter
  desk_moves desks windows phases lost setter ledger slot d p e q at ph sits goes = record {
    desk_count = length-set desks slot e ∙ ledger.desk_count;
    phase_count = length-set phases slot q ∙ ledger.phase_count;
    window_count = ledger.window_count;
    some_slot = ledger.some_slot;
    sits = λ j f r fe re. both_set {F = Sits fits key slots windows lost j f r} desks phases slot e q j f r fe re
        (λ here ef qr. subst (λ (y : ℕ × DeskPart R × Phase R). Sits fits key slots windows lost y.0 y.1 y.2) (λ i. (sym here i, ef i, qr i)) sits)
        (λ other f' r'. ledger.sits j f r f' r');
    works = λ k w kw. let o = ledger.works k w kw in record {
      number_is = o.number_is;
      fair = o.fair;
      older = λ i c ic f r fe re. both_set {F = (c.id < claimed_below f.log.last r) × IsTimely fits key slots f c.id c.given} desks phases slot e q (slot_of slots c.id) f r fe re
          (λ here ef qr. let was = o.older i c ic d p (ap (slice_get desks) here ∙ at) (ap (slice_get phases) here ∙ ph) in
          subst (λ (y : DeskPart R × Phase R). (c.id < claimed_below y.0.log.last y.1) × IsTimely fits key slots y.0 c.id c.given) (λ j. (ef j, qr j))
          (goes.bounds c.id was.0, (λ deadline m is. let t = was.1 deadline m is in (t.0, goes.grows t.0 (opening c.id deadline) t.1))))
          (λ other f' r'. o.older i c ic f r f' r');
      gives = λ id x g f r fe re. both_set {F = (r ≡ claimed k x) × (f.log.last ≡ id + 1)} desks phases slot e q (slot_of slots id) f r fe re
          (λ here ef qr. let was = o.gives id x g d p (ap (slice_get desks) here ∙ at) (ap (slice_get phases) here ∙ ph) in
          let t = goes.keeps_turn k x was.0 in (sym qr ∙ t.0, ap (λ (y : DeskPart R). y.log.last) (sym ef) ∙ (t.1 ∙ was.1)))
          (λ other f' r'. o.gives id x g f r f' r');
      named = o.named;
      sees = λ i s is. desk_seen desks phases slot d p e q at ph goes s (o.sees i s is);
      set_is = o.set_is;
      kept_is = o.kept_is;
    };
    once = ledger.once;
    setter_there = ledger.setter_there;
  }
