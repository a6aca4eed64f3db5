-- What the rule says of the records of all desks and windows, once every desk is free.
use Rattle.std.proofs.Common.{◌≡◌, ◌≢◌, ℕ, zero, suc, ◌<◌, ⊎_elim, Some, Bool, false, true≢false, if◌then◌else◌, eq-eqb, ne_eqb, List, [], ◌∷◌, length, map, slice_get, sym, refl, ap, ◌∙◌, subst, arith}
use Rattle.pending_table.specs.Accounts.{IsBacked, IsAccounted}
use Rattle.pending_table.specs.Closing.{IsSettled, IsSuited, IsClosed}
use Rattle.pending_table.specs.DeskLogs.{opening, ending}
use Rattle.pending_table.specs.SharedRule.{Phase, free, waiting, claimed, done, taken, is_open_in, one_if, IsNamed, IsRooted, IsFair, IsTimely, Sits, Ledger}
use Rattle.pending_table.specs.Taken.{Suits}
use Rattle.pending_table.specs.WindowLogs.{claim}
use Rattle.pending_table.proofs.Scanning.{same_or}
use Rattle.pending_table.proofs.SharedDeskTurns.{in_order, opened_once}
use Rattle.pending_table.proofs.SharedFrame.{one_element}
use Rattle.pending_table.proofs.SharedShows.{no_element, get_inside, get_there}
use Rattle.pending_table.specs.declared.answers.Taken.{Taken}
use Rattle.pending_table.specs.declared.answers.Taken.TheVariants.{Reply, Timeout, Broken, NoMemory}
use Rattle.pending_table.specs.declared.logs.DeskLog.{DeskLog}
use Rattle.pending_table.specs.declared.logs.End.{End}
use Rattle.pending_table.specs.declared.logs.End.TheVariants as end
use Rattle.pending_table.specs.declared.logs.Opened.{Opened}
use Rattle.pending_table.specs.declared.logs.WindowLog.{WindowLog}
use Rattle.pending_table.specs.declared.shared.parts.DeskPart.{DeskPart}
use Rattle.pending_table.specs.declared.shared.parts.WindowPart.{WindowPart}

module _ {A B : Type 0} (f : A → B) where
  -- an element of a list of results is that of an element
  pub mapped : (l : List A) (i : ℕ) (b : B) → slice_get (map f l) i ≡ Some b → (a : A) × (slice_get l i ≡ Some a) × (f a ≡ b)
  mapped [] i b e = absurd (no_element b e)
  mapped (x ∷ xs) zero b e = (x, refl, one_element (f x) b e)
  mapped (x ∷ xs) (suc i) b e = mapped xs i b e

  pub map_at : (l : List A) (i : ℕ) (a : A) → slice_get l i ≡ Some a → slice_get (map f l) i ≡ Some (f a)
  map_at [] i a e = absurd (no_element a e)
  map_at (x ∷ xs) zero a e = ap (λ (y : A). Some (f y)) (one_element x a e)
  map_at (x ∷ xs) (suc i) a e = map_at xs i a e

abbrev pub the_log : {R : Type 0} → DeskPart R → DeskLog R
the_log desk = desk.log

module _ {R K : Type 0} (fits : K → ℕ → R → Type 0) (key : K) (slots : ℕ) (desks : List (DeskPart R)) (windows : List (WindowPart R)) (phases : List (Phase R)) (lost setter : ℕ) (ledger : Ledger fits key slots desks windows phases lost setter) where
  -- what backs an end in the rule backs it in the records
  backed : (id : ℕ) (e : End R) → IsRooted fits key slots windows lost id e → IsBacked (map (λ (w : WindowPart R). w.log) windows) id e
  backed id (end.Ready x) is = (is.0, is.1.log, map_at (λ (w : WindowPart R). w.log) windows is.0 is.1 is.2, is.3)
  backed id (end.Lost n) is =
      let w = get_there windows setter (ledger.setter_there (λ none. is.0 (is.1 ∙ none))) in
      let works = ledger.works setter w.0 w.1 in
      (is.0, (setter, w.0.log, map_at (λ (w : WindowPart R). w.log) windows setter w.0 w.1, works.set_is ∙ (ap (λ (b : Bool). if b then lost else 0) (eq-eqb setter setter refl) ∙ sym is.1)))
  backed id end.Freed is = tt

  module _ (slot : ℕ) (d : DeskPart R) (p : Phase R) (at : slice_get desks slot ≡ Some d) (there : slice_get phases slot ≡ Some p) (sits : Sits fits key slots windows lost slot d p) where
    fair_timely : (o : Opened) (place : ℕ) → slice_get d.log.opened place ≡ Some o → (x : Taken R) → IsFair fits key slots o.id x → IsTimely fits key slots d o.id x → Suits fits key o.id o.deadline x
    fair_timely o place is (Reply reply) fair timely = fair
    fair_timely o place is (Timeout deadline moment) fair timely =
        let t = timely deadline moment refl in
        (ap (λ (y : Opened). y.deadline) (opened_once fits key slots windows lost slot d p sits t.0 place (opening o.id deadline) o t.1 is refl), fair)
    fair_timely o place is (Broken k) fair timely = tt
    fair_timely o place is NoMemory fair timely = tt

    -- a value that a window named suits the id
    suits : (o : Opened) (place : ℕ) → slice_get d.log.opened place ≡ Some o → (x : Taken R) → IsNamed fits key slots windows o.id x → Suits fits key o.id o.deadline x
    suits o place is x named =
        let works = ledger.works named.0 named.1 named.2 in
        let own = (sits.own place o is).1 in
        let older = works.older named.3.0 (claim o.id x) named.3.1 d p (ap (slice_get desks) own ∙ at) (ap (slice_get phases) own ∙ there) in
        fair_timely o place is x (works.fair named.3.0 (claim o.id x) named.3.1) older.1

    pub suited : IsSuited fits key d.log
    suited place o x opens ends = suits o place opens x (sits.settled place (ending o.id (end.Ready x)) ends).1

    pub accounted : IsAccounted (map (λ (w : WindowPart R). w.log) windows) d.log
    accounted place e is = backed e.id e.end (sits.settled place e is).1

    pub settled : d.log.is_open ≡ false → IsSettled d.log
    settled shut =
        let all = sits.counted in
        let none : one_if d.log.is_open ≡ 0 = ap one_if shut in record {
          count = omega arith;
          each = λ place o is.
              let inside : place < length d.log.opened = get_inside d.log.opened place o is in
              let e = get_there d.log.ended place (omega arith) in
              let opens = (sits.settled place e.0 e.1).0 in
              let same : e.0.id ≡ o.id = ap (λ (y : Opened). y.id) (one_element (opening e.0.id opens.0) o (sym opens.1 ∙ is)) in
              (e.0.end, e.1 ∙ ap (λ (id : ℕ). Some (ending id e.0.end)) same);
          once = λ i j a b ai bj same. in_order i j
              (λ less. let up = sits.rising i j a b less ai bj in absurd (omega arith)) (λ one. one) (λ more. let up = sits.rising j i b a more bj ai in absurd (omega arith));
        }

  -- at a desk that is not open nobody has the slot's turn
  pub phase_free : (p : Phase R) (is_open : Bool) → is_open ≡ is_open_in p → is_open ≡ false → p ≡ free
  phase_free free is_open same shut = refl
  phase_free waiting is_open same shut = absurd (true≢false (sym same ∙ shut))
  phase_free (claimed number x) is_open same shut = absurd (true≢false (sym same ∙ shut))
  phase_free (done x) is_open same shut = absurd (true≢false (sym same ∙ shut))
  phase_free (taken x) is_open same shut = absurd (true≢false (sym same ∙ shut))

  -- the window that set a number is the setter
  sets : (k : ℕ) (w : WindowPart R) → slice_get windows k ≡ Some w → w.log.set ≢ 0 → k ≡ setter
  sets k w at some =
      ⊎_elim (λ same. same) (λ other. absurd (some ((ledger.works k w at).set_is ∙ ap (λ (b : Bool). if b then lost else 0) (ne_eqb k setter other)))) (same_or k setter)

  pub phase_of : (slot : ℕ) (d : DeskPart R) → slice_get desks slot ≡ Some d → (p : Phase R) × (slice_get phases slot ≡ Some p)
  phase_of slot d at = get_there phases slot (let inside = get_inside desks slot d at in let a = ledger.desk_count in let b = ledger.phase_count in omega arith)

  pub closes : ((i : ℕ) (d : DeskPart R) → slice_get desks i ≡ Some d → d.log.is_open ≡ false) → IsClosed fits key (map the_log desks) (map (λ (w : WindowPart R). w.log) windows)
  closes shut = record {
    settled = λ number log at.
        let d = mapped the_log desks number log at in
        let p = phase_of number d.0 d.1 in
        subst IsSettled d.2 (settled number d.0 p.0 d.1 p.1 (ledger.sits number d.0 p.0 d.1 p.1) (shut number d.0 d.1));
    accounted = λ number log at.
        let d = mapped the_log desks number log at in
        let p = phase_of number d.0 d.1 in
        subst (IsAccounted (map (λ (w : WindowPart R). w.log) windows)) d.2 (accounted number d.0 p.0 d.1 p.1 (ledger.sits number d.0 p.0 d.1 p.1));
    suited = λ number log at.
        let d = mapped the_log desks number log at in
        let p = phase_of number d.0 d.1 in
        subst (IsSuited fits key) d.2 (suited number d.0 p.0 d.1 p.1 (ledger.sits number d.0 p.0 d.1 p.1));
    claimed_once = λ k l i j v w a b kv lw ia jb same.
        let x = mapped (λ (w : WindowPart R). w.log) windows k v kv in
        let y = mapped (λ (w : WindowPart R). w.log) windows l w lw in
        ledger.once k l i j x.0 y.0 a b x.1 y.1 (ap (λ (log : WindowLog R). slice_get log.claims i) x.2 ∙ ia) (ap (λ (log : WindowLog R). slice_get log.claims j) y.2 ∙ jb) same;
    lost_once = λ k l v w kv lw some other.
        let x = mapped (λ (w : WindowPart R). w.log) windows k v kv in
        let y = mapped (λ (w : WindowPart R). w.log) windows l w lw in
        sets k x.0 x.1 (λ none. some (sym (ap (λ (log : WindowLog R). log.set) x.2) ∙ none)) ∙ sym (sets l y.0 y.1 (λ none. other (sym (ap (λ (log : WindowLog R). log.set) y.2) ∙ none)));
  }
