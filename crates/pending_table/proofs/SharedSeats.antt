-- What each seat knows, after a step of the seat of one desk or of one window.
use Rattle.std.proofs.Common.{◌≡◌, ◌≢◌, ℕ, ◌<◌, ⊎_elim, Option, Some, List, length, set, slice_get, sym, refl, ap, ◌∙◌, subst, arith}
use mathlib.Core.Option as maybe
use lib.ListN.{get_elem?}
use Rattle.atomic_table.specs.Table.{State}
use Rattle.atomic_table.proofs.Lists.{at_set}
use Rattle.pending_table.specs.Seats.{one_desk, one_window}
use Rattle.pending_table.specs.SharedRule.{Phase, Sits, Works, Knows, Shows, Kept}
use Rattle.pending_table.proofs.SharedFrame.{DeskGoes, desk_moves, set_here, set_else}
use Rattle.pending_table.proofs.SharedShows.{no_element, get_inside, get_there}
use Rattle.pending_table.proofs.Sitting.{get_alone}
use Rattle.pending_table.specs.declared.answers.Taken.{Taken}
use Rattle.pending_table.specs.declared.shared.parts.DeskPart.{DeskPart}
use Rattle.pending_table.specs.declared.shared.parts.View.{View}
use Rattle.pending_table.specs.declared.shared.parts.WindowPart.{WindowPart}

module _ {R K : Type 0} (fits : K → ℕ → R → Type 0) (key : K) (slots : ℕ) where
  -- the seat at `me` has the desk d alone, which becomes e
  desk_known : (desk_at window_at : ℕ → ℕ) (desks : List (DeskPart R)) (windows : List (WindowPart R)) (views : List (View R K)) (me : ℕ) (d e : DeskPart R)
      → get_elem? views me ≡ maybe.some (one_desk (Some key) d) → e.slot ≡ d.slot
      → ((port : ℕ) (view : View R K) → get_elem? views port ≡ maybe.some view → Knows fits key slots desk_at window_at desks windows port view)
      → (port : ℕ) (view : View R K) → get_elem? (set views me (one_desk (Some key) e)) port ≡ maybe.some view → Knows fits key slots desk_at window_at (set desks d.slot e) windows port view
  desk_known desk_at window_at desks windows views me d e at same known port view found =
      let mine = known me (one_desk (Some key) d) at in
      let here = mine.has_desk 0 d refl in
      let inside = get_inside desks d.slot d here.1 in
      ⊎_elim
      (λ (x : (port ≡ me) × (one_desk (Some key) e ≡ view)). subst (λ (y : ℕ × View R K). Knows fits key slots desk_at window_at (set desks d.slot e) windows y.0 y.1) (λ i. (sym x.0 i, x.1 i)) (record {
        keyed = mine.keyed;
        has_desk = λ i c f. subst (λ (y : DeskPart R). (desk_at y.slot ≡ me) × (slice_get (set desks d.slot e) y.slot ≡ Some y)) (get_alone e c i f)
            (ap desk_at same ∙ here.0, ap (slice_get (set desks d.slot e)) same ∙ set_here desks d.slot e inside);
        has_window = λ i c f. absurd (no_element c f);
      }))
      (λ (x : (port ≢ me) × (get_elem? views port ≡ maybe.some view)). let k = known port view x.1 in record {
        keyed = k.keyed;
        has_desk = λ i c f. let h = k.has_desk i c f in (h.0, set_else desks d.slot c.slot e (λ one. x.0 (sym h.0 ∙ (ap desk_at one ∙ here.0))) ∙ h.1);
        has_window = k.has_window;
      })
      (at_set views me port (one_desk (Some key) e) view found)

  -- the seat at `me` has the window w alone, which becomes v
  pub window_known : (desk_at window_at : ℕ → ℕ) (desks : List (DeskPart R)) (windows : List (WindowPart R)) (views : List (View R K)) (me : ℕ) (w v : WindowPart R)
      → get_elem? views me ≡ maybe.some (one_window (Some key) w) → v.number ≡ w.number
      → ((port : ℕ) (view : View R K) → get_elem? views port ≡ maybe.some view → Knows fits key slots desk_at window_at desks windows port view)
      → (port : ℕ) (view : View R K) → get_elem? (set views me (one_window (Some key) v)) port ≡ maybe.some view → Knows fits key slots desk_at window_at desks (set windows w.number v) port view
  window_known desk_at window_at desks windows views me w v at same known port view found =
      let mine = known me (one_window (Some key) w) at in
      let here = mine.has_window 0 w refl in
      let inside = get_inside windows w.number w here.1 in
      ⊎_elim
      (λ (x : (port ≡ me) × (one_window (Some key) v ≡ view)). subst (λ (y : ℕ × View R K). Knows fits key slots desk_at window_at desks (set windows w.number v) y.0 y.1) (λ i. (sym x.0 i, x.1 i)) (record {
        keyed = mine.keyed;
        has_desk = λ i c f. absurd (no_element c f);
        has_window = λ i c f. subst (λ (y : WindowPart R). (window_at y.number ≡ me) × (slice_get (set windows w.number v) y.number ≡ Some y)) (get_alone v c i f)
            (ap window_at same ∙ here.0, ap (slice_get (set windows w.number v)) same ∙ set_here windows w.number v inside);
      }))
      (λ (x : (port ≢ me) × (get_elem? views port ≡ maybe.some view)). let k = known port view x.1 in record {
        keyed = k.keyed;
        has_desk = k.has_desk;
        has_window = λ i c f. let h = k.has_window i c f in (h.0, set_else windows w.number c.number v (λ one. x.0 (sym h.0 ∙ (ap window_at one ∙ here.0))) ∙ h.1);
      })
      (at_set views me port (one_window (Some key) v) view found)

  -- what the rule says of the desk of a seat
  pub record DeskFound (state : State (Option (Taken R)) (View R K)) (rule : Kept fits key slots state) (d : DeskPart R) : Type 0 where
    pub phase : Phase R
    pub phase_at : slice_get rule.phases d.slot ≡ Some phase
    pub desk_at : slice_get rule.desks d.slot ≡ Some d
    pub sits : Sits fits key slots rule.windows rule.lost d.slot d phase

  pub find_desk : (state : State (Option (Taken R)) (View R K)) (rule : Kept fits key slots state) (me : ℕ) (d : DeskPart R) → get_elem? state.views me ≡ maybe.some (one_desk (Some key) d) → DeskFound state rule d
  find_desk state rule me d at =
      let here = ((rule.known me (one_desk (Some key) d) at).has_desk 0 d refl).1 in
      let inside : d.slot < length rule.phases = let a = get_inside rule.desks d.slot d here in let b = rule.ledger.desk_count in let c = rule.ledger.phase_count in omega arith in
      let phase = get_there rule.phases d.slot inside in record { phase = phase.0; phase_at = phase.1; desk_at = here; sits = rule.ledger.sits d.slot d phase.0 here phase.1 }

  -- what the rule says of the window of a seat
  pub record WindowFound (state : State (Option (Taken R)) (View R K)) (rule : Kept fits key slots state) (w : WindowPart R) : Type 0 where
    pub window_at : slice_get rule.windows w.number ≡ Some w
    pub inside : w.number < length rule.windows
    pub works : Works fits key slots rule.desks rule.phases rule.lost rule.setter w.number w

  pub find_window : (state : State (Option (Taken R)) (View R K)) (rule : Kept fits key slots state) (me : ℕ) (w : WindowPart R) → get_elem? state.views me ≡ maybe.some (one_window (Some key) w) → WindowFound state rule w
  find_window state rule me w at =
      let here = ((rule.known me (one_window (Some key) w) at).has_window 0 w refl).1 in
      record { window_at = here; inside = get_inside rule.windows w.number w here; works = rule.ledger.works w.number w here }

  -- the rule after a step of the desk d, which leaves it as e and its slot in the phase q
  pub desk_keeps : (state : State (Option (Taken R)) (View R K)) (rule : Kept fits key slots state) (me : ℕ) (d e : DeskPart R) (p q : Phase R) → get_elem? state.views me ≡ maybe.some (one_desk (Some key) d) → e.slot ≡ d.slot → slice_get rule.phases d.slot ≡ Some p
      → Sits fits key slots rule.windows rule.lost d.slot e q → DeskGoes d p e q
      → (words : List ℕ) (homes : List (maybe.Option (Option (Taken R)))) → Shows fits key slots words homes (set rule.desks d.slot e) (set rule.phases d.slot q) rule.lost
      → Kept fits key slots (record { words = words; homes = homes; views = set state.views me (one_desk (Some key) e) })
  desk_keeps state rule me d e p q at same there sits goes words homes shows =
      let here = (rule.known me (one_desk (Some key) d) at).has_desk 0 d refl in record {
        desk_at = rule.desk_at;
        window_at = rule.window_at;
        desks = set rule.desks d.slot e;
        windows = rule.windows;
        phases = set rule.phases d.slot q;
        lost = rule.lost;
        setter = rule.setter;
        ledger = desk_moves fits key slots rule.desks rule.windows rule.phases rule.lost rule.setter rule.ledger d.slot d p e q here.1 there sits goes;
        shows = shows;
        known = desk_known rule.desk_at rule.window_at rule.desks rule.windows state.views me d e at same rule.known;
      }
