-- The seat of a desk after each of its calls.
use Rattle.std.proofs.Common.{◌≡◌, ℕ, Option, refl, ap, ◌∙◌}
use Rattle.atomic_table.specs.Table.{Me}
use Rattle.pending_table.specs.DeskLogs.{read_log, state_read, lost_read}
use Rattle.pending_table.specs.Seats.{IsDeskOf}
use Rattle.pending_table.specs.SharedPlays.{the_desk, on_desk, loads, asks, frees_with}
use Rattle.pending_table.proofs.SharedAnswers.{after_step}
use Rattle.pending_table.specs.declared.answers.Taken.{Taken}
use Rattle.pending_table.specs.declared.logs.End.{End}
use Rattle.pending_table.specs.declared.logs.End.TheVariants as end
use Rattle.pending_table.specs.declared.shared.parts.DeskPart.{DeskPart}
use Rattle.pending_table.specs.declared.shared.parts.View.{View}

module _ {R K : Type 0} (key : K) (slot : ℕ) (m new : Me (Option (Taken R)) (View R K)) (is : IsDeskOf key slot m.0) where
  -- the desk went through a step that keeps its slot and what it carries
  pub record Went (f : DeskPart R → DeskPart R) : Type 0 where
    pub desk : IsDeskOf key slot new.0
    pub part : the_desk new.0 ≡ f (the_desk m.0)
    pub last : (the_desk new.0).log.last ≡ (f (the_desk m.0)).log.last
    pub is_open : (the_desk new.0).log.is_open ≡ (f (the_desk m.0)).log.is_open
    pub taken : (the_desk new.0).taken ≡ (f (the_desk m.0)).taken
    pub log : (the_desk new.0).log ≡ (f (the_desk m.0)).log
    pub lost : (the_desk new.0).log.reads.lost ≡ (f (the_desk m.0)).log.reads.lost
    pub carried : new.1 ≡ m.1

  pub went : (f : DeskPart R → DeskPart R) → ((d : DeskPart R) → (f d).slot ≡ d.slot) → new ≡ (on_desk f m.0, m.1) → Went f
  went f same e =
      let s = after_step key slot f m.0 new.0 same is (ap (λ (y : Me (Option (Taken R)) (View R K)). y.0) e) in record {
        desk = s.0;
        part = s.1;
        last = ap (λ (d : DeskPart R). d.log.last) s.1;
        is_open = ap (λ (d : DeskPart R). d.log.is_open) s.1;
        taken = ap (λ (d : DeskPart R). d.taken) s.1;
        log = ap (λ (d : DeskPart R). d.log) s.1;
        lost = ap (λ (d : DeskPart R). d.log.reads.lost) s.1;
        carried = ap (λ (y : Me (Option (Taken R)) (View R K)). y.1) e;
      }

  pub went_loaded : (found : ℕ) → new ≡ (on_desk (loads found) m.0, m.1) → Went (loads found)
  went_loaded found told = went (loads found) (λ d. refl) told

  pub went_asked : (number : ℕ) → new ≡ (on_desk (asks number) m.0, m.1) → Went (asks number)
  went_asked number told = went (asks number) (λ d. refl) told

  pub went_freed : (found : ℕ) (e : End R) → new ≡ (on_desk (frees_with found e) m.0, m.1) → Went (frees_with found e)
  went_freed found e told = went (frees_with found e) (λ d. refl) told

  pub went_lost : (found : ℕ) → new ≡ (on_desk (λ desk. frees_with found (end.Lost desk.log.reads.lost) desk) m.0, m.1) → Went (λ desk. frees_with found (end.Lost desk.log.reads.lost) desk)
  went_lost found told = went (λ desk. frees_with found (end.Lost desk.log.reads.lost) desk) (λ d. refl) told

module _ {R K : Type 0} (key : K) (slot : ℕ) (m mid new : Me (Option (Taken R)) (View R K)) (is : IsDeskOf key slot m.0) where
  -- a load of the state, and then one of the lost word
  pub read_twice : (found number : ℕ) → Went key slot m mid is (loads found) → the_desk new.0 ≡ asks number (the_desk mid.0) → (the_desk new.0).log ≡ read_log (lost_read number (state_read found (the_desk m.0).log.reads)) (the_desk m.0).log
  read_twice found number first part = ap (λ (d : DeskPart R). d.log) (part ∙ ap (asks number) first.part)
