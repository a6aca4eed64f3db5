-- The steps of a desk that find its own slot free, or load the lost word.
use Rattle.std.proofs.Common.{◌≡◌, ℕ, ◌+◌, ◌-◌, ◌*◌, ◌/◌, ◌<◌, ◌≤◌, ◌^◌, Option, Some, None, true, false, true≢false, List, [], ◌∷◌, ◌++◌, get_or, set, slice_get, sym, refl, ap, ◌∙◌, subst, arith}
use mathlib.Core.Option as maybe
use Rattle.atomic_table.specs.Table.{step, keeps, gives, Allows}
use Rattle.pending_table.specs.DeskLogs.{opening, open_id}
use Rattle.pending_table.specs.Seats.{one_desk}
use Rattle.pending_table.specs.SharedPlays.{asks, dates, loads, opens, empties, end_of, dated, opened, asked_lost, emptied}
use Rattle.pending_table.specs.SharedPlays as plays
use Rattle.pending_table.specs.SharedRule.{Phase, free, waiting, claimed, done, taken, tag_of, is_open_in, taken_in, claimed_below, IsRooted, Sits, Kept}
use Rattle.pending_table.specs.Words.{slot_of}
use Rattle.pending_table.proofs.SharedDesks.{sits_asked, sits_dated, with_opened, sits_opened, sits_ended}
use Rattle.pending_table.proofs.SharedFrame.{DeskGoes}
use Rattle.pending_table.proofs.SharedSeats.{find_desk, desk_keeps}
use Rattle.pending_table.proofs.SharedShows.{no_element, homes_stay, homes_move, shows_slot, state_written, deadline_written, nothing_written}
use Rattle.pending_table.proofs.Sitting.{get_longer}
use Rattle.pending_table.specs.declared.answers.Taken.{Taken}
use Rattle.pending_table.specs.declared.logs.Opened.{Opened}
use Rattle.pending_table.specs.declared.shared.parts.DeskPart.{DeskPart}

module _ {R : Type 0} where
  pub closed_free : (p : Phase R) → is_open_in p ≡ false → p ≡ free
  closed_free free e = refl
  closed_free waiting e = absurd (true≢false e)
  closed_free (claimed number x) e = absurd (true≢false e)
  closed_free (done x) e = absurd (true≢false e)
  closed_free (taken x) e = absurd (true≢false e)

  -- a phase in which a desk has taken this value
  pub taken_phase : (p : Phase R) (x : Taken R) → taken_in p ≡ Some x → p ≡ taken x
  taken_phase free x e = absurd (no_element x e)
  taken_phase waiting x e = absurd (no_element x e)
  taken_phase (claimed number y) x e = absurd (no_element x e)
  taken_phase (done y) x e = absurd (no_element x e)
  taken_phase (taken y) x e = ap (λ (o : Option (Taken R)). elim o as (λ _. Phase R) [ None ↦ free | Some z ↦ taken z ]) e

  -- others know nothing of loads
  pub goes_still : (d e : DeskPart R) (p : Phase R) → e.log.last ≡ d.log.last → e.log.deadline ≡ d.log.deadline → e.log.opened ≡ d.log.opened → DeskGoes d p e p
  goes_still d e p last deadline same = record {
    rises = omega arith;
    bounds = λ id low. subst (λ (k : ℕ). id < claimed_below k p) (sym last) low;
    grows = λ j o at. ap (λ (l : List Opened). slice_get l j) same ∙ at;
    keeps_turn = λ number x is. (is, last);
    keeps_date = λ _ waits. (waits, deadline);
  }

module _ {R K : Type 0} (fits : K → ℕ → R → Type 0) (key : K) (slots n me : ℕ) (c : List (ℕ × Option (Taken R))) (d : DeskPart R) where
  -- the deadline of the next id is stored
  pub stores_deadline : (deadline : ℕ) → d.log.is_open ≡ false
      → Allows (Kept fits key slots) n me (one_desk (Some key) d, c) (slots + d.slot) (λ _. deadline) (λ _. dated (step n (slots + d.slot) deadline 0 maybe.none) (one_desk (Some key) d, c) deadline)
  stores_deadline deadline closed state rule count at small =
      let f = find_desk fits key slots state rule me d at in
      let is_free : f.phase ≡ free = closed_free f.phase (sym f.sits.is_open ∙ closed) in
      let there : slice_get rule.phases d.slot ≡ Some free = f.phase_at ∙ ap (λ (p : Phase R). Some p) is_free in
      let sits : Sits fits key slots rule.windows rule.lost d.slot d free = subst (Sits fits key slots rule.windows rule.lost d.slot d) is_free f.sits in
      let e : DeskPart R = dates deadline d in (
        one_desk (Some key) e,
        keeps,
        tt,
        desk_keeps fits key slots state rule me d e free free at refl there (sits_dated fits key slots rule.windows rule.lost d.slot d deadline sits)
            (record { rises = omega arith; bounds = λ id low. low; grows = λ j o is. is; keeps_turn = λ number x is. (is, refl); keeps_date = λ _ waits. let z : 0 ≡ 1 = ap tag_of waits in absurd (omega arith) })
            (set state.words (slots + d.slot) deadline) state.homes
            (shows_slot fits key slots state.words (set state.words (slots + d.slot) deadline) state.homes state.homes rule.desks rule.phases rule.lost d.slot d e free rule.shows rule.ledger.desk_count f.desk_at
            (deadline_written fits key slots state.words state.homes rule.desks rule.phases rule.lost d.slot d free rule.shows rule.ledger.desk_count f.desk_at there e deadline refl refl)
            (homes_stay state.homes rule.phases d.slot free free there refl rule.shows.at_home)),
        refl,
      )

  -- the id is shown as waiting
  pub stores_waiting : (id : ℕ) → d.log.is_open ≡ false → d.log.last ≤ id → id < 2 ^ 60 → slot_of slots id ≡ d.slot
      → Allows (Kept fits key slots) n me (one_desk (Some key) d, c) d.slot (λ _. 4 * (id + 1) + 1) (λ _. opened (step n d.slot (4 * (id + 1) + 1) 0 maybe.none) (one_desk (Some key) d, c) (4 * (id + 1) + 1))
  stores_waiting id closed above low place state rule count at small =
      let f = find_desk fits key slots state rule me d at in
      let is_free : f.phase ≡ free = closed_free f.phase (sym f.sits.is_open ∙ closed) in
      let there : slice_get rule.phases d.slot ≡ Some free = f.phase_at ∙ ap (λ (p : Phase R). Some p) is_free in
      let sits : Sits fits key slots rule.windows rule.lost d.slot d free = subst (Sits fits key slots rule.windows rule.lost d.slot d) is_free f.sits in
      let word : ℕ = 4 * (id + 1) + 1 in
      let quarter : id + 1 ≡ word / 4 = grind arith in
      let back : id ≡ word / 4 - 1 = grind arith in
      let e : DeskPart R = with_opened fits key slots rule.windows rule.lost d.slot d id in (
        one_desk (Some key) e,
        keeps,
        tt,
        desk_keeps fits key slots state rule me d e free waiting at refl there (sits_opened fits key slots rule.windows rule.lost d.slot d id above low place sits)
            (record {
              rises = omega arith;
              bounds = λ j less. let old : j < d.log.last = less in omega arith;
              grows = λ j o is. get_longer d.log.opened (opening id d.log.deadline ∷ []) j o is;
              keeps_turn = λ number x is. let z : 0 ≡ 2 = ap tag_of is in absurd (omega arith);
              keeps_date = λ same _. absurd (omega arith);
            })
            (set state.words d.slot word) state.homes
            (shows_slot fits key slots state.words (set state.words d.slot word) state.homes state.homes rule.desks rule.phases rule.lost d.slot d e waiting rule.shows rule.ledger.desk_count f.desk_at
            (state_written fits key slots state.words state.homes rule.desks rule.phases rule.lost d.slot d free rule.shows rule.ledger.desk_count f.desk_at there e waiting word refl refl)
            (homes_stay state.homes rule.phases d.slot free waiting there refl rule.shows.at_home)),
        (λ i. (one_desk (Some key) (plays.with_log (record d.log { last = quarter i; is_open = true; opened = d.log.opened ++ opening (back i) d.log.deadline ∷ [] }) d.taken d), c)),
      )

  -- the lost word is loaded
  pub loads_lost : Allows (Kept fits key slots) n me (one_desk (Some key) d, c) (2 * slots) (λ k. k) (asked_lost (step n (2 * slots) 0 0 maybe.none) (one_desk (Some key) d, c))
  loads_lost state rule count at small =
      let f = find_desk fits key slots state rule me d at in
      let number : ℕ = get_or state.words (2 * slots) 0 in
      let e : DeskPart R = asks number d in
      let sits : Sits fits key slots rule.windows rule.lost d.slot e f.phase = subst (λ (k : ℕ). Sits fits key slots rule.windows rule.lost d.slot (asks k d) f.phase) (sym rule.shows.lost_is) (sits_asked fits key slots rule.windows rule.lost d.slot d f.phase f.sits) in (
        one_desk (Some key) e,
        keeps,
        tt,
        desk_keeps fits key slots state rule me d e f.phase f.phase at refl f.phase_at sits (goes_still d e f.phase refl refl refl)
            (set state.words (2 * slots) number) state.homes
            (shows_slot fits key slots state.words (set state.words (2 * slots) number) state.homes state.homes rule.desks rule.phases rule.lost d.slot d e f.phase rule.shows rule.ledger.desk_count f.desk_at
            (nothing_written fits key slots state.words state.homes rule.desks rule.phases rule.lost d.slot d f.phase rule.shows rule.ledger.desk_count f.desk_at f.phase_at e f.phase (2 * slots) refl refl)
            (homes_stay state.homes rule.phases d.slot f.phase f.phase f.phase_at refl rule.shows.at_home)),
        refl,
      )

module _ {R K : Type 0} (fits : K → ℕ → R → Type 0) (key : K) (slots n me : ℕ) (c : List (ℕ × Option (Taken R))) (d : DeskPart R) (x : Taken R) where
  -- free is stored, after the value was taken out of the slot
  pub stores_free : d.taken ≡ Some x
      → Allows (Kept fits key slots) n me (one_desk (Some key) d, (d.slot, None) ∷ c) d.slot (λ _. 4 * d.log.last) (λ _. emptied (step n d.slot (4 * d.log.last) 0 maybe.none) (one_desk (Some key) d, (d.slot, None) ∷ c) (4 * d.log.last))
  stores_free has state rule count at small =
      let f = find_desk fits key slots state rule me d at in
      let is_taken : f.phase ≡ taken x = taken_phase f.phase x (sym f.sits.took ∙ has) in
      let there : slice_get rule.phases d.slot ≡ Some (taken x) = f.phase_at ∙ ap (λ (p : Phase R). Some p) is_taken in
      let sits : Sits fits key slots rule.windows rule.lost d.slot d (taken x) = subst (Sits fits key slots rule.windows rule.lost d.slot d) is_taken f.sits in
      let rooted : IsRooted fits key slots rule.windows rule.lost (open_id d.log) (end_of d.taken) = subst (λ (o : Option (Taken R)). IsRooted fits key slots rule.windows rule.lost (open_id d.log) (end_of o)) (sym has) sits.turn in
      let e : DeskPart R = empties d in
      let homes : List (maybe.Option (Option (Taken R))) = set state.homes d.slot (maybe.some None) in (
        one_desk (Some key) e,
        gives,
        tt,
        desk_keeps fits key slots state rule me d e (taken x) free at refl there (sits_ended fits key slots rule.windows rule.lost d.slot d d.log.reads (end_of d.taken) None (taken x) refl refl sits.asked rooted sits)
            (record {
              rises = omega arith;
              bounds = λ j less. less;
              grows = λ j o is. is;
              keeps_turn = λ number y is. let z : 3 ≡ 2 = ap tag_of is in absurd (omega arith);
              keeps_date = λ _ waits. let z : 0 ≡ 1 = ap tag_of waits in absurd (omega arith);
            })
            (set state.words d.slot (4 * d.log.last)) homes
            (shows_slot fits key slots state.words (set state.words d.slot (4 * d.log.last)) state.homes homes rule.desks rule.phases rule.lost d.slot d e free rule.shows rule.ledger.desk_count f.desk_at
            (state_written fits key slots state.words state.homes rule.desks rule.phases rule.lost d.slot d (taken x) rule.shows rule.ledger.desk_count f.desk_at there e free (4 * d.log.last) (omega arith) refl)
            (homes_move state.homes rule.phases d.slot (taken x) free (maybe.some None) there refl rule.shows.at_home)),
        refl,
      )
