-- The steps of a desk that find its id open.
use Rattle.std.proofs.Common.{◌≡◌, ◌≢◌, ◌⊎◌, ℕ, zero, suc, ◌+◌, ◌-◌, ◌*◌, ◌<◌, ◌≤◌, ⊎_elim, inl, inr, Option, Some, None, Bool, true, true≢false, MatchBool, eqb, eq-eqb, ne_eqb, List, length, get_or, set, slice_get, sym, refl, ap, ◌∙◌, subst, arith}
use mathlib.Core.Option as maybe
use lib.ListN.{get_elem?}
use prog.Atomic.{either}
use Rattle.atomic_table.specs.Table.{State, Me, Act, step, keeps, takes, Valid, stepped, carried_after, Allows}
use Rattle.pending_table.specs.DeskLogs.{opening, open_id, state_read}
use Rattle.pending_table.specs.Seats.{one_desk}
use Rattle.pending_table.specs.SharedPlays.{loads, frees_with, took_value, looked, met, lost_id, left_id}
use Rattle.pending_table.specs.SharedPlays as plays
use Rattle.pending_table.specs.SharedRule.{Phase, free, waiting, claimed, done, taken, tag_of, is_open_in, IsNamed, IsFair, IsRooted, Sits, Ledger, Kept}
use Rattle.pending_table.specs.Taken.{Suits}
use Rattle.pending_table.specs.Words.{slot_of}
use Rattle.pending_table.proofs.Scanning.{same_or}
use Rattle.pending_table.proofs.SharedDesks.{sits_loaded, sits_taken, sits_ended}
use Rattle.pending_table.proofs.SharedDeskSteps.{goes_still}
use Rattle.pending_table.proofs.SharedFrame.{one_element}
use Rattle.pending_table.proofs.SharedSeats.{find_desk, desk_keeps}
use Rattle.pending_table.proofs.SharedShows.{no_element, homes_stay, homes_move, shows_slot, state_written, nothing_written}
use Rattle.pending_table.specs.declared.answers.Taken.{Taken}
use Rattle.pending_table.specs.declared.answers.Taken.TheVariants.{Reply, Timeout, Broken, NoMemory}
use Rattle.pending_table.specs.declared.logs.End.{End}
use Rattle.pending_table.specs.declared.logs.End.TheVariants as end
use Rattle.pending_table.specs.declared.logs.Opened.{Opened}
use Rattle.pending_table.specs.declared.shared.parts.DeskPart.{DeskPart}
use Rattle.pending_table.specs.declared.shared.parts.View.{View}
use Rattle.pending_table.specs.declared.shared.parts.WindowPart.{WindowPart}

-- of two numbers one is less, or they are the same
pub in_order : {F : Type 0} (i j : ℕ) → (i < j → F) → (i ≡ j → F) → (j < i → F) → F
in_order zero zero less same more = same refl
in_order zero (suc j) less same more = less (omega arith)
in_order (suc i) zero less same more = more (omega arith)
in_order (suc i) (suc j) less same more = in_order i j (λ l. less (omega arith)) (λ e. same (ap suc e)) (λ l. more (omega arith))

module _ {R K : Type 0} (fits : K → ℕ → R → Type 0) (key : K) (slots : ℕ) (windows : List (WindowPart R)) (lost slot : ℕ) (d : DeskPart R) (p : Phase R) (sits : Sits fits key slots windows lost slot d p) where
  -- an id stands once among those that a desk opened
  pub opened_once : (i j : ℕ) (a b : Opened) → slice_get d.log.opened i ≡ Some a → slice_get d.log.opened j ≡ Some b → a.id ≡ b.id → a ≡ b
  opened_once i j a b ai bj same = in_order i j
      (λ less. let up = sits.rising i j a b less ai bj in absurd (omega arith))
      (λ one. one_element a b (sym ai ∙ (ap (slice_get d.log.opened) one ∙ bj)))
      (λ more. let up = sits.rising j i b a more bj ai in absurd (omega arith))

  -- what a window may name for the open id, with that id's own deadline, suits it
  suits_open : d.log.is_open ≡ true → (x : Taken R) → ((deadline moment : ℕ) → x ≡ Timeout deadline moment → (deadline ≤ moment) × ((place : ℕ) × (slice_get d.log.opened place ≡ Some (opening (open_id d.log) deadline))))
      → ((reply : R) → x ≡ Reply reply → fits key (open_id d.log) reply) → Suits fits key (open_id d.log) d.log.deadline x
  suits_open opens (Reply reply) timely fair = fair reply refl
  suits_open opens (Timeout deadline moment) timely fair =
      let t = timely deadline moment refl in
      (ap (λ (o : Opened). o.deadline) (opened_once t.1.0 (length d.log.ended) (opening (open_id d.log) deadline) (opening (open_id d.log) d.log.deadline) t.1.1 (sits.newest opens) refl), t.0)
  suits_open opens (Broken at) timely fair = tt
  suits_open opens NoMemory timely fair = tt

module _ {R K : Type 0} (fits : K → ℕ → R → Type 0) (key : K) (slots : ℕ) (desks : List (DeskPart R)) (windows : List (WindowPart R)) (phases : List (Phase R)) (lost setter : ℕ) (ledger : Ledger fits key slots desks windows phases lost setter) where
  named_suits : (slot : ℕ) (d : DeskPart R) (p : Phase R) (x : Taken R) → slice_get desks slot ≡ Some d → slice_get phases slot ≡ Some p → Sits fits key slots windows lost slot d p → d.log.is_open ≡ true
      → IsNamed fits key slots windows (open_id d.log) x → Suits fits key (open_id d.log) d.log.deadline x
  named_suits slot d p x at there sits opens named =
      let works = ledger.works named.0 named.1 named.2 in
      let fair = works.fair named.3.0 _ named.3.1 in
      let place : slot_of slots (open_id d.log) ≡ slot = (sits.own (length d.log.ended) (opening (open_id d.log) d.log.deadline) (sits.newest opens)).1 in
      let older = works.older named.3.0 _ named.3.1 d p (ap (slice_get desks) place ∙ at) (ap (slice_get phases) place ∙ there) in
      suits_open fits key slots windows lost slot d p sits opens x (λ deadline moment is. (fair_timeout x deadline moment is fair, older.1 deadline moment is)) (λ reply is. fair_reply x reply is fair)
    where
      fair_timeout : (y : Taken R) (deadline moment : ℕ) → y ≡ Timeout deadline moment → IsFair fits key slots (open_id d.log) y → deadline ≤ moment
      fair_timeout y deadline moment is fair = subst (IsFair fits key slots (open_id d.log)) is fair

      fair_reply : (y : Taken R) (reply : R) → y ≡ Reply reply → IsFair fits key slots (open_id d.log) y → fits key (open_id d.log) reply
      fair_reply y reply is fair = subst (IsFair fits key slots (open_id d.log)) is fair

module _ {R : Type 0} where
  pub waiting_by_tag : (p : Phase R) → tag_of p ≡ 1 → p ≡ waiting
  waiting_by_tag free e = absurd (omega arith)
  waiting_by_tag waiting e = refl
  waiting_by_tag (claimed number x) e = absurd (omega arith)
  waiting_by_tag (done x) e = absurd (omega arith)
  waiting_by_tag (taken x) e = absurd (omega arith)

  -- an open id that doesn't wait is claimed or done
  claimed_or_done : (p : Phase R) → is_open_in p ≡ true → tag_of p ≢ 1 → (tag_of p ≡ 2) ⊎ (tag_of p ≡ 3)
  claimed_or_done free opens other = absurd (true≢false (sym opens))
  claimed_or_done waiting opens other = absurd (other refl)
  claimed_or_done (claimed number x) opens other = inl refl
  claimed_or_done (done x) opens other = inr refl
  claimed_or_done (taken x) opens other = inr refl

module _ {R K : Type 0} (fits : K → ℕ → R → Type 0) (key : K) (slots n me : ℕ) (c : List (ℕ × Option (Taken R))) (d : DeskPart R) where
  -- the rule after a load of the state that changes no phase
  loaded : (state : State (Option (Taken R)) (View R K)) (rule : Kept fits key slots state) → get_elem? state.views me ≡ maybe.some (one_desk (Some key) d) → (p : Phase R) → slice_get rule.phases d.slot ≡ Some p → slice_get rule.desks d.slot ≡ Some d
      → Sits fits key slots rule.windows rule.lost d.slot d p → Kept fits key slots (stepped state d.slot (get_or state.words d.slot 0) me c (one_desk (Some key) (loads (get_or state.words d.slot 0) d)) keeps)
  loaded state rule at p there here sits =
      let word : ℕ = get_or state.words d.slot 0 in
      let e : DeskPart R = loads word d in
      desk_keeps fits key slots state rule me d e p p at refl there (sits_loaded fits key slots rule.windows rule.lost d.slot d word p sits) (goes_still d e p refl refl refl)
      (set state.words d.slot word) state.homes
      (shows_slot fits key slots state.words (set state.words d.slot word) state.homes state.homes rule.desks rule.phases rule.lost d.slot d e p rule.shows rule.ledger.desk_count here
      (nothing_written fits key slots state.words state.homes rule.desks rule.phases rule.lost d.slot d p rule.shows rule.ledger.desk_count here there e p d.slot refl refl)
      (homes_stay state.homes rule.phases d.slot p p there refl rule.shows.at_home))

  -- what a step at the desk's own word owes, where it finds and leaves this
  abbrev Owes : State (Option (Taken R)) (View R K) → ℕ → (Me (Option (Taken R)) (View R K) → Type 0) → Type 0
  Owes state word told =
      (view : View R K) × (act : Act (Option (Taken R))) × Valid state.homes c act × Kept fits key slots (stepped state d.slot word me c view act) × told (view, carried_after c act)

  look_in : (state : State (Option (Taken R)) (View R K)) (rule : Kept fits key slots state) → get_elem? state.views me ≡ maybe.some (one_desk (Some key) d) → (p : Phase R) → slice_get rule.phases d.slot ≡ Some p → slice_get rule.desks d.slot ≡ Some d
      → Sits fits key slots rule.windows rule.lost d.slot d p → d.log.is_open ≡ true → d.taken ≡ None
      → Owes state (get_or state.words d.slot 0) (looked fits (step n d.slot 0 0 maybe.none) (one_desk (Some key) d, c) (get_or state.words d.slot 0))
  look_in state rule at free there here sits opens none = absurd (true≢false (sym opens ∙ sits.is_open))
  look_in state rule at waiting there here sits opens none = (
    one_desk (Some key) (loads (get_or state.words d.slot 0) d),
    keeps,
    tt,
    loaded state rule at waiting there here sits,
    inr (inl (rule.shows.states d.slot d waiting here there), refl),
  )
  look_in state rule at (claimed number x) there here sits opens none = (
    one_desk (Some key) (loads (get_or state.words d.slot 0) d),
    keeps,
    tt,
    loaded state rule at (claimed number x) there here sits,
    inr (inr (rule.shows.states d.slot d (claimed number x) here there), refl),
  )
  look_in state rule at (done x) there here sits opens none =
      let word : ℕ = get_or state.words d.slot 0 in
      let e : DeskPart R = plays.takes word x d in
      let homes : List (maybe.Option (Option (Taken R))) = set state.homes d.slot maybe.none in
      let suits : Suits fits key (open_id d.log) d.log.deadline x = named_suits fits key slots rule.desks rule.windows rule.phases rule.lost rule.setter rule.ledger d.slot d (done x) x here there sits opens sits.turn in (
        one_desk (Some key) e,
        takes d.slot (Some x),
        rule.shows.at_home d.slot (done x) there,
        desk_keeps fits key slots state rule me d e (done x) (taken x) at refl there (sits_taken fits key slots rule.windows rule.lost d.slot d word x sits)
            (record {
              rises = omega arith;
              bounds = λ id low. low;
              grows = λ j o is. is;
              keeps_turn = λ number y is. let z : 3 ≡ 2 = ap tag_of is in absurd (omega arith);
              keeps_date = λ _ waits. let z : 3 ≡ 1 = ap tag_of waits in absurd (omega arith);
            })
            (set state.words d.slot word) homes
            (shows_slot fits key slots state.words (set state.words d.slot word) state.homes homes rule.desks rule.phases rule.lost d.slot d e (taken x) rule.shows rule.ledger.desk_count here
            (nothing_written fits key slots state.words state.homes rule.desks rule.phases rule.lost d.slot d (done x) rule.shows rule.ledger.desk_count here there e (taken x) d.slot refl refl)
            (homes_move state.homes rule.phases d.slot (done x) (taken x) maybe.none there refl rule.shows.at_home)),
        inl (rule.shows.states d.slot d (done x) here there, (x, (λ k is. subst (λ (y : K). Suits fits y (open_id d.log) d.log.deadline x) (one_element key k is) suits), refl)),
      )
  look_in state rule at (taken x) there here sits opens none = absurd (no_element x (sym none ∙ sits.took))

  -- the state of the open id is loaded, and the slot's turn taken at done
  pub loads_state : d.log.is_open ≡ true → d.taken ≡ None → Allows (Kept fits key slots) n me (one_desk (Some key) d, c) d.slot (λ k. k) (looked fits (step n d.slot 0 0 maybe.none) (one_desk (Some key) d, c))
  loads_state opens none state rule count at small =
      let f = find_desk fits key slots state rule me d at in look_in state rule at f.phase f.phase_at f.desk_at f.sits opens none

  -- what is told of a desk that frees its id where it waits, and else this
  abbrev Freed : End R → (ℕ → Me (Option (Taken R)) (View R K) → Type 0) → ℕ → Me (Option (Taken R)) (View R K) → Bool → Type 0
  Freed x Else word after hit = MatchBool hit (after ≡ (one_desk (Some key) (frees_with word x d), c)) (Else word after)

  frees : (x : End R) (Else : ℕ → Me (Option (Taken R)) (View R K) → Type 0) → d.taken ≡ None
      → ((state : State (Option (Taken R)) (View R K)) (rule : Kept fits key slots state) (p : Phase R) → Sits fits key slots rule.windows rule.lost d.slot d p → IsRooted fits key slots rule.windows rule.lost (open_id d.log) x)
      → ((state : State (Option (Taken R)) (View R K)) (rule : Kept fits key slots state) → get_elem? state.views me ≡ maybe.some (one_desk (Some key) d) → get_or state.words d.slot 0 ≢ 4 * d.log.last + 1 → Owes state (get_or state.words d.slot 0) (Else (get_or state.words d.slot 0)))
      → Allows (Kept fits key slots) n me (one_desk (Some key) d, c) d.slot (λ k. either (eqb k (4 * d.log.last + 1)) (4 * d.log.last) k) (λ k after. Freed x Else k after (eqb k (4 * d.log.last + 1)))
  frees x Else none rooted miss state rule count at small =
      let f = find_desk fits key slots state rule me d at in
      let word : ℕ = get_or state.words d.slot 0 in
      let old : ℕ = 4 * d.log.last + 1 in
      let shown : word ≡ 4 * d.log.last + tag_of f.phase = rule.shows.states d.slot d f.phase f.desk_at f.phase_at in
      let Goal : Bool → Type 0 = λ hit. Owes state (either hit (4 * d.log.last) word) (λ after. Freed x Else word after hit) in
      let hit : word ≡ old → Goal true = λ is.
      let waits : f.phase ≡ waiting = waiting_by_tag f.phase (omega arith) in
      let there : slice_get rule.phases d.slot ≡ Some waiting = f.phase_at ∙ ap (λ (p : Phase R). Some p) waits in
      let sits : Sits fits key slots rule.windows rule.lost d.slot d waiting = subst (Sits fits key slots rule.windows rule.lost d.slot d) waits f.sits in
      let e : DeskPart R = frees_with word x d in (
        one_desk (Some key) e,
        keeps,
        tt,
        desk_keeps fits key slots state rule me d e waiting free at refl there (sits_ended fits key slots rule.windows rule.lost d.slot d (state_read word d.log.reads) x d.taken waiting none refl sits.asked (rooted state rule waiting sits) sits)
            (record {
              rises = omega arith;
              bounds = λ id low. let less : id < d.log.last - 1 = low in let up : id < d.log.last = omega arith in up;
              grows = λ j o is. is;
              keeps_turn = λ number y is. let z : 1 ≡ 2 = ap tag_of is in absurd (omega arith);
              keeps_date = λ _ waits. let z : 0 ≡ 1 = ap tag_of waits in absurd (omega arith);
            })
            (set state.words d.slot (4 * d.log.last)) state.homes
            (shows_slot fits key slots state.words (set state.words d.slot (4 * d.log.last)) state.homes state.homes rule.desks rule.phases rule.lost d.slot d e free rule.shows rule.ledger.desk_count f.desk_at
            (state_written fits key slots state.words state.homes rule.desks rule.phases rule.lost d.slot d waiting rule.shows rule.ledger.desk_count f.desk_at there e free (4 * d.log.last) (omega arith) refl)
            (homes_stay state.homes rule.phases d.slot waiting free there refl rule.shows.at_home)),
        refl,
      ) in
      ⊎_elim (λ is. subst Goal (sym (eq-eqb word old is)) (hit is)) (λ other. subst Goal (sym (ne_eqb word old other)) (miss state rule at other)) (same_or word old)

  -- an id that waits is given up
  pub leaves_id : d.log.is_open ≡ true → d.taken ≡ None
      → Allows (Kept fits key slots) n me (one_desk (Some key) d, c) d.slot (λ k. either (eqb k (4 * d.log.last + 1)) (4 * d.log.last) k) (left_id (step n d.slot (4 * d.log.last + 1) (4 * d.log.last) maybe.none) (one_desk (Some key) d, c))
  leaves_id opens none = frees end.Freed (met (step n d.slot (4 * d.log.last + 1) (4 * d.log.last) maybe.none) (one_desk (Some key) d, c)) none (λ state rule p sits. tt)
      (λ state rule at other.
      let f = find_desk fits key slots state rule me d at in
      let word : ℕ = get_or state.words d.slot 0 in
      let shown : word ≡ 4 * d.log.last + tag_of f.phase = rule.shows.states d.slot d f.phase f.desk_at f.phase_at in
      let which : (tag_of f.phase ≡ 2) ⊎ (tag_of f.phase ≡ 3) = claimed_or_done f.phase (sym f.sits.is_open ∙ opens) (λ one. other (omega arith)) in (
        one_desk (Some key) (loads word d),
        keeps,
        tt,
        loaded state rule at f.phase f.phase_at f.desk_at f.sits,
        (⊎_elim (λ two. inl (shown ∙ ap (λ (k : ℕ). 4 * d.log.last + k) two)) (λ three. inr (shown ∙ ap (λ (k : ℕ). 4 * d.log.last + k) three)) which, refl),
      ))

  -- an id that waits is lost, with the number that was seen last, and the slot's turn taken at done
  pub loses_id : d.log.is_open ≡ true → d.taken ≡ None → d.log.reads.lost ≢ 0
      → Allows (Kept fits key slots) n me (one_desk (Some key) d, c) d.slot (λ k. either (eqb k (4 * d.log.last + 1)) (4 * d.log.last) k) (lost_id fits (step n d.slot (4 * d.log.last + 1) (4 * d.log.last) maybe.none) (one_desk (Some key) d, c))
  loses_id opens none seen = frees (end.Lost d.log.reads.lost)
      (λ word after. took_value fits (step n d.slot (4 * d.log.last + 1) (4 * d.log.last) maybe.none) (one_desk (Some key) d, c) word after ⊎ ((word ≡ 4 * d.log.last + 2) × (after ≡ (one_desk (Some key) (loads word d), c)))) none
      (λ state rule p sits. (seen, ⊎_elim (λ zero_is. absurd (seen zero_is)) (λ is. is) sits.asked))
      (λ state rule at other.
      let f = find_desk fits key slots state rule me d at in
      let o = look_in state rule at f.phase f.phase_at f.desk_at f.sits opens none in
      (o.0, o.1, o.2, o.3, ⊎_elim inl (λ r. ⊎_elim (λ one. absurd (other one)) (λ two. inr (two, r.1)) r.0) o.4))
