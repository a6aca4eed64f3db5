-- The step by which a window sets the lost word, or finds it set.
use Rattle.std.proofs.Common.{◌≡◌, ◌≢◌, ℕ, suc, ◌+◌, ◌*◌, ◌<◌, ⊎_elim, inl, inr, Option, Some, Bool, true, false, if◌then◌else◌, MatchBool, eqb, eq-eqb, ne_eqb, List, length, get_or, set, slice_get, sym, refl, ap, ◌∙◌, subst, arith, length-set, get_or-set_other, get_or-set_same}
use mathlib.Core.Option as maybe
use prog.Atomic.{either}
use Rattle.atomic_table.specs.Table.{Me, Act, step, keeps, Valid, stepped, carried_after, Allows}
use Rattle.pending_table.specs.Seats.{one_window}
use Rattle.pending_table.specs.SharedPlays.{sets_number, keeps_number, set_lost}
use Rattle.pending_table.specs.SharedRule.{Phase, IsRooted, Sits, Works, Ledger, Shows, Kept}
use Rattle.pending_table.proofs.Scanning.{same_or}
use Rattle.pending_table.proofs.SharedFrame.{either_set}
use Rattle.pending_table.proofs.SharedSeats.{find_window}
use Rattle.pending_table.proofs.SharedShows.{get_inside, word_kept}
use Rattle.pending_table.proofs.SharedTurns.{WindowGoes, sits_on}
use Rattle.pending_table.proofs.SharedWindowSteps.{once_still, still_ledger, window_keeps}
use Rattle.pending_table.specs.declared.answers.Taken.{Taken}
use Rattle.pending_table.specs.declared.logs.End.{End}
use Rattle.pending_table.specs.declared.logs.End.TheVariants as end
use Rattle.pending_table.specs.declared.shared.parts.DeskPart.{DeskPart}
use Rattle.pending_table.specs.declared.shared.parts.View.{View}
use Rattle.pending_table.specs.declared.shared.parts.WindowPart.{WindowPart}

pub nothing_set : (b : Bool) → ◌≡◌ {A = ℕ} (if b then 0 else 0) 0
nothing_set true = refl
nothing_set false = refl

module _ {R K : Type 0} (fits : K → ℕ → R → Type 0) (key : K) (slots : ℕ) where
  -- nothing has ended as lost while the lost word is 0
  none_lost : (windows : List (WindowPart R)) (number id : ℕ) (e : End R) → IsRooted fits key slots windows 0 id e → IsRooted fits key slots windows number id e
  none_lost windows number id (end.Ready x) is = is
  none_lost windows number id (end.Lost other) is = absurd (is.0 is.1)
  none_lost windows number id end.Freed is = is

  sits_lost : (windows : List (WindowPart R)) (number slot : ℕ) (d : DeskPart R) (p : Phase R) → Sits fits key slots windows 0 slot d p → Sits fits key slots windows number slot d p
  sits_lost windows number slot d p s = record {
    number = s.number;
    is_open = s.is_open;
    took = s.took;
    small = s.small;
    begun = s.begun;
    counted = s.counted;
    own = s.own;
    rising = s.rising;
    newest = s.newest;
    settled = λ i e at. let was = s.settled i e at in (was.0, none_lost windows number e.id e.end was.1);
    turn = s.turn;
    asked = inl (⊎_elim (λ z. z) (λ z. z) s.asked);
  }

  -- a window that is not the one that sets the word
  works_lost : (desks : List (DeskPart R)) (phases : List (Phase R)) (setter j k number : ℕ) (u : WindowPart R) → j ≢ k → Works fits key slots desks phases 0 setter j u → Works fits key slots desks phases number k j u
  works_lost desks phases setter j k number u other o = record {
    number_is = o.number_is;
    fair = o.fair;
    older = o.older;
    gives = o.gives;
    named = o.named;
    sees = o.sees;
    set_is = o.set_is ∙ (nothing_set (eqb j setter) ∙ ap (λ (b : Bool). if b then number else 0) (sym (ne_eqb j k other)));
    kept_is = inl (⊎_elim (λ z. z) (λ z. z) o.kept_is);
  }

  works_set : (desks : List (DeskPart R)) (phases : List (Phase R)) (setter k number : ℕ) (w : WindowPart R) → Works fits key slots desks phases 0 setter k w → Works fits key slots desks phases number k k (sets_number number w)
  works_set desks phases setter k number w o = record {
    number_is = o.number_is;
    fair = o.fair;
    older = o.older;
    gives = o.gives;
    named = o.named;
    sees = o.sees;
    set_is = ap (λ (b : Bool). if b then number else 0) (sym (eq-eqb k k refl));
    kept_is = inl (⊎_elim (λ z. z) (λ z. z) o.kept_is);
  }

  lost_ledger : (desks : List (DeskPart R)) (windows : List (WindowPart R)) (phases : List (Phase R)) (setter : ℕ) → Ledger fits key slots desks windows phases 0 setter
      → (k number : ℕ) (w : WindowPart R) → slice_get windows k ≡ Some w → k < length windows → Ledger fits key slots desks (set windows k (sets_number number w)) phases number k
  lost_ledger desks windows phases setter ledger k number w here inside =
      let v : WindowPart R = sets_number number w in
      let goes : (slot last : ℕ) (p : Phase R) → WindowGoes k slot slots last w p v p = λ slot last p. record { adds = λ i c at. at; bounds = λ id low. low; others = λ other x no is. is; waits_on = λ waits. waits; gives_on = λ id x is no. is } in record {
        desk_count = ledger.desk_count;
        phase_count = ledger.phase_count;
        window_count = length-set windows k v ∙ ledger.window_count;
        some_slot = ledger.some_slot;
        sits = λ j d p dj pj. sits_lost (set windows k v) number j d p (sits_on fits key slots windows k w v 0 (suc j) d.log.last p p here inside (goes (suc j) d.log.last p) j (λ z. omega arith) d p (ledger.sits j d p dj pj));
        works = λ j u uj. ⊎_elim
            (λ (x : (j ≡ k) × (v ≡ u)). subst (λ (y : ℕ × WindowPart R). Works fits key slots desks phases number k y.0 y.1) (λ i. (sym x.0 i, x.1 i)) (works_set desks phases setter k number w (ledger.works k w here)))
            (λ (x : (j ≢ k) × (slice_get windows j ≡ Some u)). works_lost desks phases setter j k number u x.0 (ledger.works j u x.1)) (either_set windows k j v u uj);
        once = once_still fits key slots windows k w v here refl ledger.once;
        setter_there = λ _. let count = length-set windows k v in omega arith;
      }

  shows_lost : (words : List ℕ) (homes : List (maybe.Option (Option (Taken R)))) (desks : List (DeskPart R)) (phases : List (Phase R)) (lost number : ℕ) → Shows fits key slots words homes desks phases lost → length desks ≡ slots
      → Shows fits key slots (set words (2 * slots) number) homes desks phases number
  shows_lost words homes desks phases lost number shows count = record {
    word_count = length-set words (2 * slots) number ∙ shows.word_count;
    states = λ j d p dj pj. let low = get_inside desks j d dj in get_or-set_other words (2 * slots) j number 0 (λ z. omega arith) ∙ shows.states j d p dj pj;
    deadlines = λ j d dj. let low = get_inside desks j d dj in get_or-set_other words (2 * slots) (slots + j) number 0 (λ z. omega arith) ∙ shows.deadlines j d dj;
    lost_is = get_or-set_same words (2 * slots) number 0 (let long = shows.word_count in omega arith);
    at_home = shows.at_home;
  }

module _ {R K : Type 0} (fits : K → ℕ → R → Type 0) (key : K) (slots n me : ℕ) (c : List (ℕ × Option (Taken R))) (w : WindowPart R) where
  pub sets_lost : (number : ℕ) → number ≢ 0
      → Allows (Kept fits key slots) n me (one_window (Some key) w, c) (2 * slots) (λ k. either (eqb k 0) number k) (set_lost (step n (2 * slots) 0 number maybe.none) (one_window (Some key) w, c))
  sets_lost number some state rule count at small =
      let f = find_window fits key slots state rule me w at in
      let o = f.works in
      let word : ℕ = get_or state.words (2 * slots) 0 in
      let Goal : Bool → Type 0 = λ hit. (view : View R K) × (act : Act (Option (Taken R))) × Valid state.homes c act × Kept fits key slots (stepped state (2 * slots) (either hit number word) me c view act)
      × MatchBool hit ((w.log.set ≡ 0) × ◌≡◌ {A = Me (Option (Taken R)) (View R K)} (view, carried_after c act) (one_window (Some key) (sets_number number w), c))
      (◌≡◌ {A = Me (Option (Taken R)) (View R K)} (view, carried_after c act) (one_window (Some key) (keeps_number word w), c)) in
      let hit : word ≡ 0 → Goal true = λ is.
      let none : rule.lost ≡ 0 = sym rule.shows.lost_is ∙ is in
      let ledger : Ledger fits key slots rule.desks rule.windows rule.phases 0 rule.setter = subst (λ (z : ℕ). Ledger fits key slots rule.desks rule.windows rule.phases z rule.setter) none rule.ledger in (
        one_window (Some key) (sets_number number w),
        keeps,
        tt,
        window_keeps fits key slots state rule me w (sets_number number w) at refl rule.phases number w.number
            (lost_ledger fits key slots rule.desks rule.windows rule.phases rule.setter ledger w.number number w f.window_at f.inside)
            (set state.words (2 * slots) number) state.homes (shows_lost fits key slots state.words state.homes rule.desks rule.phases rule.lost number rule.shows rule.ledger.desk_count),
        ((ledger.works w.number w f.window_at).set_is ∙ nothing_set (eqb w.number rule.setter), refl),
      ) in
      let miss : word ≢ 0 → Goal false = λ other. (
        one_window (Some key) (keeps_number word w),
        keeps,
        tt,
        window_keeps fits key slots state rule me w (keeps_number word w) at refl rule.phases rule.lost rule.setter
            (still_ledger fits key slots rule.desks rule.windows rule.phases rule.lost rule.setter rule.ledger w.number w (keeps_number word w) f.window_at f.inside refl refl
            (record { number_is = o.number_is; fair = o.fair; older = o.older; gives = o.gives; named = o.named; sees = o.sees; set_is = o.set_is; kept_is = inr rule.shows.lost_is }))
            (set state.words (2 * slots) word) state.homes
            (subst (λ (ws : List ℕ). Shows fits key slots ws state.homes rule.desks rule.phases rule.lost) (sym (word_kept state.words (2 * slots))) rule.shows),
        refl,
      ) in
      ⊎_elim (λ is. subst Goal (sym (eq-eqb word 0 is)) (hit is)) (λ other. subst Goal (sym (ne_eqb word 0 other)) (miss other)) (same_or word 0)
