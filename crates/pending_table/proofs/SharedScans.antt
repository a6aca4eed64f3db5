-- What a scan has seen of a slot, after its steps there.
use Rattle.std.proofs.Common.{◌≡◌, ◌≢◌, ℕ, ◌+◌, ◌-◌, ◌*◌, ◌/◌, ◌<◌, ◌≤◌, ◌==◌, Option, Some, None, Bool, if◌then◌else◌, MatchBool, eq-eqb, ne_eqb, List, [], ◌∷◌, ◌++◌, length, sym, refl, ap, ◌∙◌, subst, arith}
use mathlib.Core.Option as maybe
use Rattle.atomic_table.specs.Table.{Me, step}
use Rattle.pending_table.specs.Scans.{as_begun, IsScannedAt}
use Rattle.pending_table.specs.Seats.{one_window, IsWindowOf}
use Rattle.pending_table.specs.SharedPlays.{IsStateWord, the_window, on_window, sees_with, claims_with, gives_up, change_last, dated_sight, claimed_sight, missed_sight, saw_next, saw_due, claimed_due, put}
use Rattle.pending_table.specs.WindowLogs.{saw_log, claimed_log, expired_log}
use Rattle.pending_table.specs.Words.{slot_of, word_of}
use Rattle.pending_table.proofs.Scanning.{AllChecked, checked_more, expired_more, one_longer}
use Rattle.pending_table.proofs.SharedFrame.{one_element}
use Rattle.pending_table.proofs.SharedWindowSteps.{change_longer}
use Rattle.pending_table.specs.declared.answers.Taken.{Taken}
use Rattle.pending_table.specs.declared.answers.Taken.TheVariants.{Timeout}
use Rattle.pending_table.specs.declared.logs.Sight.{Sight}
use Rattle.pending_table.specs.declared.logs.Sight.TheVariants.{Word, Due, Claimed, Missed}
use Rattle.pending_table.specs.declared.logs.WindowLog.{WindowLog}
use Rattle.pending_table.specs.declared.shared.parts.View.{View}
use Rattle.pending_table.specs.declared.shared.parts.WindowPart.{WindowPart}
use Rattle.pending_table.specs.declared.word.SlotState.TheVariants as state

no_more : {A : Type 0} (l : List A) → l ++ [] ≡ l
no_more [] = refl
no_more (x ∷ xs) = ap (λ (l : List _). x ∷ l) (no_more xs)

-- the id of a word that shows it waiting
pub shows_id : (id word : ℕ) → word_of (state.Waiting id) ≡ word → word / 4 - 1 ≡ id
shows_id id word is = grind arith

module _ {R K : Type 0} (key : K) (m new : Me (Option (Taken R)) (View R K)) (is : IsWindowOf key m.0) where
  pub window_after : (f : WindowPart R → WindowPart R) → new.0 ≡ on_window f m.0 → IsWindowOf key new.0 × (the_window new.0 ≡ f (the_window m.0))
  window_after f e =
      let shape : new.0 ≡ one_window (Some key) (f (the_window m.0)) = e ∙ ap (on_window f) is in
      let part : the_window new.0 ≡ f (the_window m.0) = ap the_window shape in
      (shape ∙ ap (one_window (Some key)) (sym part), part)

module _ {R K : Type 0} (key : K) (now slot word id deadline : ℕ) (shows : word / 4 - 1 ≡ id) (m one two : Me (Option (Taken R)) (View R K)) (is : IsWindowOf key m.0) where
  -- the state was loaded, and then the deadline
  pub record Dated : Type 0 where
    pub first : IsWindowOf key one.0
    pub window : IsWindowOf key two.0
    pub seen : (the_window two.0).log ≡ saw_log ((if slot == 0 then [] else (the_window m.0).log.sights) ++ Due slot id deadline ∷ []) (the_window m.0).log

  pub dated_slot : (n at : ℕ) → saw_next (step n slot 0 0 maybe.none) m word one → saw_due (step n at 0 0 maybe.none) one deadline two → Dated
  dated_slot n at next due =
      let a = window_after key m one is (λ w. sees_with ((if slot == 0 then [] else w.log.sights) ++ Word slot word ∷ []) w) (ap (λ (y : Me (Option (Taken R)) (View R K)). y.0) next.1) in
      let b = window_after key one two a.0 (λ w. sees_with (change_last (dated_sight deadline) w.log.sights) w) (ap (λ (y : Me (Option (Taken R)) (View R K)). y.0) due) in record {
        first = a.0;
        window = b.0;
        seen = ap (λ (w : WindowPart R). w.log) b.1 ∙ (ap (λ (w : WindowPart R). saw_log (change_last (dated_sight deadline) w.log.sights) w.log) a.1
            ∙ (ap (λ (l : List Sight). saw_log l (the_window m.0).log) (change_longer (dated_sight deadline) (if slot == 0 then [] else (the_window m.0).log.sights) (Word slot word))
            ∙ ap (λ (k : ℕ). saw_log ((if slot == 0 then [] else (the_window m.0).log.sights) ++ Due slot k deadline ∷ []) (the_window m.0).log) shows));
      }

  -- the deadline is still to come
  pub still_due : Dated → now < deadline → IsScannedAt now slot (the_window m.0).log (the_window two.0).log
  still_due dated less = (
    Due slot id deadline,
    (refl, less),
    dated.seen ∙ (λ i. record (the_window m.0).log { claims = sym (no_more (the_window m.0).log.claims) i; sights = (if slot == 0 then [] else (the_window m.0).log.sights) ++ Due slot id deadline ∷ [] }),
  )

  last_due : Dated → (the_window two.0).log.sights ≡ (if slot == 0 then [] else (the_window m.0).log.sights) ++ Due slot id deadline ∷ []
  last_due dated = ap (λ (l : WindowLog R). l.sights) dated.seen

  -- what the claim owes
  pub due_last : Dated → deadline ≤ now → (d t : ℕ) × (◌≡◌ {A = Option (Taken R)} (Some (Timeout deadline now)) (Some (Timeout d t))) × (d ≤ t) × ((before : List Sight) × ((the_window two.0).log.sights ≡ before ++ Due slot id d ∷ []))
  due_last dated come = (deadline, now, refl, come, ((if slot == 0 then [] else (the_window m.0).log.sights), last_due dated))

  ClaimTold : Me (Option (Taken R)) (View R K) → ℕ → ℕ → Bool → Type 0
  ClaimTold three n found hit =
      MatchBool hit
      ((given : Taken R) × (maybe.some (Some (Timeout deadline now)) ≡ maybe.some (Some given)) × (slot_of n ((4 * (id + 1) + 1) / 4 - 1) ≡ slot)
      × (three ≡ (on_window (λ window. claims_with ((4 * (id + 1) + 1) / 4 - 1) given (change_last claimed_sight window.log.sights) window) two.0, (slot, None) ∷ two.1)))
      (IsStateWord found × (three ≡ (on_window (λ window. sees_with (change_last (missed_sight found) window.log.sights) window) two.0, two.1)))

  -- the claim found another word
  pub missed_due : (three : Me (Option (Taken R)) (View R K)) (n found : ℕ) → Dated → deadline ≤ now → found ≢ 4 * (id + 1) + 1
      → claimed_due (step n slot (4 * (id + 1) + 1) (4 * (id + 1) + 2) (maybe.some (Some (Timeout deadline now)))) two found three → IsScannedAt now slot (the_window m.0).log (the_window three.0).log
  unfolding ClaimTold
  missed_due three n found dated come other told =
      let t = subst (ClaimTold three n found) (ne_eqb found (4 * (id + 1) + 1) other) told in
      let c = window_after key two three dated.window (λ w. sees_with (change_last (missed_sight found) w.log.sights) w) (ap (λ (y : Me (Option (Taken R)) (View R K)). y.0) t.1) in
      let sights : List Sight = if slot == 0 then [] else (the_window m.0).log.sights in (
        Missed slot id deadline found,
        (refl, come, other),
        ap (λ (w : WindowPart R). w.log) c.1 ∙ (ap (λ (l : WindowLog R). saw_log (change_last (missed_sight found) l.sights) l) dated.seen
            ∙ (ap (λ (l : List Sight). saw_log l (the_window m.0).log) (change_longer (missed_sight found) sights (Due slot id deadline))
            ∙ (λ i. record (the_window m.0).log { claims = sym (no_more (the_window m.0).log.claims) i; sights = sights ++ Missed slot id deadline found ∷ [] }))),
      )

  -- the id was claimed, and the value put in
  pub claimed_slot : (three four last : Me (Option (Taken R)) (View R K)) (n at done found : ℕ) → Dated → deadline ≤ now → found ≡ 4 * (id + 1) + 1
      → claimed_due (step n slot (4 * (id + 1) + 1) (4 * (id + 1) + 2) (maybe.some (Some (Timeout deadline now)))) two found three → four.0 ≡ three.0 → put (step n at done 0 maybe.none) four done last
      → IsScannedAt now slot (the_window m.0).log (the_window last.0).log
  unfolding ClaimTold
  claimed_slot three four last n at done found dated come hit told same stored =
      let t = subst (ClaimTold three n found) (eq-eqb found (4 * (id + 1) + 1) hit) told in
      let given : t.0 ≡ Timeout deadline now = sym (one_element (Timeout deadline now) t.0 (maybe.some-injective (Some (Timeout deadline now)) (Some t.0) t.1)) in
      let back : (4 * (id + 1) + 1) / 4 - 1 ≡ id = again id in
      let c = window_after key two three dated.window (λ w. claims_with ((4 * (id + 1) + 1) / 4 - 1) t.0 (change_last claimed_sight w.log.sights) w) (ap (λ (y : Me (Option (Taken R)) (View R K)). y.0) t.3) in
      let sights : List Sight = if slot == 0 then [] else (the_window m.0).log.sights in
      let stays : (the_window last.0).log ≡ (the_window four.0).log = log_stays four.0 last.0 (ap (λ (y : Me (Option (Taken R)) (View R K)). y.0) stored) in (
        Claimed slot id deadline,
        (refl, come),
        stays ∙ (ap (λ (v : View R K). (the_window v).log) same ∙ (ap (λ (w : WindowPart R). w.log) c.1
            ∙ (ap (λ (l : WindowLog R). claimed_log ((4 * (id + 1) + 1) / 4 - 1) t.0 (change_last claimed_sight l.sights) l) dated.seen
            ∙ (λ i. claimed_log (back i) (given i) (change_longer claimed_sight sights (Due slot id deadline) i) (the_window m.0).log)))),
      )
    where
      again : (i : ℕ) → (4 * (i + 1) + 1) / 4 - 1 ≡ i
      again i = grind arith

      log_stays : (v w : View R K) → w ≡ on_window gives_up v → (the_window w).log ≡ (the_window v).log
      log_stays v w e = ap (λ (u : View R K). (the_window u).log) e ∙ kept v.windows
        where
          kept : (ws : List (WindowPart R)) → (the_window (on_window gives_up (record v { windows = ws }))).log ≡ (the_window (record v { windows = ws })).log
          kept [] = refl
          kept (x ∷ xs) = refl

module _ {R : Type 0} where
  begun_later : (slot : ℕ) (log : WindowLog R) → as_begun (slot + 1) log ≡ log
  begun_later slot log = ap (λ (b : Bool). saw_log (if b then [] else log.sights) log) (ne_eqb (slot + 1) 0 (λ e. omega arith))

  -- the scan of one more slot
  pub scan_on : (now slot : ℕ) (first old new : WindowLog R) → as_begun slot old ≡ expired_log now (as_begun slot old).sights first → length (as_begun slot old).sights ≡ slot → AllChecked now (as_begun slot old).sights → IsScannedAt now slot old new
      → (as_begun (slot + 1) new ≡ expired_log now (as_begun (slot + 1) new).sights first) × (length (as_begun (slot + 1) new).sights ≡ slot + 1) × AllChecked now (as_begun (slot + 1) new).sights
  scan_on now slot first old new inv long all scanned =
      let x = scanned.0 in
      let sights_are : new.sights ≡ (as_begun slot old).sights ++ x ∷ [] = ap (λ (l : WindowLog R). l.sights) scanned.2 in
      subst (λ (l : WindowLog R). (l ≡ expired_log now l.sights first) × (length l.sights ≡ slot + 1) × AllChecked now l.sights) (sym (begun_later slot new))
      (expired_more now first (as_begun slot old) new x inv scanned.2, ap (λ (l : List Sight). length l) sights_are ∙ one_longer (as_begun slot old).sights x slot long, checked_more now slot (as_begun slot old).sights new.sights x sights_are long all scanned.1)
