-- A scan over the slots of a table.
use Rattle.std.proofs.Common.{◌≡◌, ◌≢◌, ℕ, zero, suc, ◌+◌, ◌<◌, ◌≤◌, ◌⊎◌, ⊎_elim, inl, inr, Some, Bool, true, false, if◌then◌else◌, nat_lt, List, [], ◌∷◌, ◌++◌, length, get_or, set, slice_get, sym, refl, ap, ◌∙◌, subst, arith, append_assoc, length-append}
use Rattle.std.proofs.lemmas.Bool.{ltb-true, ltb-false}
use Rattle.pending_table.specs.WindowLogs.{claim, timeouts, expired_log}
use Rattle.pending_table.specs.WindowAnswers.{IsChecked}
use Rattle.pending_table.specs.PlainSlots.{sight_of, held_after_scan}
use Rattle.pending_table.specs.PlainTables.{log_at, held_at, sees, Sits, AllSit, IsScanned}
use Rattle.pending_table.proofs.Slots.{log_here, held_here, log_set, held_set, set_others}
use Rattle.pending_table.proofs.Sitting.{get_snoc, get_last, grows_by, sits_same, sits_expired, kept_by}
use Rattle.pending_table.specs.declared.answers.Taken.TheVariants.{Timeout}
use Rattle.pending_table.specs.declared.logs.Claim.{Claim}
use Rattle.pending_table.specs.declared.logs.Sight.{Sight}
use Rattle.pending_table.specs.declared.logs.Sight.TheVariants.{Word, Due, Claimed, Missed}
use Rattle.pending_table.specs.declared.logs.WindowLog.{WindowLog}
use Rattle.pending_table.specs.declared.plain.held.Held.{Held}
use Rattle.pending_table.specs.declared.plain.held.Held.TheVariants.{Unused, Free, Waiting, Done}
use Rattle.pending_table.specs.declared.plain.slot.PlainSlot.{PlainSlot}

pub same_or : (a b : ℕ) → (a ≡ b) ⊎ (a ≢ b)
same_or zero zero = inl refl
same_or zero (suc b) = inr (λ e. omega arith)
same_or (suc a) zero = inr (λ e. omega arith)
same_or (suc a) (suc b) = ⊎_elim (λ e. inl (ap suc e)) (λ n. inr (λ e. n (omega arith))) (same_or a b)

below_or : (a b : ℕ) → (a < b) ⊎ (b ≤ a)
below_or a zero = inr (omega arith)
below_or zero (suc b) = inl (omega arith)
below_or (suc a) (suc b) = ⊎_elim (λ l. inl (omega arith)) (λ l. inr (omega arith)) (below_or a b)

-- the slots below this one have been scanned, and the others are as they were
pub record ScannedTo {R : Type 0} (now next : ℕ) (old new : List (PlainSlot R)) : Type 0 where
  pub logs : (number : ℕ) → log_at new number ≡ log_at old number
  pub below : (number : ℕ) → number < next → held_at new number ≡ held_after_scan now (log_at old number).deadline (held_at old number)
  pub above : (number : ℕ) → next ≤ number → held_at new number ≡ held_at old number

-- each of the first sights is what a scan may see
abbrev pub AllChecked : ℕ → List Sight → Type 0
AllChecked now sights = (slot : ℕ) (sight : Sight) → slice_get sights slot ≡ Some sight → IsChecked now slot sight

pub checked_more : (now slot : ℕ) (old new : List Sight) (x : Sight) → new ≡ old ++ x ∷ [] → length old ≡ slot → AllChecked now old → IsChecked now slot x → AllChecked now new
checked_more now slot old new x is long all checked i sight at =
    ⊎_elim (λ here. all i sight here)
    (λ last. subst (λ (p : ℕ × Sight). IsChecked now p.0 p.1) (λ j. (sym (last.0 ∙ long) j, last.1 j)) checked)
    (get_snoc old x sight i (ap (λ (l : List Sight). slice_get l i) (sym is) ∙ at))

by_deadline : (now slot id deadline : ℕ) (b : Bool) → nat_lt now deadline ≡ b → IsChecked now slot (if b then Due slot id deadline else Claimed slot id deadline)
by_deadline now slot id deadline true is = (refl, ltb-true now deadline is)
by_deadline now slot id deadline false is = (refl, ltb-false now deadline is)

pub one_longer : (sights : List Sight) (x : Sight) (n : ℕ) → length sights ≡ n → length (sights ++ x ∷ []) ≡ n + 1
one_longer sights x n e = length-append sights (x ∷ []) ∙ ap (λ (k : ℕ). k + 1) e

at_or : (F : ℕ → Type 0) (i number : ℕ) → F i → ((other : ℕ) → other ≢ i → F other) → F number
at_or F i number here others = ⊎_elim (λ same. subst F (sym same) here) (λ other. others number other) (same_or number i)

module _ {R : Type 0} where
  pub sight_checked : (now slot deadline : ℕ) (h : Held R) → IsChecked now slot (sight_of now slot deadline h)
  sight_checked now slot deadline Unused = (refl, λ e. omega arith)
  sight_checked now slot deadline (Free id) = (refl, λ e. omega arith)
  sight_checked now slot deadline (Waiting id) = by_deadline now slot id deadline (nat_lt now deadline) refl
  sight_checked now slot deadline (Done id x) = (refl, λ e. omega arith)

  timeouts-append : (now : ℕ) (sights : List Sight) (x : Sight) → timeouts {R = R} now (sights ++ x ∷ []) ≡ timeouts now sights ++ timeouts now (x ∷ [])
  timeouts-append now [] x = refl
  timeouts-append now (Word s w ∷ ss) x = timeouts-append now ss x
  timeouts-append now (Due s id dl ∷ ss) x = timeouts-append now ss x
  timeouts-append now (Claimed s id dl ∷ ss) x = ap (λ (l : List (Claim R)). claim id (Timeout dl now) ∷ l) (timeouts-append now ss x)
  timeouts-append now (Missed s id dl w ∷ ss) x = timeouts-append now ss x

  -- one more sight of a scan
  pub expired_more : (now : ℕ) (first old new : WindowLog R) (x : Sight) → old ≡ expired_log now old.sights first → new ≡ sees old (x, now) → new ≡ expired_log now new.sights first
  expired_more now first old new x was is =
      let before : old.claims ≡ first.claims ++ timeouts now old.sights = ap (λ (w : WindowLog R). w.claims) was in
      let claims : old.claims ++ timeouts now (x ∷ []) ≡ first.claims ++ timeouts now (old.sights ++ x ∷ []) =
      ap (λ (l : List (Claim R)). l ++ timeouts now (x ∷ [])) before
      ∙ (append_assoc first.claims (timeouts now old.sights) (timeouts now (x ∷ [])) ∙ ap (λ (l : List (Claim R)). first.claims ++ l) (sym (timeouts-append now old.sights x))) in
      let same_set : old.set ≡ first.set = ap (λ (w : WindowLog R). w.set) was in
      let same_lost : old.lost ≡ first.lost = ap (λ (w : WindowLog R). w.lost) was in
      let made : sees old (x, now) ≡ expired_log now (old.sights ++ x ∷ []) first = λ j. record { claims = claims j; set = same_set j; lost = same_lost j; sights = old.sights ++ x ∷ [] } in
      is ∙ (made ∙ ap (λ (l : List Sight). expired_log now l first) (sym (ap (λ (w : WindowLog R). w.sights) is)))

  -- one more slot was scanned
  pub scanned_more : (now i : ℕ) (old slots : List (PlainSlot R)) (s t : PlainSlot R) → i < length slots → s ≡ get_or slots i s → t.log.value ≡ s.log.value
      → t.held ≡ held_after_scan now s.log.value.deadline s.held → ScannedTo now i old slots → ScannedTo now (i + 1) old (set slots i t)
  scanned_more now i old slots s t inside e log held before =
      let log_is : s.log.value ≡ log_at old i = sym (log_here slots i s inside e) ∙ before.logs i in
      let held_is : s.held ≡ held_at old i = sym (held_here slots i s inside e) ∙ before.above i (omega arith) in
      record {
        logs = λ number. at_or (λ n. log_at (set slots i t) n ≡ log_at old n) i number (log_set slots i t inside ∙ (log ∙ log_is)) (λ n other. (set_others slots i n t other).0 ∙ before.logs n);
        below = λ number lt. at_or (λ n. n < i + 1 → held_at (set slots i t) n ≡ held_after_scan now (log_at old n).deadline (held_at old n)) i number
            (λ _. held_set slots i t inside ∙ (held ∙ (λ j. held_after_scan now (log_is j).deadline (held_is j))))
            (λ n other less. (set_others slots i n t other).1 ∙ before.below n (omega arith)) lt;
        above = λ number le. (set_others slots i number t (λ same. omega arith)).1 ∙ before.above number (omega arith);
      }

  held_past : (slots : List (PlainSlot R)) (i : ℕ) → length slots ≤ i → held_at slots i ≡ Unused
  held_past [] i past = refl
  held_past (x ∷ xs) zero past = absurd (omega arith)
  held_past (x ∷ xs) (suc i) past = held_past xs i (omega arith)

  -- every slot has been scanned
  pub scanned_all : (now next : ℕ) (old new : List (PlainSlot R)) → length old ≤ next → ScannedTo now next old new → IsScanned now old new
  scanned_all now next old new all scanned number = (
    scanned.logs number,
    ⊎_elim (scanned.below number)
        (λ le. let past = held_past old number (omega arith) in scanned.above number le ∙ (past ∙ sym (ap (λ (h : Held R). held_after_scan now (log_at old number).deadline h) past)))
        (below_or number next),
  )

module _ {R K : Type 0} (fits : K → ℕ → R → Type 0) (key : K) where
  -- what is claimed of a slot that a scan sees
  pub scan_step : (now slot : ℕ) (old new : WindowLog R) (s t : PlainSlot R) (h : Held R) → s.held ≡ h → new ≡ sees old (sight_of now slot s.log.value.deadline h, now)
      → t.held ≡ held_after_scan now s.log.value.deadline h → t.log.value ≡ s.log.value → Sits fits key new s → Sits fits key new t
  scan_step now slot old new s t Unused is seen held log sits = sits_same fits key new s t (held ∙ sym is) log sits
  scan_step now slot old new s t (Free id) is seen held log sits = sits_same fits key new s t (held ∙ sym is) log sits
  scan_step now slot old new s t (Waiting id) is seen held log sits = by (nat_lt now s.log.value.deadline) refl seen held
    where
      by : (b : Bool) → nat_lt now s.log.value.deadline ≡ b → new ≡ sees old (if b then Due slot id s.log.value.deadline else Claimed slot id s.log.value.deadline, now)
          → t.held ≡ (if b then Waiting id else Done id (Timeout s.log.value.deadline now)) → Sits fits key new t
      by true lt seen held = sits_same fits key new s t (held ∙ sym is) log sits
      by false lt seen held =
          sits_expired fits key new s t id now held log (ltb-false now s.log.value.deadline lt)
          (0, new, refl, (length old.claims, ap (λ (w : WindowLog R). slice_get w.claims (length old.claims)) seen ∙ get_last old.claims (claim id (Timeout s.log.value.deadline now)))) sits
  scan_step now slot old new s t (Done id x) is seen held log sits = sits_same fits key new s t (held ∙ sym is) log sits

  pub scan_kept : (now slot : ℕ) (old new : WindowLog R) (slots : List (PlainSlot R)) (s t : PlainSlot R) (x : Sight) → slot < length slots → s ≡ get_or slots slot s → x ≡ sight_of now slot s.log.value.deadline s.held
      → new ≡ sees old (x, now) → t.held ≡ held_after_scan now s.log.value.deadline s.held → t.log.value ≡ s.log.value → ∥ AllSit fits key old slots ∥₁ → ∥ AllSit fits key new (set slots slot t) ∥₁
  scan_kept now slot old new slots s t x inside e sight seen held log all =
      kept_by fits key old new
      (grows_by old new (timeouts now (x ∷ [])) (ap (λ (w : WindowLog R). w.claims) seen) (ap (λ (w : WindowLog R). w.set) seen)) slots slot s t inside e
      (scan_step now slot old new s t s.held refl (seen ∙ ap (λ (y : Sight). sees old (y, now)) sight) held log) all
