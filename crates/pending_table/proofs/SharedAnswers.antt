-- What a desk's steps, one after another, answer.
use Rattle.std.proofs.Common.{◌≡◌, ◌≢◌, ◌⊎◌, ℕ, ◌+◌, ◌-◌, ◌*◌, ◌/◌, ◌<◌, ◌≤◌, ⊎_elim, inl, inr, Option, Some, None, Bool, true, MatchBool, eq-eqb, ne_eqb, [], ◌∷◌, ◌++◌, sym, refl, ap, ◌∙◌, subst, arith}
use mathlib.Core.Option as maybe
use Rattle.atomic_table.specs.Table.{Me, step, rest}
use Rattle.pending_table.specs.DeskAnswers.{Leaves, Looks}
use Rattle.pending_table.specs.DeskLogs.{opening, open_id, opened_log, read_log, ended_log, state_read, lost_read}
use Rattle.pending_table.specs.Seats.{one_desk, IsDeskOf}
use Rattle.pending_table.specs.SharedPlays.{the_desk, on_desk, dates, opens, loads, takes, empties, frees_with, took_value, looked, met, lost_id, left_id}
use Rattle.pending_table.specs.Taken.{Suits}
use Rattle.pending_table.proofs.Scanning.{same_or}
use Rattle.pending_table.proofs.SharedFrame.{one_element}
use Rattle.pending_table.proofs.SharedShows.{no_element}
use Rattle.pending_table.specs.declared.answers.Abandoned.TheVariants as abandoned
use Rattle.pending_table.specs.declared.answers.Look.TheVariants as look
use Rattle.pending_table.specs.declared.answers.Taken.{Taken}
use Rattle.pending_table.specs.declared.logs.DeskLog.{DeskLog}
use Rattle.pending_table.specs.declared.logs.End.TheVariants as end
use Rattle.pending_table.specs.declared.logs.Reads.{Reads}
use Rattle.pending_table.specs.declared.shared.parts.DeskPart.{DeskPart}
use Rattle.pending_table.specs.declared.shared.parts.View.{View}

module _ {R K : Type 0} (key : K) (slot : ℕ) where
  -- the seat's desk after a step
  pub after_step : (f : DeskPart R → DeskPart R) (v new : View R K) → ((d : DeskPart R) → (f d).slot ≡ d.slot) → IsDeskOf key slot v → new ≡ on_desk f v → IsDeskOf key slot new × (the_desk new ≡ f (the_desk v))
  after_step f v new same is e =
      let shape : new ≡ one_desk (Some key) (f (the_desk v)) = e ∙ ap (on_desk f) is.0 in
      let part : the_desk new ≡ f (the_desk v) = ap the_desk shape in
      ((shape ∙ ap (one_desk (Some key)) (sym part), ap (λ (y : DeskPart R). y.slot) part ∙ (same (the_desk v) ∙ is.1)), part)

module _ {R : Type 0} where
  pub opened_is : (id deadline : ℕ) (d : DeskPart R) → (opens (4 * (id + 1) + 1) (dates deadline d)).log ≡ opened_log id deadline d.log
  opened_is id deadline d =
      let quarter : (4 * (id + 1) + 1) / 4 ≡ id + 1 = grind arith in
      let back : (4 * (id + 1) + 1) / 4 - 1 ≡ id = grind arith in
      λ i. record d.log { last = quarter i; is_open = true; deadline = deadline; opened = d.log.opened ++ opening (back i) deadline ∷ [] }

module _ {R K : Type 0} (fits : K → ℕ → R → Type 0) (key : K) (log : DeskLog R) (last : ℕ) (last_is : log.last ≡ last) (begun : 0 < last) where
  pub ready : (r : Reads) (found : ℕ) (given : Taken R) (new : DeskLog R) → log.reads.loads ≤ r.loads → found ≡ 4 * last + 3 → Suits fits key (open_id log) log.deadline given → new ≡ ended_log (state_read found r) (end.Ready given) log → Looks fits key log (look.Ready given) new
  ready r found given new up is suits e = (suits, (state_read found r, (omega arith, omega arith), e))

  pub pending_claimed : (r : Reads) (found : ℕ) (new : DeskLog R) → log.reads.loads ≤ r.loads → found ≡ 4 * last + 2 → new ≡ read_log (state_read found r) log → Looks fits key log look.Pending new
  pending_claimed r found new up is e = (state_read found r, inl (omega arith, omega arith), e)

  pub pending_waiting : (found number : ℕ) (new : DeskLog R) → found ≡ 4 * last + 1 → number ≡ 0 → new ≡ read_log (lost_read number (state_read found log.reads)) log → Looks fits key log look.Pending new
  pending_waiting found number new is zero_is e = (lost_read number (state_read found log.reads), inr ((omega arith, omega arith), (omega arith, zero_is)), e)

  pub lost : (found again number : ℕ) (new : DeskLog R) → again ≡ 4 * last + 1 → number ≢ 0 → new ≡ ended_log (state_read again (lost_read number (state_read found log.reads))) (end.Lost number) log → Looks fits key log (look.Lost number) new
  lost found again number new is some e = (some, (state_read again (lost_read number (state_read found log.reads)), (omega arith, omega arith), (omega arith, refl), e))

  -- the same after an earlier read
  pub ready_later : (r : Reads) (found : ℕ) (given : Taken R) (before new : DeskLog R) → before ≡ read_log r log → log.reads.loads ≤ r.loads → found ≡ 4 * last + 3 → Suits fits key (open_id before) before.deadline given
      → new ≡ ended_log (state_read found before.reads) (end.Ready given) before → Looks fits key log (look.Ready given) new
  ready_later r found given before new same up is suits e =
      ready r found given new up is (subst (λ (l : DeskLog R). Suits fits key (open_id l) l.deadline given) same suits) (e ∙ ap (λ (l : DeskLog R). ended_log (state_read found l.reads) (end.Ready given) l) same)

  pub claimed_later : (r : Reads) (found : ℕ) (before new : DeskLog R) → before ≡ read_log r log → log.reads.loads ≤ r.loads → found ≡ 4 * last + 2 → new ≡ read_log (state_read found before.reads) before → Looks fits key log look.Pending new
  claimed_later r found before new same up is e = pending_claimed r found new up is (e ∙ ap (λ (l : DeskLog R). read_log (state_read found l.reads) l) same)

  pub lost_later : (found again number : ℕ) (before new : DeskLog R) → before ≡ read_log (lost_read number (state_read found log.reads)) log → again ≡ 4 * last + 1 → number ≢ 0
      → new ≡ ended_log (state_read again before.reads) (end.Lost before.reads.lost) before → Looks fits key log (look.Lost number) new
  lost_later found again number before new same is some e = lost found again number new is some (e ∙ ap (λ (l : DeskLog R). ended_log (state_read again l.reads) (end.Lost l.reads.lost) l) same)

module _ {R : Type 0} (log : DeskLog R) (last : ℕ) (last_is : log.last ≡ last) (begun : 0 < last) where
  pub left_free : (found : ℕ) (new : DeskLog R) → found ≡ 4 * last + 1 → new ≡ ended_log (state_read found log.reads) end.Freed log → Leaves log abandoned.Free new
  left_free found new is e = (state_read found log.reads, (omega arith, omega arith), e)

  pub left_claimed : (found : ℕ) (new : DeskLog R) → (found ≡ 4 * last + 2) ⊎ (found ≡ 4 * last + 3) → new ≡ read_log (state_read found log.reads) log → Leaves log abandoned.Claimed new
  left_claimed found new which e = (state_read found log.reads, ⊎_elim (λ two. inl (omega arith, omega arith)) (λ three. inr (omega arith, omega arith)) which, e)

module _ {R K : Type 0} (fits : K → ℕ → R → Type 0) (key : K) (n slot last : ℕ) (m new : Me (Option (Taken R)) (View R K)) (found : ℕ) (last_is : (the_desk m.0).log.last ≡ last) where
  -- what a load of the state told
  pub looked_done : looked fits (step n slot 0 0 maybe.none) m found new → found ≡ 4 * last + 3 → took_value fits (step n slot 0 0 maybe.none) m found new
  looked_done told is = ⊎_elim (λ took. took) (λ other. absurd (⊎_elim (λ one. omega arith) (λ two. omega arith) other.0)) told

  pub looked_claimed : looked fits (step n slot 0 0 maybe.none) m found new → found ≢ 4 * last + 3 → new ≡ (on_desk (loads found) m.0, m.1)
  looked_claimed told not_done = ⊎_elim (λ took. absurd (not_done (took.0 ∙ ap (λ (k : ℕ). 4 * k + 3) last_is))) (λ other. other.1) told

  pub looked_waiting : looked fits (step n slot 0 0 maybe.none) m found new → found ≢ 4 * last + 3 → found ≢ 4 * last + 2 → found ≡ 4 * last + 1
  looked_waiting told not_done not_claimed = ⊎_elim (λ took. absurd (not_done (took.0 ∙ ap (λ (k : ℕ). 4 * k + 3) last_is)))
      (λ other. ⊎_elim (λ one. one ∙ ap (λ (k : ℕ). 4 * k + 1) last_is) (λ two. absurd (not_claimed (two ∙ ap (λ (k : ℕ). 4 * k + 2) last_is))) other.0) told

module _ {R K : Type 0} (fits : K → ℕ → R → Type 0) (key : K) (n slot last free : ℕ) (m new : Me (Option (Taken R)) (View R K)) (found : ℕ) (last_is : (the_desk m.0).log.last ≡ last) where
  -- what an exchange from waiting told
  Told : Bool → Type 0
  Told hit = MatchBool hit (new ≡ (on_desk (λ desk. frees_with found (end.Lost desk.log.reads.lost) desk) m.0, m.1))
      (took_value fits (step n slot (4 * last + 1) free maybe.none) m found new ⊎ ((found ≡ 4 * (the_desk m.0).log.last + 2) × (new ≡ (on_desk (loads found) m.0, m.1))))

  lost_missed : lost_id fits (step n slot (4 * last + 1) free maybe.none) m found new → found ≢ 4 * last + 1
      → took_value fits (step n slot (4 * last + 1) free maybe.none) m found new ⊎ ((found ≡ 4 * (the_desk m.0).log.last + 2) × (new ≡ (on_desk (loads found) m.0, m.1)))
  unfolding Told
  lost_missed told other = subst Told (ne_eqb found (4 * last + 1) other) told

  pub lost_done : lost_id fits (step n slot (4 * last + 1) free maybe.none) m found new → found ≡ 4 * last + 3 → took_value fits (step n slot (4 * last + 1) free maybe.none) m found new
  lost_done told is = ⊎_elim (λ took. took) (λ claimed. absurd (let two = claimed.0 in omega arith)) (lost_missed told (λ one. omega arith))

  pub lost_claimed : lost_id fits (step n slot (4 * last + 1) free maybe.none) m found new → found ≡ 4 * last + 2 → new ≡ (on_desk (loads found) m.0, m.1)
  lost_claimed told is = ⊎_elim (λ took. absurd (let three = took.0 in omega arith)) (λ claimed. claimed.1) (lost_missed told (λ one. omega arith))

  pub lost_waiting : lost_id fits (step n slot (4 * last + 1) free maybe.none) m found new → found ≢ 4 * last + 3 → found ≢ 4 * last + 2 → (found ≡ 4 * last + 1) × (new ≡ (on_desk (λ desk. frees_with found (end.Lost desk.log.reads.lost) desk) m.0, m.1))
  unfolding Told
  lost_waiting told not_done not_claimed = ⊎_elim
      (λ is. (is, subst Told (eq-eqb found (4 * last + 1) is) told))
      (λ other. absurd (⊎_elim (λ took. not_done (took.0 ∙ ap (λ (k : ℕ). 4 * k + 3) last_is)) (λ claimed. not_claimed (claimed.0 ∙ ap (λ (k : ℕ). 4 * k + 2) last_is)) (lost_missed told other)))
      (same_or found (4 * last + 1))

  Left : Bool → Type 0
  Left hit = MatchBool hit (new ≡ (on_desk (frees_with found end.Freed) m.0, m.1)) (met (step n slot (4 * last + 1) free maybe.none) m found new)

  pub left_waiting : left_id (step n slot (4 * last + 1) free maybe.none) m found new → found ≡ 4 * last + 1 → new ≡ (on_desk (frees_with found end.Freed) m.0, m.1)
  unfolding Left
  left_waiting told is = subst Left (eq-eqb found (4 * last + 1) is) told

  pub left_met : left_id (step n slot (4 * last + 1) free maybe.none) m found new → found ≢ 4 * last + 1 → ((found ≡ 4 * last + 2) ⊎ (found ≡ 4 * last + 3)) × (new ≡ (on_desk (loads found) m.0, m.1))
  unfolding Left
  left_met told other =
      let t = subst Left (ne_eqb found (4 * last + 1) other) told in
      (⊎_elim (λ two. inl (two ∙ ap (λ (k : ℕ). 4 * k + 2) last_is)) (λ three. inr (three ∙ ap (λ (k : ℕ). 4 * k + 3) last_is)) t.0, t.1)

module _ {R K : Type 0} (fits : K → ℕ → R → Type 0) (key : K) (slot : ℕ) where
  -- a desk that took a value, which is in the slot that it has
  pub record Took (m new : Me (Option (Taken R)) (View R K)) (found : ℕ) : Type 0 where
    pub given : Taken R
    pub desk : IsDeskOf key slot new.0
    pub part : the_desk new.0 ≡ takes found given (the_desk m.0)
    pub suits : Suits fits key (open_id (the_desk m.0).log) (the_desk m.0).log.deadline given
    pub carried : new.1 ≡ (slot, Some given) ∷ m.1

  pub took_it : (n a b found : ℕ) (m new : Me (Option (Taken R)) (View R K)) → IsDeskOf key slot m.0 → took_value fits (step n slot a b maybe.none) m found new → Took m new found
  took_it n a b found m new is told =
      let t = told.1 in
      let s = after_step key slot (takes found t.0) m.0 new.0 (λ d. refl) is (ap (λ (y : Me (Option (Taken R)) (View R K)). y.0) t.2) in record {
        given = t.0;
        desk = s.0;
        part = s.1;
        suits = t.1 key (ap (λ (v : View R K). v.key) is.0);
        carried = ap (λ (y : Me (Option (Taken R)) (View R K)). y.1) t.2;
      }

  pub took_holds : (found : ℕ) (m new : Me (Option (Taken R)) (View R K)) → Took m new found → new.1 ≡ (slot, (the_desk new.0).taken) ∷ rest new.1
  took_holds found m new t =
      let has : (the_desk new.0).taken ≡ Some t.given = ap (λ (y : DeskPart R). y.taken) t.part in
      let others : rest new.1 ≡ m.1 = ap rest t.carried in
      t.carried ∙ (λ i. (slot, sym has i) ∷ sym others i)

  pub took_some : (found : ℕ) (m new : Me (Option (Taken R)) (View R K)) → Took m new found → (the_desk new.0).taken ≢ None
  took_some found m new t none = no_element t.given (sym none ∙ ap (λ (y : DeskPart R). y.taken) t.part)

  -- the seat after the value was taken out
  pub record Emptied (m last : Me (Option (Taken R)) (View R K)) (found : ℕ) (result : Taken R) : Type 0 where
    pub desk : IsDeskOf key slot last.0
    pub log : (the_desk last.0).log ≡ ended_log (state_read found (the_desk m.0).log.reads) (end.Ready result) (the_desk m.0).log
    pub taken : (the_desk last.0).taken ≡ None
    pub carried : last.1 ≡ m.1
    pub suits : Suits fits key (open_id (the_desk m.0).log) (the_desk m.0).log.deadline result

  pub emptied_it : (found : ℕ) (m new last : Me (Option (Taken R)) (View R K)) (result : Taken R) → Took m new found → (the_desk new.0).taken ≡ Some result → last ≡ (on_desk empties new.0, rest new.1) → Emptied m last found result
  emptied_it found m new last result t has e =
      let same : t.given ≡ result = one_element t.given result (sym (ap (λ (y : DeskPart R). y.taken) t.part) ∙ has) in
      let s = after_step key slot empties new.0 last.0 (λ d. refl) t.desk (ap (λ (y : Me (Option (Taken R)) (View R K)). y.0) e) in
      let whole : the_desk last.0 ≡ empties (takes found t.given (the_desk m.0)) = s.1 ∙ ap empties t.part in record {
        desk = s.0;
        log = ap (λ (y : DeskPart R). y.log) whole ∙ ap (λ (y : Taken R). ended_log (state_read found (the_desk m.0).log.reads) (end.Ready y) (the_desk m.0).log) same;
        taken = ap (λ (y : DeskPart R). y.taken) whole;
        carried = ap (λ (y : Me (Option (Taken R)) (View R K)). y.1) e ∙ ap rest t.carried;
        suits = subst (Suits fits key (open_id (the_desk m.0).log) (the_desk m.0).log.deadline) same t.suits;
      }
