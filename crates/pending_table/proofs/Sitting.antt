-- What lies in the slots and how desks ended, as the window's record grows and slots change.
use Rattle.std.proofs.Common.{◌≡◌, ◌≢◌, ℕ, zero, suc, ◌+◌, ◌<◌, ◌≤◌, ◌⊎◌, ⊎_elim, inl, inr, Option, Some, None, List, [], ◌∷◌, ◌++◌, length, get_or, set, slice_get, sym, refl, ap, ◌∙◌, subst, arith}
use Rattle.std.proofs.Math.Logic.{∥∥₁_elim, ∥∥₁_map}
use Rattle.std.proofs.Math.Nat.{ℕ_set}
use Rattle.std.specs.Coded.{×_prop, Unit-prop, le_prop}
use Rattle.pending_table.specs.Words.{last_of}
use Rattle.pending_table.specs.Taken.{IsOfferable, Suits}
use Rattle.pending_table.specs.DeskLogs.{ending, open_id}
use Rattle.pending_table.specs.WindowLogs.{claim}
use Rattle.pending_table.specs.Accounts.{IsClaimed, IsBacked, IsAccounted}
use Rattle.pending_table.specs.PlainSlots.{shown, looked, held_after_look, leaves, held_after_abandon}
use Rattle.pending_table.specs.PlainTables.{log_at, held_at, Sits, AllSit, AllUnused}
use Rattle.pending_table.specs.declared.answers.Taken.{Taken}
use Rattle.pending_table.specs.declared.answers.Taken.TheVariants.{Reply, Timeout, Broken, NoMemory}
use Rattle.pending_table.specs.declared.logs.Claim.{Claim}
use Rattle.pending_table.specs.declared.logs.DeskLog.{DeskLog}
use Rattle.pending_table.specs.declared.logs.End.{End}
use Rattle.pending_table.specs.declared.logs.End.TheVariants as end
use Rattle.pending_table.specs.declared.logs.Ended.{Ended}
use Rattle.pending_table.specs.declared.logs.WindowLog.{WindowLog}
use Rattle.pending_table.specs.declared.plain.held.Held.{Held}
use Rattle.pending_table.specs.declared.plain.held.Held.TheVariants.{Unused, Free, Waiting, Done}
use Rattle.pending_table.specs.declared.plain.slot.PlainSlot.{PlainSlot}

module _ {A : Type 0} where
  no_element : (a : A) → None ≡ Some a → ⊥
  no_element a e = subst (λ (o : Option A). elim o as (λ _. Type 0) [ None ↦ Unit {0} | Some b ↦ ⊥ ]) e tt

  same_element : (a b : A) → Some a ≡ Some b → a ≡ b
  same_element a b e = ap (λ (o : Option A). elim o as (λ _. A) [ None ↦ a | Some c ↦ c ]) e

  pub get_set : (l : List A) (i j : ℕ) (a b : A) → slice_get (set l i a) j ≡ Some b → ((j ≡ i) × (a ≡ b)) ⊎ (slice_get l j ≡ Some b)
  get_set [] i j a b e = inr e
  get_set (x ∷ xs) zero zero a b e = inl (refl, same_element a b e)
  get_set (x ∷ xs) zero (suc j) a b e = inr e
  get_set (x ∷ xs) (suc i) zero a b e = inr e
  get_set (x ∷ xs) (suc i) (suc j) a b e = ⊎_elim (λ t. inl (ap suc t.0, t.1)) inr (get_set xs i j a b e)

  pub get_here : (l : List A) (i : ℕ) (a : A) → i < length l → a ≡ get_or l i a → slice_get l i ≡ Some a
  get_here [] i a inside e = absurd (omega arith)
  get_here (x ∷ xs) zero a inside e = ap Some (sym e)
  get_here (x ∷ xs) (suc i) a inside e = get_here xs i a (omega arith) e

  pub get_longer : (l m : List A) (i : ℕ) (a : A) → slice_get l i ≡ Some a → slice_get (l ++ m) i ≡ Some a
  get_longer [] m i a e = absurd (no_element a e)
  get_longer (x ∷ xs) m zero a e = e
  get_longer (x ∷ xs) m (suc i) a e = get_longer xs m i a e

  pub get_last : (l : List A) (a : A) → slice_get (l ++ a ∷ []) (length l) ≡ Some a
  get_last [] a = refl
  get_last (x ∷ xs) a = get_last xs a

  pub get_snoc : (l : List A) (a b : A) (i : ℕ) → slice_get (l ++ a ∷ []) i ≡ Some b → (slice_get l i ≡ Some b) ⊎ ((i ≡ length l) × (a ≡ b))
  get_snoc [] a b zero e = inr (refl, same_element a b e)
  get_snoc [] a b (suc i) e = absurd (no_element b e)
  get_snoc (x ∷ xs) a b zero e = inl e
  get_snoc (x ∷ xs) a b (suc i) e = ⊎_elim inl (λ t. inr (ap suc t.0, t.1)) (get_snoc xs a b i e)

  pub get_alone : (a b : A) (i : ℕ) → slice_get (a ∷ []) i ≡ Some b → a ≡ b
  get_alone a b zero e = same_element a b e
  get_alone a b (suc i) e = absurd (no_element b e)

module _ {R : Type 0} where
  -- what the earlier record backs, the later one backs
  pub record Grows (old new : WindowLog R) : Type 0 where
    pub claims : (place : ℕ) (c : Claim R) → slice_get old.claims place ≡ Some c → slice_get new.claims place ≡ Some c
    pub set : (number : ℕ) → number ≢ 0 → old.set ≡ number → new.set ≡ number

  pub grows_by : (old new : WindowLog R) (more : List (Claim R)) → new.claims ≡ old.claims ++ more → new.set ≡ old.set → Grows old new
  grows_by old new more claims same = record {
    claims = λ place c at. ap (λ (l : List (Claim R)). slice_get l place) claims ∙ get_longer old.claims more place c at;
    set = λ number some is. same ∙ is;
  }

  pub grows_same : (old new : WindowLog R) → new.claims ≡ old.claims → new.set ≡ old.set → Grows old new
  grows_same old new claims same = record {
    claims = λ place c at. ap (λ (l : List (Claim R)). slice_get l place) claims ∙ at;
    set = λ number some is. same ∙ is;
  }

  pub grows_set : (old new : WindowLog R) → new.claims ≡ old.claims → old.set ≡ 0 → Grows old new
  grows_set old new claims none = record {
    claims = λ place c at. ap (λ (l : List (Claim R)). slice_get l place) claims ∙ at;
    set = λ number some is. absurd (some (sym is ∙ none));
  }

  claimed_on : (old new : WindowLog R) → Grows old new → (id : ℕ) (x : Taken R) → IsClaimed (old ∷ []) id x → IsClaimed (new ∷ []) id x
  claimed_on old new g id x is =
      (0, new, refl, (is.3.0, g.claims is.3.0 (claim id x) (ap (λ (w : WindowLog R). slice_get w.claims is.3.0) (get_alone old is.1 is.0 is.2) ∙ is.3.1)))

  backed_on : (old new : WindowLog R) → Grows old new → (id : ℕ) (e : End R) → IsBacked (old ∷ []) id e → IsBacked (new ∷ []) id e
  backed_on old new g id (end.Ready x) is = claimed_on old new g id x is
  backed_on old new g id (end.Lost n) is = (is.0, (0, new, refl, g.set n is.0 (ap (λ (w : WindowLog R). w.set) (get_alone old is.1.1 is.1.0 is.1.2) ∙ is.1.3)))
  backed_on old new g id end.Freed is = tt

  -- one more end of a desk is backed
  pub accounted_more : (windows : List (WindowLog R)) (old new : DeskLog R) (id : ℕ) (e : End R) → new.ended ≡ old.ended ++ ending id e ∷ [] → IsBacked windows id e → IsAccounted windows old → IsAccounted windows new
  accounted_more windows old new id e is backed all place f at =
      ⊎_elim (λ here. all place f here) (λ last. subst (λ (y : Ended R). IsBacked windows y.id y.end) last.1 backed)
      (get_snoc old.ended (ending id e) f place (ap (λ (l : List (Ended R)). slice_get l place) (sym is) ∙ at))

  pub accounted_same : (windows : List (WindowLog R)) (old new : DeskLog R) → new.ended ≡ old.ended → IsAccounted windows old → IsAccounted windows new
  accounted_same windows old new is all place f at = all place f (ap (λ (l : List (Ended R)). slice_get l place) (sym is) ∙ at)

  -- what a slot that isn't done can't hold
  waiting_done : (i id : ℕ) (x : Taken R) → Waiting i ≡ Done id x → ⊥
  waiting_done i id x e = subst (λ (h : Held R). elim h as (λ _. Type 0) [ Unused ↦ ⊥ | Free j ↦ ⊥ | Waiting j ↦ Unit {0} | Done j y ↦ ⊥ ]) e tt

  free_done : (i id : ℕ) (x : Taken R) → Free i ≡ Done id x → ⊥
  free_done i id x e = subst (λ (h : Held R). elim h as (λ _. Type 0) [ Unused ↦ ⊥ | Free j ↦ Unit {0} | Waiting j ↦ ⊥ | Done j y ↦ ⊥ ]) e tt

  unused_done : (id : ℕ) (x : Taken R) → Unused ≡ Done id x → ⊥
  unused_done id x e = subst (λ (h : Held R). elim h as (λ _. Type 0) [ Unused ↦ Unit {0} | Free j ↦ ⊥ | Waiting j ↦ ⊥ | Done j y ↦ ⊥ ]) e tt

  done_id : (i id : ℕ) (y x : Taken R) → Done i y ≡ Done id x → i ≡ id
  done_id i id y x e = ap (λ (h : Held R). elim h as (λ _. ℕ) [ Unused ↦ i | Free j ↦ i | Waiting j ↦ i | Done j z ↦ j ]) e

  done_value : (i id : ℕ) (y x : Taken R) → Done i y ≡ Done id x → y ≡ x
  done_value i id y x e = ap (λ (h : Held R). elim h as (λ _. Taken R) [ Unused ↦ y | Free j ↦ y | Waiting j ↦ y | Done j z ↦ z ]) e

module _ {R K : Type 0} (fits : K → ℕ → R → Type 0) (key : K) where
  -- a slot that changes keeps what the others have
  pub all_set : (w : WindowLog R) (slots : List (PlainSlot R)) (i : ℕ) (t : PlainSlot R) → Sits fits key w t → AllSit fits key w slots → AllSit fits key w (set slots i t)
  all_set w slots i t sits all j u at =
      ⊎_elim (λ here. subst (Sits fits key w) here.1 sits) (λ other. all j u other) (get_set slots i j t u at)

  sits_on : (old new : WindowLog R) → Grows old new → (s : PlainSlot R) → Sits fits key old s → Sits fits key new s
  sits_on old new g s sits = record {
    suit = sits.suit;
    claimed = λ id x is. claimed_on old new g id x (sits.claimed id x is);
    accounted = λ place e at. backed_on old new g e.id e.end (sits.accounted place e at);
  }

  pub all_on : (old new : WindowLog R) → Grows old new → (slots : List (PlainSlot R)) → AllSit fits key old slots → AllSit fits key new slots
  all_on old new g slots all j s at = sits_on old new g s (all j s at)

  -- a slot that isn't done
  sits_bare : (w : WindowLog R) (t : PlainSlot R) → ((id : ℕ) (x : Taken R) → t.held ≡ Done id x → ⊥) → IsAccounted (w ∷ []) t.log.value → Sits fits key w t
  sits_bare w t bare accounted = record {
    suit = λ id x is. absurd (bare id x is);
    claimed = λ id x is. absurd (bare id x is);
    accounted = accounted;
  }

  -- a slot that is done
  sits_done : (w : WindowLog R) (t : PlainSlot R) (i : ℕ) (y : Taken R) → t.held ≡ Done i y → Suits fits key i t.log.value.deadline y → IsClaimed (w ∷ []) i y → IsAccounted (w ∷ []) t.log.value → Sits fits key w t
  sits_done w t i y done suit claimed accounted = record {
    suit = λ id x is. subst (λ (p : ℕ × Taken R). Suits fits key p.0 t.log.value.deadline p.1) (λ j. (done_id i id y x (sym done ∙ is) j, done_value i id y x (sym done ∙ is) j)) suit;
    claimed = λ id x is. subst (λ (p : ℕ × Taken R). IsClaimed (w ∷ []) p.0 p.1) (λ j. (done_id i id y x (sym done ∙ is) j, done_value i id y x (sym done ∙ is) j)) claimed;
    accounted = accounted;
  }

  -- an id was opened
  pub sits_opened : (w : WindowLog R) (s t : PlainSlot R) (id : ℕ) → t.held ≡ Waiting id → t.log.value.ended ≡ s.log.value.ended → Sits fits key w s → Sits fits key w t
  sits_opened w s t id held ended sits =
      sits_bare w t (λ j x is. waiting_done id j x (sym held ∙ is)) (accounted_same (w ∷ []) s.log.value t.log.value ended sits.accounted)

  look_by : (w : WindowLog R) (s t : PlainSlot R) (h : Held R) (lost : ℕ) → s.held ≡ h → w.set ≡ lost → t.held ≡ held_after_look h lost → t.log.value ≡ looked h lost s.log.value → Sits fits key w s → Sits fits key w t
  look_by w s t Unused lost is set now log sits = sits_bare w t (λ j x e. unused_done j x (sym now ∙ e)) (accounted_same (w ∷ []) s.log.value t.log.value (ap (λ (d : DeskLog R). d.ended) log) sits.accounted)
  look_by w s t (Free i) lost is set now log sits = sits_bare w t (λ j x e. free_done i j x (sym now ∙ e)) (accounted_same (w ∷ []) s.log.value t.log.value (ap (λ (d : DeskLog R). d.ended) log) sits.accounted)
  look_by w s t (Waiting i) zero is set now log sits = sits_bare w t (λ j x e. waiting_done i j x (sym now ∙ e)) (accounted_same (w ∷ []) s.log.value t.log.value (ap (λ (d : DeskLog R). d.ended) log) sits.accounted)
  look_by w s t (Waiting i) (suc n) is set now log sits =
      sits_bare w t (λ j x e. free_done i j x (sym now ∙ e))
      (accounted_more (w ∷ []) s.log.value t.log.value (open_id s.log.value) (end.Lost (suc n)) (ap (λ (d : DeskLog R). d.ended) log) ((λ e. omega arith), (0, w, refl, set)) sits.accounted)
  look_by w s t (Done i x) lost is set now log sits =
      let last : s.log.value.last ≡ i + 1 = s.last_is ∙ ap (λ (h : Held R). last_of (shown h)) is in
      let own : i ≡ open_id s.log.value = omega arith in
      sits_bare w t (λ j y e. free_done i j y (sym now ∙ e))
      (accounted_more (w ∷ []) s.log.value t.log.value (open_id s.log.value) (end.Ready x) (ap (λ (d : DeskLog R). d.ended) log)
      (subst (λ (k : ℕ). IsClaimed (w ∷ []) k x) own (sits.claimed i x is)) sits.accounted)

  pub sits_looked : (w : WindowLog R) (s t : PlainSlot R) (lost : ℕ) → w.set ≡ lost → t.held ≡ held_after_look s.held lost → t.log.value ≡ looked s.held lost s.log.value → Sits fits key w s → Sits fits key w t
  sits_looked w s t lost set now log sits = look_by w s t s.held lost refl set now log sits

  leave_by : (w : WindowLog R) (s t : PlainSlot R) (h : Held R) → s.held ≡ h → t.held ≡ held_after_abandon h → t.log.value ≡ leaves h s.log.value → Sits fits key w s → Sits fits key w t
  leave_by w s t Unused is now log sits = sits_bare w t (λ j x e. unused_done j x (sym now ∙ e)) (accounted_same (w ∷ []) s.log.value t.log.value (ap (λ (d : DeskLog R). d.ended) log) sits.accounted)
  leave_by w s t (Free i) is now log sits = sits_bare w t (λ j x e. free_done i j x (sym now ∙ e)) (accounted_same (w ∷ []) s.log.value t.log.value (ap (λ (d : DeskLog R). d.ended) log) sits.accounted)
  leave_by w s t (Waiting i) is now log sits =
      sits_bare w t (λ j x e. free_done i j x (sym now ∙ e))
      (accounted_more (w ∷ []) s.log.value t.log.value (open_id s.log.value) end.Freed (ap (λ (d : DeskLog R). d.ended) log) tt sits.accounted)
  leave_by w s t (Done i x) is now log sits =
      sits_done w t i x now (subst (λ (dl : ℕ). Suits fits key i dl x) (sym (ap (λ (d : DeskLog R). d.deadline) log)) (sits.suit i x is)) (sits.claimed i x is)
      (accounted_same (w ∷ []) s.log.value t.log.value (ap (λ (d : DeskLog R). d.ended) log) sits.accounted)

  pub sits_left : (w : WindowLog R) (s t : PlainSlot R) → t.held ≡ held_after_abandon s.held → t.log.value ≡ leaves s.held s.log.value → Sits fits key w s → Sits fits key w t
  sits_left w s t now log sits = leave_by w s t s.held refl now log sits

  suits_offered : (id deadline : ℕ) (x : Taken R) → IsOfferable fits key id x → Suits fits key id deadline x
  suits_offered id deadline (Reply r) o = o
  suits_offered id deadline (Timeout own moment) o = absurd o
  suits_offered id deadline (Broken at) o = tt
  suits_offered id deadline NoMemory o = tt

  -- an id was resolved with a value that was offered
  pub sits_offered : (w : WindowLog R) (s t : PlainSlot R) (id : ℕ) (x : Taken R) → t.held ≡ Done id x → t.log.value ≡ s.log.value → IsOfferable fits key id x → IsClaimed (w ∷ []) id x → Sits fits key w s → Sits fits key w t
  sits_offered w s t id x now log o claimed sits =
      sits_done w t id x now (suits_offered id t.log.value.deadline x o) claimed (accounted_same (w ∷ []) s.log.value t.log.value (ap (λ (d : DeskLog R). d.ended) log) sits.accounted)

  -- an id was resolved since its deadline had come
  pub sits_expired : (w : WindowLog R) (s t : PlainSlot R) (id now : ℕ) → t.held ≡ Done id (Timeout s.log.value.deadline now) → t.log.value ≡ s.log.value → s.log.value.deadline ≤ now → IsClaimed (w ∷ []) id (Timeout s.log.value.deadline now) → Sits fits key w s → Sits fits key w t
  sits_expired w s t id now held log due claimed sits =
      sits_done w t id (Timeout s.log.value.deadline now) held (sym (ap (λ (d : DeskLog R). d.deadline) log), due) claimed (accounted_same (w ∷ []) s.log.value t.log.value (ap (λ (d : DeskLog R). d.ended) log) sits.accounted)

  -- a slot that stays
  pub sits_same : (w : WindowLog R) (s t : PlainSlot R) → t.held ≡ s.held → t.log.value ≡ s.log.value → Sits fits key w s → Sits fits key w t
  sits_same w s t held log sits = record {
    suit = λ id x is. subst (λ (d : DeskLog R). Suits fits key id d.deadline x) (sym log) (sits.suit id x (sym held ∙ is));
    claimed = λ id x is. sits.claimed id x (sym held ∙ is);
    accounted = accounted_same (w ∷ []) s.log.value t.log.value (ap (λ (d : DeskLog R). d.ended) log) sits.accounted;
  }

  -- one slot changes, and the window's record grows
  pub kept_by : (old new : WindowLog R) → Grows old new → (slots : List (PlainSlot R)) (i : ℕ) (s t : PlainSlot R) → i < length slots → s ≡ get_or slots i s → (Sits fits key new s → Sits fits key new t)
      → ∥ AllSit fits key old slots ∥₁ → ∥ AllSit fits key new (set slots i t) ∥₁
  kept_by old new g slots i s t inside e step all =
      ∥∥₁_map all (λ sit. all_set new slots i t (step (sits_on old new g s (sit i s (get_here slots i s inside e)))) (all_on old new g slots sit))

  -- the window's record grows, and that is all
  pub kept_on : (old new : WindowLog R) → Grows old new → (slots : List (PlainSlot R)) → ∥ AllSit fits key old slots ∥₁ → ∥ AllSit fits key new slots ∥₁
  kept_on old new g slots all = ∥∥₁_map all (all_on old new g slots)

  -- what lies in a slot suits its id
  pub suit_here : ((k : K) (n : ℕ) (x : R) → IsProp (fits k n x)) → (w : WindowLog R) (slots : List (PlainSlot R)) (i : ℕ) (s : PlainSlot R) → i < length slots → s ≡ get_or slots i s → ∥ AllSit fits key w slots ∥₁
      → (id : ℕ) (x : Taken R) → s.held ≡ Done id x → Suits fits key id s.log.value.deadline x
  suit_here sole w slots i s inside e all id x is = ∥∥₁_elim all (suits_prop x) (λ sit. (sit i s (get_here slots i s inside e)).suit id x is)
    where
      suits_prop : (x : Taken R) → IsProp (Suits fits key id s.log.value.deadline x)
      suits_prop (Reply r) = sole key id r
      suits_prop (Timeout own moment) = ×_prop (ℕ_set own s.log.value.deadline) le_prop
      suits_prop (Broken at) = Unit-prop
      suits_prop NoMemory = Unit-prop

  log_get : (slots : List (PlainSlot R)) (i : ℕ) (s : PlainSlot R) → slice_get slots i ≡ Some s → log_at slots i ≡ s.log.value
  log_get [] i s at = absurd (no_element s at)
  log_get (x ∷ xs) zero s at = ap (λ (y : PlainSlot R). y.log.value) (same_element x s at)
  log_get (x ∷ xs) (suc i) s at = log_get xs i s at

  held_get : (slots : List (PlainSlot R)) (i : ℕ) (s : PlainSlot R) → slice_get slots i ≡ Some s → held_at slots i ≡ s.held
  held_get [] i s at = absurd (no_element s at)
  held_get (x ∷ xs) zero s at = ap (λ (y : PlainSlot R). y.held) (same_element x s at)
  held_get (x ∷ xs) (suc i) s at = held_get xs i s at

  -- in a new table there is nothing to account for
  pub unused_sit : (w : WindowLog R) (slots : List (PlainSlot R)) → AllUnused slots → AllSit fits key w slots
  unused_sit w slots unused i s at =
      sits_bare w s (λ id x is. unused_done id x (sym (unused i).1 ∙ (held_get slots i s at ∙ is)))
      (λ place e here. absurd (no_element e (ap (λ (d : DeskLog R). slice_get d.ended place) (sym (unused i).0 ∙ log_get slots i s at) ∙ here)))
