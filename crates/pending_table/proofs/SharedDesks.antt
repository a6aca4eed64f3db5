-- A desk sits after each of its steps, in the phase that its slot has then.
use Rattle.std.proofs.Common.{◌≡◌, ◌≤◌, ◌<◌, ◌⊎◌, ℕ, ◌+◌, ◌-◌, ◌^◌, ⊎_elim, inr, Option, Some, None, Bool, List, [], ◌∷◌, ◌++◌, length, slice_get, sym, refl, ap, ◌∙◌, subst, arith, length-append, true, true≢false}
use Rattle.pending_table.specs.DeskLogs.{opening, ending, open_id, ended_log}
use Rattle.pending_table.specs.SharedPlays.{asks, dates, loads, takes, with_log}
use Rattle.pending_table.specs.SharedRule.{Phase, free, waiting, done, taken, one_if, is_open_in, IsRooted, Sits}
use Rattle.pending_table.specs.Words.{slot_of}
use Rattle.pending_table.proofs.SharedShows.{get_inside}
use Rattle.pending_table.proofs.Sitting.{get_longer, get_last, get_snoc}
use Rattle.pending_table.specs.declared.answers.Taken.{Taken}
use Rattle.pending_table.specs.declared.logs.End.{End}
use Rattle.pending_table.specs.declared.logs.Ended.{Ended}
use Rattle.pending_table.specs.declared.logs.Opened.{Opened}
use Rattle.pending_table.specs.declared.logs.Reads.{Reads}
use Rattle.pending_table.specs.declared.shared.parts.DeskPart.{DeskPart}
use Rattle.pending_table.specs.declared.shared.parts.WindowPart.{WindowPart}

module _ {R K : Type 0} (fits : K → ℕ → R → Type 0) (key : K) (slots : ℕ) (windows : List (WindowPart R)) (lost slot : ℕ) (d : DeskPart R) where
  -- the state was loaded
  pub sits_loaded : (word : ℕ) (p : Phase R) → Sits fits key slots windows lost slot d p → Sits fits key slots windows lost slot (loads word d) p
  sits_loaded word p s = record {
    number = s.number;
    is_open = s.is_open;
    took = s.took;
    small = s.small;
    begun = s.begun;
    counted = s.counted;
    own = s.own;
    rising = s.rising;
    newest = s.newest;
    settled = s.settled;
    turn = s.turn;
    asked = s.asked;
  }

  -- the lost word was loaded
  pub sits_asked : (p : Phase R) → Sits fits key slots windows lost slot d p → Sits fits key slots windows lost slot (asks lost d) p
  sits_asked p s = record {
    number = s.number;
    is_open = s.is_open;
    took = s.took;
    small = s.small;
    begun = s.begun;
    counted = s.counted;
    own = s.own;
    rising = s.rising;
    newest = s.newest;
    settled = s.settled;
    turn = s.turn;
    asked = inr refl;
  }

  -- the deadline of the next id was stored, at a free slot
  pub sits_dated : (deadline : ℕ) → Sits fits key slots windows lost slot d free → Sits fits key slots windows lost slot (dates deadline d) free
  sits_dated deadline s = record {
    number = s.number;
    is_open = s.is_open;
    took = s.took;
    small = s.small;
    begun = s.begun;
    counted = s.counted;
    own = s.own;
    rising = s.rising;
    newest = λ is. absurd (true≢false (sym is ∙ s.is_open));
    settled = s.settled;
    turn = s.turn;
    asked = s.asked;
  }

  -- the value was taken
  pub sits_taken : (word : ℕ) (x : Taken R) → Sits fits key slots windows lost slot d (done x) → Sits fits key slots windows lost slot (takes word x d) (taken x)
  sits_taken word x s = record {
    number = s.number;
    is_open = s.is_open;
    took = refl;
    small = s.small;
    begun = s.begun;
    counted = s.counted;
    own = s.own;
    rising = s.rising;
    newest = s.newest;
    settled = s.settled;
    turn = s.turn;
    asked = s.asked;
  }

  -- the desk once the id was opened
  abbrev pub with_opened : ℕ → DeskPart R
  with_opened id = with_log (record d.log { last = id + 1; is_open = true; opened = d.log.opened ++ opening id d.log.deadline ∷ [] }) d.taken d

  older_than : (id : ℕ) → d.log.last ≤ id → Sits fits key slots windows lost slot d free → (j : ℕ) (o : Opened) → slice_get d.log.opened j ≡ Some o → o.id < id
  older_than id above s j o at = let low = (s.own j o at).0 in omega arith

  rising_more : (id : ℕ) → d.log.last ≤ id → Sits fits key slots windows lost slot d free → (i j : ℕ) (a b : Opened) → i < j
      → slice_get (d.log.opened ++ opening id d.log.deadline ∷ []) i ≡ Some a → slice_get (d.log.opened ++ opening id d.log.deadline ∷ []) j ≡ Some b → a.id < b.id
  rising_more id above s i j a b less ai bj = ⊎_elim
      (λ old. ⊎_elim (λ also. s.rising i j a b less old also)
      (λ (new : (j ≡ length d.log.opened) × (opening id d.log.deadline ≡ b)). let low = older_than id above s i a old in let same : id ≡ b.id = ap (λ (y : Opened). y.id) new.1 in omega arith)
      (get_snoc d.log.opened (opening id d.log.deadline) b j bj))
      (λ (new : (i ≡ length d.log.opened) × (opening id d.log.deadline ≡ a)). let last = new.0 in ⊎_elim
      (λ old. let inside = get_inside d.log.opened j b old in absurd (omega arith))
      (λ (also : (j ≡ length d.log.opened) × (opening id d.log.deadline ≡ b)). let other = also.0 in absurd (omega arith)) (get_snoc d.log.opened (opening id d.log.deadline) b j bj))
      (get_snoc d.log.opened (opening id d.log.deadline) a i ai)

  pub sits_opened : (id : ℕ) → d.log.last ≤ id → id < 2 ^ 60 → slot_of slots id ≡ slot → Sits fits key slots windows lost slot d free → Sits fits key slots windows lost slot (with_opened id) waiting
  sits_opened id above low place s =
      let same : length d.log.opened ≡ length d.log.ended = let c = s.counted in let z : one_if d.log.is_open ≡ 0 = ap one_if s.is_open in omega arith in
      let back : id ≡ (id + 1) - 1 = omega arith in record {
        number = s.number;
        is_open = refl;
        took = s.took;
        small = omega arith;
        begun = λ _. omega arith;
        counted = length-append d.log.opened (opening id d.log.deadline ∷ []) ∙ ap (λ (k : ℕ). k + 1) same;
        own = λ j o at. ⊎_elim
            (λ old. let was = s.own j o old in let less = was.0 in (omega arith, was.1))
            (λ (new : (j ≡ length d.log.opened) × (opening id d.log.deadline ≡ o)). let is : id ≡ o.id = ap (λ (y : Opened). y.id) new.1 in (omega arith, ap (slot_of slots) (sym is) ∙ place))
            (get_snoc d.log.opened (opening id d.log.deadline) o j at);
        rising = rising_more id above s;
        newest = λ _. ap (slice_get (d.log.opened ++ opening id d.log.deadline ∷ [])) (sym same) ∙ (get_last d.log.opened (opening id d.log.deadline) ∙ ap (λ (k : ℕ). Some (opening k d.log.deadline)) back);
        settled = λ j e at. let was = s.settled j e at in ((was.0.0, get_longer d.log.opened (opening id d.log.deadline ∷ []) j (opening e.id was.0.0) was.0.1), was.1);
        turn = tt;
        asked = s.asked;
      }

  -- the open id has ended
  pub sits_ended : (reads : Reads) (end : End R) (rest : Option (Taken R)) (p : Phase R) → rest ≡ None → is_open_in p ≡ true → (reads.lost ≡ 0) ⊎ (reads.lost ≡ lost) → IsRooted fits key slots windows lost (open_id d.log) end
      → Sits fits key slots windows lost slot d p → Sits fits key slots windows lost slot (with_log (ended_log reads end d.log) rest d) free
  sits_ended reads end rest p none opens asked rooted s =
      let count : length d.log.opened ≡ length d.log.ended + 1 = s.counted ∙ ap (λ (b : Bool). length d.log.ended + one_if b) (s.is_open ∙ opens) in record {
        number = s.number;
        is_open = refl;
        took = none;
        small = s.small;
        begun = λ no. absurd (true≢false (sym no));
        counted = let long = length-append d.log.ended (ending (open_id d.log) end ∷ []) in omega arith;
        own = s.own;
        rising = s.rising;
        newest = λ no. absurd (true≢false (sym no));
        settled = λ j y at. ⊎_elim (s.settled j y)
            (λ (new : (j ≡ length d.log.ended) × (ending (open_id d.log) end ≡ y)). subst (λ (z : Ended R). ((deadline : ℕ) × (slice_get d.log.opened j ≡ Some (opening z.id deadline))) × IsRooted fits key slots windows lost z.id z.end) new.1
            ((d.log.deadline, ap (slice_get d.log.opened) new.0 ∙ s.newest (s.is_open ∙ opens)), rooted))
            (get_snoc d.log.ended (ending (open_id d.log) end) y j at);
        turn = tt;
        asked = asked;
      }
