-- The seats of all desks, and then of all windows, are gathered into one.
use Rattle.std.proofs.Common.{◌≡◌, ℕ, ◌+◌, ◌*◌, ◌≤◌, ◌^◌, Option, Some, List, [], ◌∷◌, ◌++◌, length, map, slice_get, sym, refl, ap, ◌∙◌, arith}
use Rattle.std.proofs.lemmas.List.Sums.{sum_by-cons}
use Rattle.atomic_table.specs.Table.{Me}
use Rattle.pending_table.specs.Closing.{opened_by}
use Rattle.pending_table.specs.Gathering.{desks_of, windows_of, counted}
use Rattle.pending_table.specs.SharedViews.{gathered}
use Rattle.pending_table.specs.TableSeats.{log_of}
use Rattle.pending_table.proofs.Sitting.{get_longer}
use Rattle.pending_table.specs.declared.answers.Taken.{Taken}
use Rattle.pending_table.specs.declared.logs.DeskLog.{DeskLog}
use Rattle.pending_table.specs.declared.shared.meaning.Meaning.{Ghosts}
use Rattle.pending_table.specs.declared.shared.parts.View.{View}
use Rattle.pending_table.specs.declared.shared.seats.DeskSeat.{DeskSeat}
use Rattle.pending_table.specs.declared.shared.seats.WindowSeat.{WindowSeat}

module _ {A : Type 0} where
  -- the last of some elements goes before those that are gone
  pub one_less : (all old new gone : List A) (x : A) → all ≡ old ++ gone → old ≡ new ++ x ∷ [] → all ≡ new ++ x ∷ gone
  one_less all old new gone x split less = split ∙ (ap (λ (l : List A). l ++ gone) less ∙ again new)
    where
      again : (l : List A) → (l ++ x ∷ []) ++ gone ≡ l ++ x ∷ gone
      again [] = refl
      again (y ∷ ys) = ap (λ (l : List A). y ∷ l) (again ys)

  pub all_kept : (l : List A) → l ≡ l ++ []
  all_kept [] = refl
  all_kept (x ∷ xs) = ap (λ (l : List A). x ∷ l) (all_kept xs)

  -- the element behind some others
  pub behind : (l m : List A) (x : A) → slice_get (l ++ x ∷ m) (length l) ≡ Some x
  behind [] m x = refl
  behind (y ∷ ys) m x = behind ys m x

module _ {R K : Type 0} {m : Ghosts R K} where
  -- what a seat knows that has taken in the desks of those that are gone
  pub record Desks (all left : List (DeskSeat R K m)) (me : Me (Option (Taken R)) (View R K)) (count : ℕ) : Type 0 where
    pub gone : List (DeskSeat R K m)
    pub split : all ≡ left ++ gone
    pub bare : me.1 ≡ []
    pub desks : me.0.desks ≡ desks_of gone
    pub windows : me.0.windows ≡ []
    pub total : count ≡ counted gone
    pub small : count ≤ length gone * 2 ^ 60

  seat_small : (x : DeskSeat R K m) → x.opened ≤ 2 ^ 60
  seat_small x = let few = x.counted.1 in let low = x.last_is.1 in omega arith

  pub desks_one : (all left : List (DeskSeat R K m)) (x : DeskSeat R K m) → all ≡ left ++ x ∷ [] → Desks all left x.seat.me x.opened
  desks_one all left x split = let low = seat_small x in let sum_is : counted (x ∷ []) ≡ x.opened + 0 = sum_by-cons (λ (y : DeskSeat R K m). y.opened) x [] in record {
    gone = x ∷ [];
    split = split;
    bare = x.bare;
    desks = ap (λ (v : View R K). v.desks) x.alone.0;
    windows = ap (λ (v : View R K). v.windows) x.alone.0;
    total = omega arith;
    small = omega arith;
  }

  pub desks_more : (all old new : List (DeskSeat R K m)) (me after : Me (Option (Taken R)) (View R K)) (count more : ℕ) (x : DeskSeat R K m) → Desks all old me count → old ≡ new ++ x ∷ [] → after ≡ (gathered x.seat.me.0 me.0, x.seat.me.1) → more ≡ x.opened → Desks all new after (count + more)
  desks_more all old new me after count more x was less e more_is =
      let view = ap (λ (y : Me (Option (Taken R)) (View R K)). y.0) e in
      let low = seat_small x in
      let before = was.total in
      let few = was.small in
      let sum_is : counted (x ∷ was.gone) ≡ x.opened + counted was.gone = sum_by-cons (λ (y : DeskSeat R K m). y.opened) x was.gone in record {
        gone = x ∷ was.gone;
        split = one_less all old new was.gone x was.split less;
        bare = ap (λ (y : Me (Option (Taken R)) (View R K)). y.1) e ∙ x.bare;
        desks = ap (λ (v : View R K). v.desks) view ∙ (λ i. (x.alone.0 i).desks ++ was.desks i);
        windows = ap (λ (v : View R K). v.windows) view ∙ (λ i. (x.alone.0 i).windows ++ was.windows i);
        total = omega arith;
        small = omega arith;
      }

  pub all_desks : (all left : List (DeskSeat R K m)) (me : Me (Option (Taken R)) (View R K)) (count : ℕ) → Desks all left me count → left ≡ [] → (me.0.desks ≡ desks_of all) × (count ≡ counted all)
  all_desks all left me count was none =
      let same : all ≡ was.gone = was.split ∙ ap (λ (l : List (DeskSeat R K m)). l ++ was.gone) none in
      (was.desks ∙ ap desks_of (sym same), was.total ∙ ap counted (sym same))

  -- what the desks have counted is what they opened
  pub counted_is : (seats : List (DeskSeat R K m)) → counted seats ≡ opened_by (map log_of seats)
  counted_is [] = refl
  counted_is (x ∷ xs) =
      let here = x.counted.0 in
      let there = counted_is xs in
      let sum_is : counted (x ∷ xs) ≡ x.opened + counted xs = sum_by-cons (λ (y : DeskSeat R K m). y.opened) x xs in
      let all_is : opened_by (map log_of (x ∷ xs)) ≡ length (log_of x).opened + opened_by (map log_of xs) = sum_by-cons (λ (log : DeskLog R). length log.opened) (log_of x) (map log_of xs) in
      omega arith

  -- what a seat knows that has taken in the windows of those that are gone
  pub record Windows (all left : List (WindowSeat R K m)) (first me : Me (Option (Taken R)) (View R K)) : Type 0 where
    pub gone : List (WindowSeat R K m)
    pub split : all ≡ left ++ gone
    pub bare : me.1 ≡ []
    pub desks : me.0.desks ≡ first.0.desks
    pub windows : me.0.windows ≡ windows_of gone

  pub windows_none : (all : List (WindowSeat R K m)) (first : Me (Option (Taken R)) (View R K)) → first.1 ≡ [] → first.0.windows ≡ [] → Windows all all first first
  windows_none all first bare none = record { gone = []; split = all_kept all; bare = bare; desks = refl; windows = none }

  pub windows_more : (all old new : List (WindowSeat R K m)) (first me after : Me (Option (Taken R)) (View R K)) (x : WindowSeat R K m) → Windows all old first me → old ≡ new ++ x ∷ [] → after ≡ (gathered x.seat.me.0 me.0, x.seat.me.1) → Windows all new first after
  windows_more all old new first me after x was less e =
      let view = ap (λ (y : Me (Option (Taken R)) (View R K)). y.0) e in record {
        gone = x ∷ was.gone;
        split = one_less all old new was.gone x was.split less;
        bare = ap (λ (y : Me (Option (Taken R)) (View R K)). y.1) e ∙ x.bare;
        desks = ap (λ (v : View R K). v.desks) view ∙ (λ i. (x.alone i).desks ++ was.desks i);
        windows = ap (λ (v : View R K). v.windows) view ∙ (λ i. (x.alone i).windows ++ was.windows i);
      }

  pub all_windows : (all left : List (WindowSeat R K m)) (first me : Me (Option (Taken R)) (View R K)) → Windows all left first me → left ≡ [] → me.0.windows ≡ windows_of all
  all_windows all left first me was none =
      let same : all ≡ was.gone = was.split ∙ ap (λ (l : List (WindowSeat R K m)). l ++ was.gone) none in was.windows ∙ ap windows_of (sym same)

module _ {A : Type 0} (old new : List A) (x : A) (less : old ≡ new ++ x ∷ []) where
  -- the last element is there, and the others are there still
  pub last_there : slice_get old (length new) ≡ Some x
  last_there = ap (λ (l : List A). slice_get l (length new)) less ∙ behind new [] x

  pub others_there : (i : ℕ) (y : A) → slice_get new i ≡ Some y → slice_get old i ≡ Some y
  others_there i y at = ap (λ (l : List A). slice_get l i) less ∙ get_longer new (x ∷ []) i y at
