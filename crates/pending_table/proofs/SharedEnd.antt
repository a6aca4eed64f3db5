-- The last state of a table, once all its seats are one and every desk is free.
use Rattle.std.proofs.Common.{◌≡◌, ℕ, suc, ◌+◌, ◌*◌, ◌/◌, ◌<◌, ◌≤◌, ◌^◌, Option, Some, None, false, List, [], ◌∷◌, length, map, slice_get, sym, refl, ap, ◌∙◌, subst, arith}
use mathlib.Core.Option as maybe
use lib.ListN.{get_elem?}
use Rattle.std.proofs.lemmas.List.{length-map}
use Rattle.std.proofs.lemmas.List.Sums.{sum_by-cons}
use Rattle.atomic_table.specs.Table.{State}
use Rattle.pending_table.specs.Closing.{IsSettled, IsClosed, opened_by, ended_by}
use Rattle.pending_table.specs.Gathering.{desks_of, windows_of}
use Rattle.pending_table.specs.SharedPlays.{the_desk, the_window}
use Rattle.pending_table.specs.SharedRule.{Phase, home_of, Kept}
use Rattle.pending_table.specs.TableSeats.{log_of, window_log_of, window_number_of}
use Rattle.pending_table.proofs.SharedClosing.{mapped, the_log, closes, phase_of, phase_free}
use Rattle.pending_table.proofs.SharedFrame.{one_element}
use Rattle.pending_table.proofs.SharedRanks.{few, few_opened}
use Rattle.pending_table.proofs.SharedShows.{get_there}
use Rattle.pending_table.specs.declared.answers.Taken.{Taken}
use Rattle.pending_table.specs.declared.logs.DeskLog.{DeskLog}
use Rattle.pending_table.specs.declared.logs.WindowLog.{WindowLog}
use Rattle.pending_table.specs.declared.shared.meaning.Meaning.{Ghosts}
use Rattle.pending_table.specs.declared.shared.parts.DeskPart.{DeskPart}
use Rattle.pending_table.specs.declared.shared.parts.View.{View}
use Rattle.pending_table.specs.declared.shared.parts.WindowPart.{WindowPart}
use Rattle.pending_table.specs.declared.shared.seats.DeskSeat.{DeskSeat}
use Rattle.pending_table.specs.declared.shared.seats.WindowSeat.{WindowSeat}

-- two lists of one length with the same elements
same_list : {A : Type 0} (l m : List A) → length l ≡ length m → ((i : ℕ) (a : A) → slice_get l i ≡ Some a → slice_get m i ≡ Some a) → l ≡ m
same_list [] [] long at = refl
same_list [] (y ∷ ys) long at = absurd (omega arith)
same_list (x ∷ xs) [] long at = absurd (omega arith)
same_list (x ∷ xs) (y ∷ ys) long at = λ i. one_element x y (sym (at 0 x refl)) i ∷ same_list xs ys (omega arith) (λ k a e. at (suc k) a e) i

map_twice : {A B C : Type 0} (f : A → B) (g : B → C) (l : List A) → map g (map f l) ≡ map (λ (a : A). g (f a)) l
map_twice f g [] = refl
map_twice f g (x ∷ xs) = ap (λ (l : List _). g (f x) ∷ l) (map_twice f g xs)

-- as many ids ended as were opened
pub same_counts : {R : Type 0} (logs : List (DeskLog R)) → ((i : ℕ) (log : DeskLog R) → slice_get logs i ≡ Some log → IsSettled log) → ended_by logs ≡ opened_by logs
same_counts [] each = refl
same_counts {R} (log ∷ logs) each =
    let here = (each 0 log refl).count in
    let there = same_counts logs (λ i l at. each (suc i) l at) in
    let opened_is : opened_by (log ∷ logs) ≡ length log.opened + opened_by logs = sum_by-cons (λ (l : DeskLog R). length l.opened) log logs in
    let ended_is : ended_by (log ∷ logs) ≡ length log.ended + ended_by logs = sum_by-cons (λ (l : DeskLog R). length l.ended) log logs in
    omega arith

module _ {R K : Type 0} {m : Ghosts R K} (fits : K → ℕ → R → Type 0) (key : K) (slots : ℕ) (state : State (Option (Taken R)) (View R K)) (rule : Kept fits key slots state) (me : ℕ) (v : View R K) (at : get_elem? state.views me ≡ maybe.some v)
    (seats : List (DeskSeat R K m)) (others : List (WindowSeat R K m)) (desks_are : v.desks ≡ desks_of seats) (windows_are : v.windows ≡ windows_of others) (count : length seats ≡ slots) (three : length others ≡ 3)
    (numbered : (i : ℕ) (seat : DeskSeat R K m) → slice_get seats i ≡ Some seat → (seat.slot ≡ i) × ((log_of seat).is_open ≡ false)) (sorted : (i : ℕ) (seat : WindowSeat R K m) → slice_get others i ≡ Some seat → window_number_of seat ≡ i) where
  all_desks : rule.desks ≡ desks_of seats
  all_desks = sym (same_list (desks_of seats) rule.desks (length-map seats (λ (s : DeskSeat R K m). the_desk s.seat.me.0) ∙ (count ∙ sym rule.ledger.desk_count)) (λ i d e.
      let x = mapped (λ (s : DeskSeat R K m). the_desk s.seat.me.0) seats i d e in
      let here = ((rule.known me v at).has_desk i d (ap (λ (l : List (DeskPart R)). slice_get l i) desks_are ∙ e)).1 in
      let number : d.slot ≡ i = ap (λ (y : DeskPart R). y.slot) (sym x.2) ∙ (x.0.alone.1 ∙ (numbered i x.0 x.1).0) in
      ap (slice_get rule.desks) (sym number) ∙ here))

  all_windows : rule.windows ≡ windows_of others
  all_windows = sym (same_list (windows_of others) rule.windows (length-map others (λ (s : WindowSeat R K m). the_window s.seat.me.0) ∙ (three ∙ sym rule.ledger.window_count)) (λ i w e.
      let x = mapped (λ (s : WindowSeat R K m). the_window s.seat.me.0) others i w e in
      let here = ((rule.known me v at).has_window i w (ap (λ (l : List (WindowPart R)). slice_get l i) windows_are ∙ e)).1 in
      let number : w.number ≡ i = ap (λ (y : WindowPart R). y.number) (sym x.2) ∙ sorted i x.0 x.1 in
      ap (slice_get rule.windows) (sym number) ∙ here))

  shut : (i : ℕ) (d : DeskPart R) → slice_get rule.desks i ≡ Some d → d.log.is_open ≡ false
  shut i d e =
      let x = mapped (λ (s : DeskSeat R K m). the_desk s.seat.me.0) seats i d (ap (λ (l : List (DeskPart R)). slice_get l i) (sym all_desks) ∙ e) in
      ap (λ (y : DeskPart R). y.log.is_open) (sym x.2) ∙ (numbered i x.0 x.1).1

  logs_are : map the_log rule.desks ≡ map log_of seats
  logs_are = ap (λ (l : List (DeskPart R)). map the_log l) all_desks ∙ map_twice (λ (s : DeskSeat R K m). the_desk s.seat.me.0) the_log seats

  window_logs_are : map (λ (w : WindowPart R). w.log) rule.windows ≡ map window_log_of others
  window_logs_are = ap (λ (l : List (WindowPart R)). map (λ (w : WindowPart R). w.log) l) all_windows ∙ map_twice (λ (s : WindowSeat R K m). the_window s.seat.me.0) (λ (w : WindowPart R). w.log) others

  -- what the seats' records say
  pub records : IsClosed fits key (map log_of seats) (map window_log_of others)
  records =
      subst (λ (y : List (DeskLog R) × List (WindowLog R)). IsClosed fits key y.0 y.1) (λ i. (logs_are i, window_logs_are i))
      (closes fits key slots rule.desks rule.windows rule.phases rule.lost rule.setter rule.ledger shut)

  -- nothing lies in a slot
  pub nothing : (k : ℕ) → k < slots → get_elem? state.homes k ≡ maybe.some (maybe.some None)
  nothing k low =
      let d = get_there rule.desks k (let all = rule.ledger.desk_count in omega arith) in
      let p = phase_of fits key slots rule.desks rule.windows rule.phases rule.lost rule.setter rule.ledger k d.0 d.1 in
      let sits = rule.ledger.sits k d.0 p.0 d.1 p.1 in
      let is_free = phase_free fits key slots rule.desks rule.windows rule.phases rule.lost rule.setter rule.ledger p.0 d.0.log.is_open sits.is_open (shut k d.0 d.1) in
      rule.shows.at_home k p.0 p.1 ∙ ap (λ (q : Phase R). maybe.some (home_of q)) is_free

  -- and the ids that were opened can be counted
  pub small : slots < 2 ^ 32 → opened_by (map log_of seats) < 2 ^ 64
  small low = few_opened slots (map log_of seats) (length-map seats log_of ∙ count) low (λ i log e.
      let d = mapped the_log rule.desks i log (ap (λ (l : List (DeskLog R)). slice_get l i) logs_are ∙ e) in
      let p = phase_of fits key slots rule.desks rule.windows rule.phases rule.lost rule.setter rule.ledger i d.0 d.1 in
      let bound = few fits key slots rule.ledger.some_slot rule.windows rule.lost i d.0 p.0 (rule.ledger.sits i d.0 p.0 d.1 p.1) in
      subst (λ (l : DeskLog R). length l.opened ≤ 16 * (2 ^ 56 / slots) + 16) d.2 bound)
