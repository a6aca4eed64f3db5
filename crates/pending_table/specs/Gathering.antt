-- The seats of a table, as they are gathered into one.
use Rattle.std.specs.Prelude.{◌≡◌, ℕ, Some, List, map, sum_by, slice_get}
use Rattle.atomic_table.specs.Seated.{TableId}
use Rattle.pending_table.specs.SharedPlays.{the_desk, the_window}
use Rattle.pending_table.specs.declared.shared.meaning.Meaning.{Ghosts}
use Rattle.pending_table.specs.declared.shared.parts.DeskPart.{DeskPart}
use Rattle.pending_table.specs.declared.shared.parts.WindowPart.{WindowPart}
use Rattle.pending_table.specs.declared.shared.seats.DeskSeat.{DeskSeat}
use Rattle.pending_table.specs.declared.shared.seats.WindowSeat.{WindowSeat}

module _ {R K : Type 0} {m : Ghosts R K} where
  -- the seats are of this table
  abbrev pub AreDesksOf : TableId → List (DeskSeat R K m) → Type 0
  AreDesksOf table seats = (i : ℕ) (seat : DeskSeat R K m) → slice_get seats i ≡ Some seat → seat.seat.table_id ≡ table

  abbrev pub AreWindowsOf : TableId → List (WindowSeat R K m) → Type 0
  AreWindowsOf table seats = (i : ℕ) (seat : WindowSeat R K m) → slice_get seats i ≡ Some seat → seat.seat.table_id ≡ table

  -- the parts that the seats know
  abbrev pub desks_of : List (DeskSeat R K m) → List (DeskPart R)
  desks_of seats = map (λ (seat : DeskSeat R K m). the_desk seat.seat.me.0) seats

  abbrev pub windows_of : List (WindowSeat R K m) → List (WindowPart R)
  windows_of seats = map (λ (seat : WindowSeat R K m). the_window seat.seat.me.0) seats

  -- how many ids their desks have counted as opened
  abbrev pub counted : List (DeskSeat R K m) → ℕ
  counted seats = sum_by (λ (seat : DeskSeat R K m). seat.opened) seats
