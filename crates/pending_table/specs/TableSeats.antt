-- What contracts see of a table that threads share, of its seats, and of the desks and windows that have them.
use Rattle.std.specs.Prelude.{◌≡◌, ℕ, Some}
use Rattle.pending_table.specs.SharedPlays.{the_desk, the_window}
use Rattle.pending_table.specs.Sites.{Site, shared, shared_site}
use Rattle.pending_table.specs.declared.logs.DeskLog.{DeskLog}
use Rattle.pending_table.specs.declared.logs.WindowLog.{WindowLog}
use Rattle.pending_table.specs.declared.shared.desk.SharedDesk.{SharedDesk}
use Rattle.pending_table.specs.declared.shared.meaning.Meaning.{Ghosts}
use Rattle.pending_table.specs.declared.shared.seats.DeskSeat.{DeskSeat}
use Rattle.pending_table.specs.declared.shared.seats.WindowSeat.{WindowSeat}
use Rattle.pending_table.specs.declared.shared.table.SharedTable.{SharedTable}
use Rattle.pending_table.specs.declared.shared.window.SharedWindow.{SharedWindow}

module _ {R K : Type 0} where
  -- the place of the desk, or of the window, with this number at the table
  abbrev pub site_at : SharedTable R K → ℕ → Site K
  site_at table number = shared_site table.table.shared.table_id table.table.shared.key.key.value table.slots number

  -- where a desk belongs, and its record
  abbrev pub desk_site : SharedDesk R K → Site K
  desk_site desk = shared_site desk.words.now.table_id desk.words.now.key.key.value desk.words.now.key.slots desk.slot

  abbrev pub desk_log : SharedDesk R K → DeskLog R
  desk_log desk = (the_desk desk.seat.me.0).log

  -- where a window belongs, and its record
  abbrev pub window_site : SharedWindow R K → Site K
  window_site window = shared_site window.words.now.table_id window.words.now.key.key.value window.words.now.key.slots (the_window window.seat.me.0).number

  abbrev pub window_log : SharedWindow R K → WindowLog R
  window_log window = (the_window window.seat.me.0).log

module _ {R K : Type 0} {m : Ghosts R K} where
  -- the number and the record of a seat's desk
  abbrev pub number_of : DeskSeat R K m → ℕ
  number_of seat = seat.slot

  abbrev pub log_of : DeskSeat R K m → DeskLog R
  log_of seat = (the_desk seat.seat.me.0).log

  -- the number and the record of a seat's window
  abbrev pub window_number_of : WindowSeat R K m → ℕ
  window_number_of seat = (the_window seat.seat.me.0).number

  abbrev pub window_log_of : WindowSeat R K m → WindowLog R
  window_log_of seat = (the_window seat.seat.me.0).log

  -- the seat is that of the desk which belongs there
  pub record IsDeskSeat (site : Site K) (seat : DeskSeat R K m) : Type 0 where
    pub table : site.place ≡ shared seat.seat.table_id
    pub key : seat.seat.me.0.key ≡ Some site.key
    pub number : number_of seat ≡ site.number

  -- the seat is that of the window which belongs there
  pub record IsWindowSeat (site : Site K) (seat : WindowSeat R K m) : Type 0 where
    pub table : site.place ≡ shared seat.seat.table_id
    pub key : seat.seat.me.0.key ≡ Some site.key
    pub number : window_number_of seat ≡ site.number
