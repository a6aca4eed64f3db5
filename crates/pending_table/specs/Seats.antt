-- The seat of one desk or of one window: its table, and its view.
use Rattle.std.specs.Prelude.{◌≡◌, ℕ, ◌+◌, ◌*◌, Option, Some, [], ◌∷◌}
use Rattle.atomic_table.specs.Seated.{TableId}
use Rattle.pending_table.specs.SharedPlays.{the_desk, the_window}
use Rattle.pending_table.specs.declared.shared.parts.DeskPart.{DeskPart}
use Rattle.pending_table.specs.declared.shared.parts.View.{View}
use Rattle.pending_table.specs.declared.shared.parts.WindowPart.{WindowPart}

-- the seat is of the table with this identity, which has the words of so many slots
abbrev pub IsSeated : TableId → ℕ → TableId → Type 0
IsSeated table slots seat = (seat ≡ table) × (table.words ≡ 2 * slots + 1)

module _ {R K : Type 0} where
  abbrev pub one_desk : Option K → DeskPart R → View R K
  one_desk key desk = record { key = key; desks = desk ∷ []; windows = [] }

  abbrev pub one_window : Option K → WindowPart R → View R K
  one_window key window = record { key = key; desks = []; windows = window ∷ [] }

  -- the view is that of the desk of this slot alone
  abbrev pub IsDeskOf : K → ℕ → View R K → Type 0
  IsDeskOf key slot view = (view ≡ one_desk (Some key) (the_desk view)) × ((the_desk view).slot ≡ slot)

  -- the view is that of one window alone
  abbrev pub IsWindowOf : K → View R K → Type 0
  IsWindowOf key view = view ≡ one_window (Some key) (the_window view)
