-- What the seats of a shared table know at first, and how their views are cut and joined.
use Rattle.std.specs.Prelude.{ℕ, zero, suc, ◌+◌, Some, None, List, [], ◌∷◌, ◌++◌}
use Rattle.pending_table.specs.DeskLogs.{blank_log}
use Rattle.pending_table.specs.WindowLogs.{blank_window}
use Rattle.pending_table.specs.declared.shared.parts.DeskPart.{DeskPart}
use Rattle.pending_table.specs.declared.shared.parts.View.{View}
use Rattle.pending_table.specs.declared.shared.parts.WindowPart.{WindowPart}

abbrev pub first_only : {A : Type 0} → List A → List A
first_only [] = []
first_only (x ∷ xs) = x ∷ []

abbrev pub but_first : {A : Type 0} → List A → List A
but_first [] = []
but_first (x ∷ xs) = xs

module _ {R : Type 0} where
  abbrev pub blank_desk : ℕ → DeskPart R
  blank_desk slot = record { slot = slot; log = blank_log; taken = None }

  abbrev pub blank_part : ℕ → WindowPart R
  blank_part number = record { number = number; log = blank_window; giving = None }

  -- so many desks, numbered from a slot on
  abbrev pub blank_desks : ℕ → ℕ → List (DeskPart R)
  blank_desks slot zero = []
  blank_desks slot (suc count) = blank_desk slot ∷ blank_desks (slot + 1) count

  -- the windows of the reader, the writer and the scanner
  abbrev pub blank_windows : List (WindowPart R)
  blank_windows = blank_part 0 ∷ blank_part 1 ∷ blank_part 2 ∷ []

module _ {R K : Type 0} where
  -- the first view holds every part
  abbrev pub whole_view : K → ℕ → View R K
  whole_view key slots = record { key = Some key; desks = blank_desks 0 slots; windows = blank_windows }

  abbrev pub without_desk : View R K → View R K
  without_desk view = record { key = view.key; desks = but_first view.desks; windows = view.windows }

  abbrev pub desk_alone : View R K → View R K
  desk_alone view = record { key = view.key; desks = first_only view.desks; windows = [] }

  abbrev pub without_window : View R K → View R K
  without_window view = record { key = view.key; desks = view.desks; windows = but_first view.windows }

  abbrev pub window_alone : View R K → View R K
  window_alone view = record { key = view.key; desks = []; windows = first_only view.windows }

  abbrev pub gathered : View R K → View R K → View R K
  gathered view other = record { key = view.key; desks = view.desks ++ other.desks; windows = view.windows ++ other.windows }

  -- what a join leaves behind
  abbrev pub spent : View R K
  spent = record { key = None; desks = []; windows = [] }
