-- What the first seat of a new table holds still, once some seats were cut off.
use Rattle.std.specs.Prelude.{ℕ, zero, suc, ◌+◌, ◌-◌, Some, List, [], ◌∷◌}
use Rattle.pending_table.specs.SharedViews.{blank_desks, blank_part, blank_windows}
use Rattle.pending_table.specs.declared.shared.parts.View.{View}
use Rattle.pending_table.specs.declared.shared.parts.WindowPart.{WindowPart}

-- once those of the desks before a slot were
abbrev pub view_from : {R K : Type 0} → K → ℕ → ℕ → View R K
view_from key slots slot = record { key = Some key; desks = blank_desks slot (slots - slot); windows = blank_windows }

-- so many windows, numbered from a number on
abbrev pub blank_parts : {R : Type 0} → ℕ → ℕ → List (WindowPart R)
blank_parts number zero = []
blank_parts number (suc count) = blank_part number ∷ blank_parts (number + 1) count

-- once those of all desks were, and those of the windows before a number
abbrev pub windows_from : {R K : Type 0} → K → ℕ → View R K
windows_from key number = record { key = Some key; desks = []; windows = blank_parts number (3 - number) }
