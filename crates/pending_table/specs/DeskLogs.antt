-- The record of a desk, and how calls change it.
use Rattle.std.specs.Prelude.{◌≡◌, ℕ, ◌+◌, ◌-◌, ◌<◌, true, false, [], ◌∷◌, ◌++◌}
use Rattle.pending_table.specs.declared.logs.DeskLog.{DeskLog}
use Rattle.pending_table.specs.declared.logs.End.{End}
use Rattle.pending_table.specs.declared.logs.Ended.{Ended}
use Rattle.pending_table.specs.declared.logs.Opened.{Opened}
use Rattle.pending_table.specs.declared.logs.Reads.{Reads}

abbrev pub opening : ℕ → ℕ → Opened
opening id deadline = record { id = id; deadline = deadline }

abbrev pub no_reads : Reads
no_reads = record { loads = 0; seen = 0; lost_loads = 0; lost = 0 }

-- one more load of the slot's word
abbrev pub state_read : ℕ → Reads → Reads
state_read word reads = record reads { loads = reads.loads + 1; seen = word }

-- one more load of the lost word
abbrev pub lost_read : ℕ → Reads → Reads
lost_read number reads = record reads { lost_loads = reads.lost_loads + 1; lost = number }

-- between the two, the desk has loaded the word of its slot, and the last load gave this word
abbrev pub LastSaw : Reads → Reads → ℕ → Type 0
LastSaw before after word = (before.loads < after.loads) × (after.seen ≡ word)

-- between the two, the desk has loaded the lost word, and the last load gave this number
abbrev pub LastLost : Reads → Reads → ℕ → Type 0
LastLost before after number = (before.lost_loads < after.lost_loads) × (after.lost ≡ number)

module _ {R : Type 0} where
  abbrev pub ending : ℕ → End R → Ended R
  ending id end = record { id = id; end = end }

  -- the id that is open, where one is
  abbrev pub open_id : DeskLog R → ℕ
  open_id log = log.last - 1

  -- the record of a desk that has done nothing
  abbrev pub blank_log : DeskLog R
  blank_log = record { last = 0; is_open = false; deadline = 0; opened = []; ended = []; reads = no_reads }

  -- an id was opened
  abbrev pub opened_log : ℕ → ℕ → DeskLog R → DeskLog R
  opened_log id deadline log =
      record log { last = id + 1; is_open = true; deadline = deadline; opened = log.opened ++ opening id deadline ∷ [] }

  -- words were loaded, and that is all
  abbrev pub read_log : Reads → DeskLog R → DeskLog R
  read_log reads log = record log { reads = reads }

  -- words were loaded, and the open id has ended
  abbrev pub ended_log : Reads → End R → DeskLog R → DeskLog R
  ended_log reads end log =
      record log { is_open = false; ended = log.ended ++ ending (open_id log) end ∷ []; reads = reads }
