-- The slot of a table of one thread, and what each call makes of it.
use Rattle.std.specs.Prelude.{ℕ, zero, suc, Bool, true, false, if◌then◌else◌, nat_lt}
use Rattle.pending_table.specs.Words.{word_of}
use Rattle.pending_table.specs.DeskLogs.{open_id, opened_log, state_read, lost_read, read_log, ended_log}
use Rattle.pending_table.specs.declared.answers.Abandoned.{Abandoned}
use Rattle.pending_table.specs.declared.answers.Abandoned.TheVariants as abandoned
use Rattle.pending_table.specs.declared.answers.Look.{Look}
use Rattle.pending_table.specs.declared.answers.Look.TheVariants as look
use Rattle.pending_table.specs.declared.answers.Taken.{Taken}
use Rattle.pending_table.specs.declared.answers.Taken.TheVariants.{Timeout}
use Rattle.pending_table.specs.declared.logs.DeskLog.{DeskLog}
use Rattle.pending_table.specs.declared.logs.End.TheVariants as end
use Rattle.pending_table.specs.declared.logs.Sight.{Sight}
use Rattle.pending_table.specs.declared.logs.Sight.TheVariants as sight
use Rattle.pending_table.specs.declared.plain.held.Held.{Held}
use Rattle.pending_table.specs.declared.plain.held.Held.TheVariants.{Unused, Free, Waiting, Done}
use Rattle.pending_table.specs.declared.word.SlotState.{SlotState}
use Rattle.pending_table.specs.declared.word.SlotState.TheVariants as state

module _ {R : Type 0} where
  -- the state that a slot shows
  abbrev pub shown : Held R → SlotState
  shown Unused = state.Unused
  shown (Free id) = state.Free id
  shown (Waiting id) = state.Waiting id
  shown (Done id given) = state.Done id

  abbrev pub is_open_of : Held R → Bool
  is_open_of Unused = false
  is_open_of (Free id) = false
  is_open_of (Waiting id) = true
  is_open_of (Done id given) = true

  -- what a desk's record becomes at each step
  abbrev pub opens : DeskLog R → ℕ × ℕ → DeskLog R
  opens log opening = opened_log opening.0 opening.1 log

  abbrev pub gets : DeskLog R → Taken R → DeskLog R
  gets log given = ended_log (state_read (word_of (state.Done (open_id log))) log.reads) (end.Ready given) log

  abbrev pub waits : DeskLog R → Unit {0} → DeskLog R
  waits log _ = read_log (lost_read 0 (state_read (word_of (state.Waiting (open_id log))) log.reads)) log

  abbrev pub loses : DeskLog R → ℕ → DeskLog R
  loses log number = ended_log (lost_read number (state_read (word_of (state.Waiting (open_id log))) log.reads)) (end.Lost number) log

  abbrev pub frees : DeskLog R → Unit {0} → DeskLog R
  frees log _ = ended_log (state_read (word_of (state.Waiting (open_id log))) log.reads) end.Freed log

  abbrev pub meets : DeskLog R → Unit {0} → DeskLog R
  meets log _ = read_log (state_read (word_of (state.Done (open_id log))) log.reads) log

  -- what a look answers, where the lost word has this number
  abbrev pub found : Held R → ℕ → Look R
  found Unused lost = look.Pending
  found (Free id) lost = look.Pending
  found (Waiting id) zero = look.Pending
  found (Waiting id) (suc lost) = look.Lost (suc lost)
  found (Done id given) lost = look.Ready given

  abbrev pub looked : Held R → ℕ → DeskLog R → DeskLog R
  looked Unused lost log = log
  looked (Free id) lost log = log
  looked (Waiting id) zero log = waits log tt
  looked (Waiting id) (suc lost) log = loses log (suc lost)
  looked (Done id given) lost log = gets log given

  abbrev pub held_after_look : Held R → ℕ → Held R
  held_after_look Unused lost = Unused
  held_after_look (Free id) lost = Free id
  held_after_look (Waiting id) zero = Waiting id
  held_after_look (Waiting id) (suc lost) = Free id
  held_after_look (Done id given) lost = Free id

  -- what an abandon answers
  abbrev pub left : Held R → Abandoned
  left Unused = abandoned.Free
  left (Free id) = abandoned.Free
  left (Waiting id) = abandoned.Free
  left (Done id given) = abandoned.Claimed

  abbrev pub leaves : Held R → DeskLog R → DeskLog R
  leaves Unused log = log
  leaves (Free id) log = log
  leaves (Waiting id) log = frees log tt
  leaves (Done id given) log = meets log tt

  abbrev pub held_after_abandon : Held R → Held R
  held_after_abandon Unused = Unused
  held_after_abandon (Free id) = Free id
  held_after_abandon (Waiting id) = Free id
  held_after_abandon (Done id given) = Done id given

  -- what a scan sees of a slot whose id has this deadline
  abbrev pub sight_of : ℕ → ℕ → ℕ → Held R → Sight
  sight_of now slot deadline Unused = sight.Word slot 0
  sight_of now slot deadline (Free id) = sight.Word slot (word_of (state.Free id))
  sight_of now slot deadline (Waiting id) = if nat_lt now deadline then sight.Due slot id deadline else sight.Claimed slot id deadline
  sight_of now slot deadline (Done id given) = sight.Word slot (word_of (state.Done id))

  abbrev pub held_after_scan : ℕ → ℕ → Held R → Held R
  held_after_scan now deadline Unused = Unused
  held_after_scan now deadline (Free id) = Free id
  held_after_scan now deadline (Waiting id) = if nat_lt now deadline then Waiting id else Done id (Timeout deadline now)
  held_after_scan now deadline (Done id given) = Done id given
