-- What a desk's calls answer, by its records before and after.
use Rattle.std.specs.Prelude.{◌≡◌, ◌≢◌, ◌⊎◌, ℕ}
use Rattle.pending_table.specs.Words.{word_of}
use Rattle.pending_table.specs.Taken.{Suits}
use Rattle.pending_table.specs.DeskLogs.{open_id, read_log, ended_log, LastSaw, LastLost}
use Rattle.pending_table.specs.declared.answers.Abandoned.{Abandoned}
use Rattle.pending_table.specs.declared.answers.Abandoned.TheVariants as abandoned
use Rattle.pending_table.specs.declared.answers.Look.{Look}
use Rattle.pending_table.specs.declared.answers.Look.TheVariants as look
use Rattle.pending_table.specs.declared.logs.DeskLog.{DeskLog}
use Rattle.pending_table.specs.declared.logs.End.TheVariants as end
use Rattle.pending_table.specs.declared.logs.Reads.{Reads}
use Rattle.pending_table.specs.declared.word.SlotState.TheVariants as state

-- Ready: the open id was seen resolved, with what suits it, and has ended so.
-- Pending: it was seen claimed; or waiting, and then no loss was seen.
-- Lost: it was seen waiting, the lost word had this number, and the id has ended so.
module _ {R K : Type 0} (fits : K → ℕ → R → Type 0) where
  abbrev pub Looks : K → DeskLog R → Look R → DeskLog R → Type 0
  Looks key old (look.Ready given) new =
      Suits fits key (open_id old) old.deadline given
      × ((reads : Reads) × LastSaw old.reads reads (word_of (state.Done (open_id old))) × (new ≡ ended_log reads (end.Ready given) old))
  Looks key old look.Pending new =
      (reads : Reads)
      × (LastSaw old.reads reads (word_of (state.Claimed (open_id old)))
      ⊎ (LastSaw old.reads reads (word_of (state.Waiting (open_id old))) × LastLost old.reads reads 0))
      × (new ≡ read_log reads old)
  Looks key old (look.Lost number) new =
      (number ≢ 0)
      × ((reads : Reads) × LastSaw old.reads reads (word_of (state.Waiting (open_id old))) × LastLost old.reads reads number
      × (new ≡ ended_log reads (end.Lost number) old))

-- Free: the open id was seen waiting, and has ended so.
-- Claimed: it was seen claimed or done, and stays open.
module _ {R : Type 0} where
  abbrev pub Leaves : DeskLog R → Abandoned → DeskLog R → Type 0
  Leaves old abandoned.Free new =
      (reads : Reads) × LastSaw old.reads reads (word_of (state.Waiting (open_id old))) × (new ≡ ended_log reads end.Freed old)
  Leaves old abandoned.Claimed new =
      (reads : Reads)
      × (LastSaw old.reads reads (word_of (state.Claimed (open_id old))) ⊎ LastSaw old.reads reads (word_of (state.Done (open_id old))))
      × (new ≡ read_log reads old)
