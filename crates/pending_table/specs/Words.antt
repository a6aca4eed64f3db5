-- The word that shows the state of a slot, and the slot of an id.
use Rattle.std.specs.Prelude.{ℕ, ◌+◌, ◌-◌, ◌*◌, ◌/◌, ◌%◌}
use Rattle.pending_table.specs.declared.word.SlotState.{SlotState}
use Rattle.pending_table.specs.declared.word.SlotState.TheVariants.{Unused, Free, Waiting, Claimed, Done}

-- the tags of the words that show an id, by the state that it is in
abbrev pub FREE_TAG : ℕ
FREE_TAG = 0

abbrev pub WAITING_TAG : ℕ
WAITING_TAG = 1

abbrev pub CLAIMED_TAG : ℕ
CLAIMED_TAG = 2

abbrev pub DONE_TAG : ℕ
DONE_TAG = 3

-- the word with this tag, where one more than the last id of the slot is this, or 0 where it has none
abbrev pub packed : ℕ → ℕ → ℕ
packed last tag = 4 * last + tag

-- what a word shows: one more than the last id, that id where there is one, and the tag
abbrev pub last_in : ℕ → ℕ
last_in word = word / 4

abbrev pub id_in : ℕ → ℕ
id_in word = last_in word - 1

abbrev pub tag_in : ℕ → ℕ
tag_in word = word % 4

abbrev pub word_of : SlotState → ℕ
word_of Unused = 0
word_of (Free id) = packed (id + 1) FREE_TAG
word_of (Waiting id) = packed (id + 1) WAITING_TAG
word_of (Claimed id) = packed (id + 1) CLAIMED_TAG
word_of (Done id) = packed (id + 1) DONE_TAG

-- the last id that was opened, where one was
abbrev pub id_of : SlotState → ℕ
id_of Unused = 0
id_of (Free id) = id
id_of (Waiting id) = id
id_of (Claimed id) = id
id_of (Done id) = id

-- one more than the last id that was opened, or 0 where none was
abbrev pub last_of : SlotState → ℕ
last_of Unused = 0
last_of (Free id) = id + 1
last_of (Waiting id) = id + 1
last_of (Claimed id) = id + 1
last_of (Done id) = id + 1

-- The slot of an id. The sixteen ids from a multiple of 16 on are the attempts of one call.
abbrev pub slot_of : ℕ → ℕ → ℕ
slot_of slots id = (id / 16) % slots
