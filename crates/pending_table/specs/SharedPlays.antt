-- What each kind of step tells the seat that makes it: how its view changes, and what the word that it found says.
use Rattle.std.specs.Prelude.{◌≡◌, ◌⊎◌, ℕ, ◌≤◌, ◌^◌, ◌==◌, Option, Some, None, true, if◌then◌else◌, MatchBool, List, [], ◌∷◌, ◌++◌}
use mathlib.Core.Option as maybe
use Rattle.atomic_table.specs.Table.{Me, Step, rest}
use Rattle.pending_table.specs.DeskLogs.{opening, open_id, state_read, lost_read, read_log, ended_log}
use Rattle.pending_table.specs.SharedViews.{blank_desk, blank_part}
use Rattle.pending_table.specs.Taken.{Suits}
use Rattle.pending_table.specs.WindowLogs.{saw_log, claimed_log, set_log, kept_log}
use Rattle.pending_table.specs.Words.{WAITING_TAG, CLAIMED_TAG, DONE_TAG, packed, last_in, id_in, last_of, slot_of, word_of}
use Rattle.pending_table.specs.declared.answers.Taken.{Taken}
use Rattle.pending_table.specs.declared.logs.DeskLog.{DeskLog}
use Rattle.pending_table.specs.declared.logs.End.{End}
use Rattle.pending_table.specs.declared.logs.End.TheVariants as end
use Rattle.pending_table.specs.declared.logs.Sight.{Sight}
use Rattle.pending_table.specs.declared.logs.Sight.TheVariants.{Word, Due, Claimed, Missed}
use Rattle.pending_table.specs.declared.shared.parts.DeskPart.{DeskPart}
use Rattle.pending_table.specs.declared.shared.parts.View.{View}
use Rattle.pending_table.specs.declared.shared.parts.WindowPart.{WindowPart}
use Rattle.pending_table.specs.declared.word.SlotState.{SlotState}

-- the word shows a state, with an id below 2 ^ 60 where it has one
abbrev pub IsStateWord : ℕ → Type 0
IsStateWord word = (shown : SlotState) × (word ≡ word_of shown) × (last_of shown ≤ 2 ^ 60)

module _ {R : Type 0} where
  abbrev pub with_log : DeskLog R → Option (Taken R) → DeskPart R → DeskPart R
  with_log log taken desk = record { slot = desk.slot; log = log; taken = taken }

  -- the deadline was stored
  abbrev pub dates : ℕ → DeskPart R → DeskPart R
  dates deadline desk = with_log (record desk.log { deadline = deadline }) desk.taken desk

  -- waiting was stored, as this word
  abbrev pub opens : ℕ → DeskPart R → DeskPart R
  opens word desk =
      with_log (record desk.log { last = last_in word; is_open = true; opened = desk.log.opened ++ opening (id_in word) desk.log.deadline ∷ [] }) desk.taken desk

  -- the state was loaded
  abbrev pub loads : ℕ → DeskPart R → DeskPart R
  loads word desk = with_log (read_log (state_read word desk.log.reads) desk.log) desk.taken desk

  -- the state was loaded as done, and the slot's turn taken with the value in it
  abbrev pub takes : ℕ → Taken R → DeskPart R → DeskPart R
  takes word given desk = with_log (read_log (state_read word desk.log.reads) desk.log) (Some given) desk

  -- the lost word was loaded
  abbrev pub asks : ℕ → DeskPart R → DeskPart R
  asks number desk = with_log (read_log (lost_read number desk.log.reads) desk.log) desk.taken desk

  -- the end of an id whose value was taken
  abbrev pub end_of : Option (Taken R) → End R
  end_of None = end.Freed
  end_of (Some given) = end.Ready given

  -- free was stored from done
  abbrev pub empties : DeskPart R → DeskPart R
  empties desk = with_log (ended_log desk.log.reads (end_of desk.taken) desk.log) None desk

  -- the id that waited was freed, with this end
  abbrev pub frees_with : ℕ → End R → DeskPart R → DeskPart R
  frees_with word end desk = with_log (ended_log (state_read word desk.log.reads) end desk.log) desk.taken desk

  abbrev pub sees_with : List Sight → WindowPart R → WindowPart R
  sees_with sights window = record { number = window.number; log = saw_log sights window.log; giving = window.giving }

  -- an id was claimed with a value that is still to be put in
  abbrev pub claims_with : ℕ → Taken R → List Sight → WindowPart R → WindowPart R
  claims_with id given sights window = record { number = window.number; log = claimed_log id given sights window.log; giving = Some (id, given) }

  -- done was stored
  abbrev pub gives_up : WindowPart R → WindowPart R
  gives_up window = record { number = window.number; log = window.log; giving = None }

  abbrev pub sets_number : ℕ → WindowPart R → WindowPart R
  sets_number number window = record { number = window.number; log = set_log number window.log; giving = window.giving }

  abbrev pub keeps_number : ℕ → WindowPart R → WindowPart R
  keeps_number number window = record { number = window.number; log = kept_log number window.log; giving = window.giving }

-- the last sight has become another
abbrev pub change_last : (Sight → Sight) → List Sight → List Sight
change_last change [] = []
change_last change (sight ∷ []) = change sight ∷ []
change_last change (sight ∷ next ∷ sights) = sight ∷ change_last change (next ∷ sights)

-- a slot that waited has shown its deadline
abbrev pub dated_sight : ℕ → Sight → Sight
dated_sight deadline (Word slot word) = Due slot (id_in word) deadline
dated_sight deadline (Due slot id old) = Due slot id deadline
dated_sight deadline (Claimed slot id old) = Claimed slot id old
dated_sight deadline (Missed slot id old word) = Missed slot id old word

-- its id was claimed
abbrev pub claimed_sight : Sight → Sight
claimed_sight (Word slot word) = Word slot word
claimed_sight (Due slot id deadline) = Claimed slot id deadline
claimed_sight (Claimed slot id deadline) = Claimed slot id deadline
claimed_sight (Missed slot id deadline word) = Missed slot id deadline word

-- the claim found this word instead
abbrev pub missed_sight : ℕ → Sight → Sight
missed_sight found (Word slot word) = Word slot word
missed_sight found (Due slot id deadline) = Missed slot id deadline found
missed_sight found (Claimed slot id deadline) = Claimed slot id deadline
missed_sight found (Missed slot id deadline word) = Missed slot id deadline word

abbrev pub on_first : {A : Type 0} → (A → A) → List A → List A
on_first change [] = []
on_first change (x ∷ xs) = change x ∷ xs

abbrev pub first_or : {A : Type 0} → A → List A → A
first_or other [] = other
first_or other (x ∷ xs) = x

-- what a step at a word tells: its seat before, the word that was found, its seat after
abbrev pub Tells : Type 0 → Type 0 → Type 1
Tells R K = Step (Option (Taken R)) → Me (Option (Taken R)) (View R K) → ℕ → Me (Option (Taken R)) (View R K) → Type 0

module _ {R K : Type 0} where
  abbrev pub on_desk : (DeskPart R → DeskPart R) → View R K → View R K
  on_desk change view = record { key = view.key; desks = on_first change view.desks; windows = view.windows }

  abbrev pub on_window : (WindowPart R → WindowPart R) → View R K → View R K
  on_window change view = record { key = view.key; desks = view.desks; windows = on_first change view.windows }

  abbrev pub the_desk : View R K → DeskPart R
  the_desk view = first_or (blank_desk 0) view.desks

  abbrev pub the_window : View R K → WindowPart R
  the_window view = first_or (blank_part 0) view.windows

  -- the word of the desk's open id with this tag
  abbrev pub word_with : ℕ → View R K → ℕ
  word_with tag view = packed (the_desk view).log.last tag

  abbrev pub dated : Tells R K
  dated step me found after = after ≡ (on_desk (dates step.first) me.0, me.1)

  abbrev pub opened : Tells R K
  opened step me found after = after ≡ (on_desk (opens step.first) me.0, me.1)

  -- done was found: the desk has the slot's turn, and the value that it took suits its id
  abbrev pub took_value : (fits : K → ℕ → R → Type 0) → Tells R K
  took_value fits step me found after =
      (found ≡ word_with DONE_TAG me.0)
      × ((given : Taken R)
      × ((k : K) → me.0.key ≡ Some k → Suits fits k (open_id (the_desk me.0).log) (the_desk me.0).log.deadline given)
      × (after ≡ (on_desk (takes found given) me.0, (step.word, Some given) ∷ me.1)))

  -- done was found; else the id waits or is claimed
  abbrev pub looked : (fits : K → ℕ → R → Type 0) → Tells R K
  looked fits step me found after =
      took_value fits step me found after
      ⊎ (((found ≡ word_with WAITING_TAG me.0) ⊎ (found ≡ word_with CLAIMED_TAG me.0)) × (after ≡ (on_desk (loads found) me.0, me.1)))

  abbrev pub emptied : Tells R K
  emptied step me found after = after ≡ (on_desk empties me.0, rest me.1)

  abbrev pub asked_lost : Tells R K
  asked_lost step me found after = after ≡ (on_desk (asks found) me.0, me.1)

  -- the exchange found the id claimed or done, which is a load
  abbrev pub met : Tells R K
  met step me found after =
      ((found ≡ word_with CLAIMED_TAG me.0) ⊎ (found ≡ word_with DONE_TAG me.0)) × (after ≡ (on_desk (loads found) me.0, me.1))

  -- the id that waited is lost, with the number that was seen last; else done was found, or the id is claimed
  abbrev pub lost_id : (fits : K → ℕ → R → Type 0) → Tells R K
  lost_id fits step me found after =
      MatchBool (found == step.first) (after ≡ (on_desk (λ desk. frees_with found (end.Lost desk.log.reads.lost) desk) me.0, me.1))
      (took_value fits step me found after ⊎ ((found ≡ word_with CLAIMED_TAG me.0) × (after ≡ (on_desk (loads found) me.0, me.1))))

  abbrev pub left_id : Tells R K
  left_id step me found after = MatchBool (found == step.first) (after ≡ (on_desk (frees_with found end.Freed) me.0, me.1)) (met step me found after)

  -- the only sight of a call
  abbrev pub saw_one : Tells R K
  saw_one step me found after = IsStateWord found × (after ≡ (on_window (sees_with (Word step.word found ∷ [])) me.0, me.1))

  -- the sight of the next slot of a scan, which begins with the slot 0
  abbrev pub saw_next : Tells R K
  saw_next step me found after =
      IsStateWord found
      × (after ≡ (on_window (λ window. sees_with ((if step.word == 0 then [] else window.log.sights) ++ Word step.word found ∷ []) window) me.0, me.1))

  abbrev pub saw_due : Tells R K
  saw_due step me found after = after ≡ (on_window (λ window. sees_with (change_last (dated_sight found) window.log.sights) window) me.0, me.1)

  -- the id was claimed with the value that the step was given, and the window has the slot's turn; else a word was seen
  abbrev pub claimed_one : Tells R K
  claimed_one step me found after =
      MatchBool (found == step.first)
      ((given : Taken R) × (step.said ≡ maybe.some (Some given)) × (after ≡ (on_window (claims_with (id_in step.first) given []) me.0, (step.word, None) ∷ me.1)))
      (IsStateWord found × (after ≡ (on_window (sees_with (Word step.word found ∷ [])) me.0, me.1)))

  -- and the slot is that of the id
  abbrev pub claimed_due : Tells R K
  claimed_due step me found after =
      MatchBool (found == step.first)
      ((given : Taken R) × (step.said ≡ maybe.some (Some given)) × (slot_of step.slots (id_in step.first) ≡ step.word)
      × (after ≡ (on_window (λ window. claims_with (id_in step.first) given (change_last claimed_sight window.log.sights) window) me.0, (step.word, None) ∷ me.1)))
      (IsStateWord found × (after ≡ (on_window (λ window. sees_with (change_last (missed_sight found) window.log.sights) window) me.0, me.1)))

  abbrev pub put : Tells R K
  put step me found after = after ≡ (on_window gives_up me.0, rest me.1)

  -- where the word was 0 the window had set none before
  abbrev pub set_lost : Tells R K
  set_lost step me found after =
      MatchBool (found == 0)
      (((the_window me.0).log.set ≡ 0) × (after ≡ (on_window (sets_number step.second) me.0, me.1)))
      (after ≡ (on_window (keeps_number found) me.0, me.1))
