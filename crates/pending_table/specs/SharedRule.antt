-- The rule of the shared table: there is a model of its desks, windows and slots, whose parts are what the seats know.
use Rattle.std.specs.Prelude.{◌≡◌, ◌≢◌, ◌⊎◌, ℕ, ◌+◌, ◌*◌, ◌-◌, ◌<◌, ◌≤◌, ◌^◌, ◌==◌, Option, Some, None, Bool, true, false, if◌then◌else◌, List, length, slice_get, slice_index}
use mathlib.Core.Option as maybe
use lib.ListN.{get_elem?}
use Rattle.atomic_table.specs.Table.{State}
use Rattle.pending_table.specs.DeskLogs.{opening}
use Rattle.pending_table.specs.WindowLogs.{claim}
use Rattle.pending_table.specs.Words.{FREE_TAG, WAITING_TAG, CLAIMED_TAG, DONE_TAG, packed, last_in, slot_of}
use Rattle.pending_table.specs.declared.answers.Taken.{Taken}
use Rattle.pending_table.specs.declared.answers.Taken.TheVariants.{Reply, Timeout, Broken, NoMemory}
use Rattle.pending_table.specs.declared.logs.Claim.{Claim}
use Rattle.pending_table.specs.declared.logs.End.{End}
use Rattle.pending_table.specs.declared.logs.End.TheVariants as end
use Rattle.pending_table.specs.declared.logs.Ended.{Ended}
use Rattle.pending_table.specs.declared.logs.Opened.{Opened}
use Rattle.pending_table.specs.declared.logs.Sight.{Sight}
use Rattle.pending_table.specs.declared.logs.Sight.TheVariants.{Word, Due, Claimed, Missed}
use Rattle.pending_table.specs.declared.shared.parts.DeskPart.{DeskPart}
use Rattle.pending_table.specs.declared.shared.parts.View.{View}
use Rattle.pending_table.specs.declared.shared.parts.WindowPart.{WindowPart}

-- who has a slot's turn, and what lies in it: at `claimed` a window by its number, with the value to come; at `taken` the desk
pub data Phase (R : Type 0) : Type 0 where
  free : Phase R
  waiting : Phase R
  claimed : ℕ → Taken R → Phase R
  done : Taken R → Phase R
  taken : Taken R → Phase R

module _ {R : Type 0} where
  abbrev pub tag_of : Phase R → ℕ
  tag_of free = FREE_TAG
  tag_of waiting = WAITING_TAG
  tag_of (claimed number given) = CLAIMED_TAG
  tag_of (done given) = DONE_TAG
  tag_of (taken given) = DONE_TAG

  -- the state word, where one more than the last id is this
  abbrev pub shown_word : ℕ → Phase R → ℕ
  shown_word last phase = packed last (tag_of phase)

  -- what lies in the slot, where it is at home
  abbrev pub home_of : Phase R → maybe.Option (Option (Taken R))
  home_of free = maybe.some None
  home_of waiting = maybe.some None
  home_of (claimed number given) = maybe.none
  home_of (done given) = maybe.some (Some given)
  home_of (taken given) = maybe.none

  abbrev pub is_open_in : Phase R → Bool
  is_open_in free = false
  is_open_in waiting = true
  is_open_in (claimed number given) = true
  is_open_in (done given) = true
  is_open_in (taken given) = true

  abbrev pub taken_in : Phase R → Option (Taken R)
  taken_in free = None
  taken_in waiting = None
  taken_in (claimed number given) = None
  taken_in (done given) = None
  taken_in (taken given) = Some given

  -- the claimed ids of a slot are below this: its last id is claimed only once it waits no more
  abbrev pub claimed_below : ℕ → Phase R → ℕ
  claimed_below last free = last
  claimed_below last waiting = last - 1
  claimed_below last (claimed number given) = last
  claimed_below last (done given) = last
  claimed_below last (taken given) = last

abbrev pub one_if : Bool → ℕ
one_if true = 1
one_if false = 0

module _ {R K : Type 0} (fits : K → ℕ → R → Type 0) (key : K) (slots : ℕ) where
  -- a window names this value for the id
  abbrev pub IsNamed : List (WindowPart R) → ℕ → Taken R → Type 0
  IsNamed windows id given =
      (number : ℕ) × (window : WindowPart R) × (slice_get windows number ≡ Some window)
      × ((place : ℕ) × (slice_get window.log.claims place ≡ Some (claim id given)))

  abbrev pub IsRooted : List (WindowPart R) → ℕ → ℕ → End R → Type 0
  IsRooted windows lost id (end.Ready given) = IsNamed windows id given
  IsRooted windows lost id (end.Lost number) = (number ≢ 0) × (number ≡ lost)
  IsRooted windows lost id end.Freed = Unit {0}

  -- the value of a slot is the one that a window names, and at `claimed` that window has it still to give
  abbrev pub HasTurn : List (WindowPart R) → ℕ → Phase R → Type 0
  HasTurn windows id free = Unit {0}
  HasTurn windows id waiting = Unit {0}
  HasTurn windows id (claimed number given) = (window : WindowPart R) × (slice_get windows number ≡ Some window) × (window.giving ≡ Some (id, given))
  HasTurn windows id (done given) = IsNamed windows id given
  HasTurn windows id (taken given) = IsNamed windows id given

  -- what a window may name: a reply fits its id, and a moment isn't below its deadline
  abbrev pub IsFair : ℕ → Taken R → Type 0
  IsFair id (Reply reply) = fits key id reply
  IsFair id (Timeout deadline moment) = deadline ≤ moment
  IsFair id (Broken at) = Unit {0}
  IsFair id NoMemory = Unit {0}

  -- a timeout has the deadline with which the desk opened the id
  abbrev pub IsTimely : DeskPart R → ℕ → Taken R → Type 0
  IsTimely desk id given = (deadline moment : ℕ) → given ≡ Timeout deadline moment → (place : ℕ) × (slice_get desk.log.opened place ≡ Some (opening id deadline))

  -- a desk, in the phase of its slot
  pub record Sits (windows : List (WindowPart R)) (lost slot : ℕ) (desk : DeskPart R) (phase : Phase R) : Type 0 where
    pub number : desk.slot ≡ slot
    pub is_open : desk.log.is_open ≡ is_open_in phase
    pub took : desk.taken ≡ taken_in phase
    pub small : desk.log.last ≤ 2 ^ 60
    pub begun : is_open_in phase ≡ true → 0 < desk.log.last
    pub counted : length desk.log.opened ≡ length desk.log.ended + one_if desk.log.is_open
    pub own : (place : ℕ) (o : Opened) → slice_get desk.log.opened place ≡ Some o → (o.id < desk.log.last) × (slot_of slots o.id ≡ slot)
    pub rising : (i j : ℕ) (a b : Opened) → i < j → slice_get desk.log.opened i ≡ Some a → slice_get desk.log.opened j ≡ Some b → a.id < b.id
    pub newest : desk.log.is_open ≡ true → slice_get desk.log.opened (length desk.log.ended) ≡ Some (opening (desk.log.last - 1) desk.log.deadline)
    pub settled : (place : ℕ) (e : Ended R) → slice_get desk.log.ended place ≡ Some e
        → ((deadline : ℕ) × (slice_get desk.log.opened place ≡ Some (opening e.id deadline))) × IsRooted windows lost e.id e.end
    pub turn : HasTurn windows (desk.log.last - 1) phase
    pub asked : (desk.log.reads.lost ≡ 0) ⊎ (desk.log.reads.lost ≡ lost)

  -- what a window saw of a slot is no later than the slot, and a deadline that it saw is that of the id, while it waits
  abbrev pub IsSeen : List (DeskPart R) → List (Phase R) → Sight → Type 0
  IsSeen desks phases (Word slot word) = (desk : DeskPart R) → slice_get desks slot ≡ Some desk → last_in word ≤ desk.log.last
  IsSeen desks phases (Due slot id deadline) =
      (desk : DeskPart R) (phase : Phase R) → slice_get desks slot ≡ Some desk → slice_get phases slot ≡ Some phase
      → (id + 1 ≤ desk.log.last) × (desk.log.last ≡ id + 1 → phase ≡ waiting → desk.log.deadline ≡ deadline)
  IsSeen desks phases (Claimed slot id deadline) = (desk : DeskPart R) → slice_get desks slot ≡ Some desk → id + 1 ≤ desk.log.last
  IsSeen desks phases (Missed slot id deadline word) = (desk : DeskPart R) → slice_get desks slot ≡ Some desk → id + 1 ≤ desk.log.last

  -- a window
  pub record Works (desks : List (DeskPart R)) (phases : List (Phase R)) (lost setter number : ℕ) (window : WindowPart R) : Type 0 where
    pub number_is : window.number ≡ number
    pub fair : (place : ℕ) (c : Claim R) → slice_get window.log.claims place ≡ Some c → IsFair c.id c.given
    pub older : (place : ℕ) (c : Claim R) → slice_get window.log.claims place ≡ Some c → (desk : DeskPart R) (phase : Phase R)
        → slice_get desks (slot_of slots c.id) ≡ Some desk → slice_get phases (slot_of slots c.id) ≡ Some phase
        → (c.id < claimed_below desk.log.last phase) × IsTimely desk c.id c.given
    pub gives : (id : ℕ) (given : Taken R) → window.giving ≡ Some (id, given) → (desk : DeskPart R) (phase : Phase R)
        → slice_get desks (slot_of slots id) ≡ Some desk → slice_get phases (slot_of slots id) ≡ Some phase
        → (phase ≡ claimed number given) × (desk.log.last ≡ id + 1)
    pub named : (id : ℕ) (given : Taken R) → window.giving ≡ Some (id, given) → (place : ℕ) × (slice_get window.log.claims place ≡ Some (claim id given))
    pub sees : (place : ℕ) (sight : Sight) → slice_get window.log.sights place ≡ Some sight → IsSeen desks phases sight
    pub set_is : window.log.set ≡ (if number == setter then lost else 0)
    pub kept_is : (window.log.lost ≡ 0) ⊎ (window.log.lost ≡ lost)

  -- no id stands twice among the claims of the windows
  abbrev pub ClaimsOnce : List (WindowPart R) → Type 0
  ClaimsOnce windows =
      (k l i j : ℕ) (v w : WindowPart R) (a b : Claim R) → slice_get windows k ≡ Some v → slice_get windows l ≡ Some w
      → slice_get v.log.claims i ≡ Some a → slice_get w.log.claims j ≡ Some b → a.id ≡ b.id → (k ≡ l) × (i ≡ j)

  -- all that is said of the model alone
  pub record Ledger (desks : List (DeskPart R)) (windows : List (WindowPart R)) (phases : List (Phase R)) (lost setter : ℕ) : Type 0 where
    pub desk_count : length desks ≡ slots
    pub phase_count : length phases ≡ slots
    pub window_count : length windows ≡ 3
    pub some_slot : 0 < slots
    pub sits : (slot : ℕ) (desk : DeskPart R) (phase : Phase R) → slice_get desks slot ≡ Some desk → slice_get phases slot ≡ Some phase → Sits windows lost slot desk phase
    pub works : (number : ℕ) (window : WindowPart R) → slice_get windows number ≡ Some window → Works desks phases lost setter number window
    pub once : ClaimsOnce windows
    pub setter_there : lost ≢ 0 → setter < length windows

  -- the words and the slots show the model
  pub record Shows (words : List ℕ) (homes : List (maybe.Option (Option (Taken R)))) (desks : List (DeskPart R)) (phases : List (Phase R)) (lost : ℕ) : Type 0 where
    pub word_count : length words ≡ 2 * slots + 1
    pub states : (slot : ℕ) (desk : DeskPart R) (phase : Phase R) → slice_get desks slot ≡ Some desk → slice_get phases slot ≡ Some phase
        → slice_index words slot ≡ shown_word desk.log.last phase
    pub deadlines : (slot : ℕ) (desk : DeskPart R) → slice_get desks slot ≡ Some desk → slice_index words (slots + slot) ≡ desk.log.deadline
    pub lost_is : slice_index words (2 * slots) ≡ lost
    pub at_home : (slot : ℕ) (phase : Phase R) → slice_get phases slot ≡ Some phase → get_elem? homes slot ≡ maybe.some (home_of phase)

  -- the seat at this port has these parts, and they are the model's
  pub record Knows (desk_at window_at : ℕ → ℕ) (desks : List (DeskPart R)) (windows : List (WindowPart R)) (port : ℕ) (view : View R K) : Type 0 where
    pub keyed : (k : K) → view.key ≡ Some k → k ≡ key
    pub has_desk : (place : ℕ) (desk : DeskPart R) → slice_get view.desks place ≡ Some desk → (desk_at desk.slot ≡ port) × (slice_get desks desk.slot ≡ Some desk)
    pub has_window : (place : ℕ) (window : WindowPart R) → slice_get view.windows place ≡ Some window → (window_at window.number ≡ port) × (slice_get windows window.number ≡ Some window)

  -- the rule
  pub record Kept (state : State (Option (Taken R)) (View R K)) : Type 0 where
    pub desk_at : ℕ → ℕ
    pub window_at : ℕ → ℕ
    pub desks : List (DeskPart R)
    pub windows : List (WindowPart R)
    pub phases : List (Phase R)
    pub lost : ℕ
    pub setter : ℕ
    pub ledger : Ledger desks windows phases lost setter
    pub shows : Shows state.words state.homes desks phases lost
    pub known : (port : ℕ) (view : View R K) → get_elem? state.views port ≡ maybe.some view → Knows desk_at window_at desks windows port view
