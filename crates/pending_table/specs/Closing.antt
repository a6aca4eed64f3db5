-- What the records of all desks and windows of a table say once every desk is free and nobody works there.
use Rattle.std.specs.Prelude.{◌≡◌, ◌≢◌, ℕ, Some, List, length, sum_by, slice_get}
use Rattle.pending_table.specs.Accounts.{IsAccounted}
use Rattle.pending_table.specs.DeskLogs.{ending}
use Rattle.pending_table.specs.Taken.{Suits}
use Rattle.pending_table.specs.declared.answers.Taken.{Taken}
use Rattle.pending_table.specs.declared.logs.Claim.{Claim}
use Rattle.pending_table.specs.declared.logs.DeskLog.{DeskLog}
use Rattle.pending_table.specs.declared.logs.End.{End}
use Rattle.pending_table.specs.declared.logs.End.TheVariants as end
use Rattle.pending_table.specs.declared.logs.Opened.{Opened}
use Rattle.pending_table.specs.declared.logs.WindowLog.{WindowLog}

-- how many ids were opened, and how many of them were settled
pub record Counts : Type 0 where
  pub opened : ℕ
  pub settled : ℕ

module _ {R : Type 0} where
  -- how many ids the desks opened
  abbrev pub opened_by : List (DeskLog R) → ℕ
  opened_by desks = sum_by (λ (log : DeskLog R). length log.opened) desks

  -- how many of them ended
  abbrev pub ended_by : List (DeskLog R) → ℕ
  ended_by desks = sum_by (λ (log : DeskLog R). length log.ended) desks

  -- each id that the desk opened has one end, and it opened none twice
  pub record IsSettled (log : DeskLog R) : Type 0 where
    pub count : length log.ended ≡ length log.opened
    pub each : (place : ℕ) (o : Opened) → slice_get log.opened place ≡ Some o → (end : End R) × (slice_get log.ended place ≡ Some (ending o.id end))
    pub once : (i j : ℕ) (a b : Opened) → slice_get log.opened i ≡ Some a → slice_get log.opened j ≡ Some b → a.id ≡ b.id → i ≡ j

  -- no id stands twice among the claims of the windows
  abbrev pub IsClaimedOnce : List (WindowLog R) → Type 0
  IsClaimedOnce windows =
      (k l i j : ℕ) (v w : WindowLog R) (a b : Claim R) → slice_get windows k ≡ Some v → slice_get windows l ≡ Some w
      → slice_get v.claims i ≡ Some a → slice_get w.claims j ≡ Some b → a.id ≡ b.id → (k ≡ l) × (i ≡ j)

  -- at most one of the windows set a number as lost
  abbrev pub IsLostOnce : List (WindowLog R) → Type 0
  IsLostOnce windows = (k l : ℕ) (v w : WindowLog R) → slice_get windows k ≡ Some v → slice_get windows l ≡ Some w → v.set ≢ 0 → w.set ≢ 0 → k ≡ l

module _ {R K : Type 0} (fits : K → ℕ → R → Type 0) (key : K) where
  -- each value that the desk got suits the id, with the deadline with which the id was opened
  abbrev pub IsSuited : DeskLog R → Type 0
  IsSuited log = (place : ℕ) (o : Opened) (given : Taken R) → slice_get log.opened place ≡ Some o → slice_get log.ended place ≡ Some (ending o.id (end.Ready given)) → Suits fits key o.id o.deadline given

  -- Every opened id has one end. A value that ended one suits it and is that which one window claimed it with; a loss has the number that one window set.
  pub record IsClosed (desks : List (DeskLog R)) (windows : List (WindowLog R)) : Type 0 where
    pub settled : (number : ℕ) (log : DeskLog R) → slice_get desks number ≡ Some log → IsSettled log
    pub accounted : (number : ℕ) (log : DeskLog R) → slice_get desks number ≡ Some log → IsAccounted windows log
    pub suited : (number : ℕ) (log : DeskLog R) → slice_get desks number ≡ Some log → IsSuited log
    pub claimed_once : IsClaimedOnce windows
    pub lost_once : IsLostOnce windows
