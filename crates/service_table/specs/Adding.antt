-- Why a row is refused by a table of services, or that it is taken.
use Rattle.std.specs.Prelude.{◌≡◌, ℕ, ◌<◌, ◌≤◌, List, length, get_or, Err}
use Rattle.dubbo_bodies.specs.Descriptor.{HasArgs, Tells}
use Rattle.service_table.specs.declared.row.Row.{Row}
use Rattle.service_table.specs.declared.fault.AddFault.{AddFault}
use Rattle.service_table.specs.declared.fault.AddFault.TheVariants as faults
use Rattle.service_table.specs.Rows.{service_of, no_row, needs}

-- the descriptor names as many parameters as the kind needs, or more
pub record HasEnough (row : Row) : Type 0 where
  pub count : ℕ
  pub args : HasArgs row.desc count
  pub enough : needs row.kind ≤ count

-- the descriptor names fewer parameters than the kind needs, which are so many
pub record HasTooFew (row : Row) (needed : ℕ) : Type 0 where
  pub count : ℕ
  pub args : HasArgs row.desc count
  pub few : count < needed
  pub are : needed ≡ needs row.kind

-- the row of this number is of the same service
pub record IsRepeated (rows : List Row) (row : Row) (number : ℕ) : Type 0 where
  pub enough : HasEnough row
  pub there : number < length rows
  pub same : service_of (get_or rows number no_row) ≡ service_of row

-- no row is of the same service
abbrev pub IsFresh : List Row → Row → Type 0
IsFresh rows row = (number : ℕ) → number < length rows → service_of (get_or rows number no_row) ≡ service_of row → ⊥

-- the row has what its kind needs, and its service is new
pub record MayAdd (rows : List Row) (row : Row) : Type 0 where
  pub enough : HasEnough row
  pub fresh : IsFresh rows row

-- the first cause for which the row is refused; want of memory is none of the row's
abbrev pub Refuses : List Row → Row → AddFault → Type 0
Refuses rows row (faults.Descriptor fault) = Tells row.desc (Err fault)
Refuses rows row (faults.TooFewArgs needed) = HasTooFew row needed
Refuses rows row (faults.Repeated number) = IsRepeated rows row number
Refuses rows row faults.OutOfMemory = ⊥
