-- Where a desk or a window belongs.
use Rattle.std.specs.Prelude.{ℕ}
use base.Fml.{GName}
use Rattle.atomic_table.specs.Seated.{TableId}

-- a table that threads share, by its identity; or the table of one thread, by the name of the borrow
pub data Place : Type 0 where
  shared : TableId → Place
  lent : GName → Place

pub record Site (K : Type 0) : Type 0 where
  pub place : Place
  pub key : K
  pub slots : ℕ
  pub number : ℕ

-- a desk or a window of a table that one thread borrows
abbrev pub lent_site : {K : Type 0} → GName → K → ℕ → ℕ → Site K
lent_site borrow key slots number = record { place = lent borrow; key = key; slots = slots; number = number }

-- a desk or a window of a table that threads share
abbrev pub shared_site : {K : Type 0} → TableId → K → ℕ → ℕ → Site K
shared_site table key slots number = record { place = shared table; key = key; slots = slots; number = number }
