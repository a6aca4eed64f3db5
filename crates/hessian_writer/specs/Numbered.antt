-- Things that get numbers from 0 in the order in which they come.
use Rattle.std.specs.Prelude.{◌≡◌, ℕ, ◌+◌, ◌<◌, List, [], length, get_or, Option, None}
use Rattle.hessian_graph.specs.Canon.{place_of}
use Rattle.hessian_graph.specs.Work.{not_given}

-- how many things there are, and those that have a number, in the order of their numbers
pub record Numbered : Type 0 where
  pub total : ℕ
  pub order : List ℕ

-- so many things, none of which has a number
abbrev pub none_of : ℕ → Numbered
none_of total = record { total = total; order = [] }

-- each thing shows its place in the order, once it has one
pub record AreNumbers (numbers : List (Option ℕ)) (order : List ℕ) : Type 0 where
  pub places : (n : ℕ) → n < length numbers → get_or numbers n None ≡ place_of n order
  pub count : length order + not_given numbers ≡ length numbers
