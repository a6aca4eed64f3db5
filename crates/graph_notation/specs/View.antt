-- The reader's fields as a state, and what its calls did.
use Rattle.std.specs.Prelude.{◌≡◌, ℕ, ◌<◌, ◌≤◌, ◌^◌, map, reverse, length, Result, Ok, Err, ⊤}
use Rattle.graph_notation.specs.declared.frame.Cause.{Cause}
use Rattle.graph_notation.specs.declared.frame.Place.{Place}
use Rattle.graph_notation.specs.declared.frame.Place.TheVariants as places
use Rattle.graph_notation.specs.declared.reader.Reader.{Reader}
use Rattle.graph_notation.specs.declared.stop.Stop.{Stop}
use Rattle.graph_notation.specs.declared.stop.Stop.TheVariants.{Refused, NoMemory}
use Rattle.graph_notation.specs.Machine.{State, shown}

abbrev pub state_of : Reader → State
state_of r = record { nodes = map shown r.nodes.items; frame = r.frame; under = reverse r.under.items; place = r.place }

-- behind `!` a node has room
abbrev pub HasRoom : ℕ → ℕ → Place → Type 0
HasRoom n limit places.Start = Unit {0}
HasRoom n limit places.Next = Unit {0}
HasRoom n limit places.Value = Unit {0}
HasRoom n limit places.AfterField = Unit {0}
HasRoom n limit places.After = Unit {0}
HasRoom n limit places.Type = n < limit
HasRoom n limit (places.Bracket text) = n < limit

-- there are no more nodes than may be
pub record Fine (r : Reader) : Type 0 where
  pub few : length r.nodes.items ≤ r.limit
  pub room : HasRoom (length r.nodes.items) r.limit r.place
  pub small : r.limit < 2 ^ 32

-- a call took an element, or it didn't
abbrev pub Steps : Result ⊤ Stop → State → Result State Cause → Type 0
Steps (Ok u) new read = read ≡ Ok new
Steps (Err (Refused c)) new read = read ≡ Err c
Steps (Err NoMemory) new read = Unit {0}

-- the same for a call that takes no memory
abbrev pub Goes : Result ⊤ Cause → State → Result State Cause → Type 0
Goes (Ok u) new read = read ≡ Ok new
Goes (Err c) new read = read ≡ Err c
