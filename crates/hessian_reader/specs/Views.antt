-- The fields of a reading as a state, and what taking an element answers.
use Rattle.std.specs.Prelude.{◌≡◌, ℕ, ◌<◌, ◌≤◌, reverse, length, nat_lt, if◌then◌else◌, Option, Some, None, Result, Ok, Err, ⊤}
use Rattle.hessian_reader.specs.declared.store.Store.{Store}
use Rattle.hessian_reader.specs.declared.work.Work.{Work}
use Rattle.hessian_reader.specs.declared.stop.Stop.{Stop}
use Rattle.hessian_reader.specs.declared.stop.Stop.TheVariants.{NoMemory, Objects}
use Rattle.hessian_reader.specs.Names.{Names}
use Rattle.hessian_reader.specs.States.{Built, State, field_count}
use Rattle.hessian_reader.specs.declared.stop.Objection.TheVariants.{TooMany}
use Rattle.hessian_reader.specs.Leaves.{node_limit}
use Rattle.hessian_reader.specs.Steps.{Outcome}

-- the innermost open node is the last of the vector
abbrev pub built_of : Store → Built
built_of s = record { roots = s.roots.items; wanted = s.wanted; nodes = s.nodes; open_nodes = reverse s.open_nodes.items }

abbrev pub state_of : Work → State
state_of w = record { built = built_of w.store; names = w.names; place = w.place }

-- how many fields the class of this number has, where there is one
abbrev pub fields_of : Names → ℕ → Option ℕ
fields_of t k = if nat_lt k (length t.classes) then Some (field_count t k) else None

-- what was done is the outcome, unless memory was wanted
abbrev pub Does : Result ⊤ Stop → State → Outcome → Type 0
Does (Ok u) new outcome = outcome ≡ Ok new
Does (Err NoMemory) new outcome = Unit {0}
Does (Err (Objects o)) new outcome = outcome ≡ Err o

-- the same of the roots and nodes alone
abbrev pub Builds : Result ⊤ Stop → Built → Built → Type 0
Builds (Ok u) new built = new ≡ built
Builds (Err NoMemory) new built = Unit {0}
Builds (Err (Objects o)) new built = ⊥

-- one node more is no node too many, of which so many have begun
abbrev pub HasRoom : Result ⊤ Stop → ℕ → Type 0
HasRoom (Ok u) count = count < node_limit
HasRoom (Err e) count = (e ≡ Objects TooMany) × (node_limit ≤ count)
