-- What a visit still has to do, and what it holds meanwhile.
use Rattle.std.specs.Prelude.{◌≡◌, ℕ, suc, ◌+◌, ◌-◌, ◌<◌, ◌^◌, List, [], ◌∷◌, ◌++◌, length, get_or, drop, reverse, Option, Some, None, nat_lt, if◌then◌else◌, All}
use Rattle.hessian_graph.specs.declared.value.Value.{Value}
use Rattle.hessian_graph.specs.declared.value.Value.TheVariants.{Null}
use Rattle.hessian_graph.specs.declared.walk.Link.{Link}
use Rattle.hessian_graph.specs.declared.walk.Link.TheVariants.{End, Plain, To}
use Rattle.hessian_graph.specs.declared.walk.Step.{Step}
use Rattle.hessian_graph.specs.declared.walk.Walk.{Walk}
use Rattle.hessian_graph.specs.Shape.{Shape, NodeShape, node_of, values_at}
use Rattle.hessian_graph.specs.Canon.{place_of}

-- the node that a value names, if any, is below the count
abbrev pub NamesBelow : ℕ → Value → Type 0
NamesBelow count v = (n : ℕ) → node_of v ≡ Some n → n < count

-- each value names a node of the graph
pub record IsClosed (g : Shape) : Type 0 where
  pub few : length g.nodes < 2 ^ 32
  pub roots : All (NamesBelow (length g.nodes)) g.roots
  pub each : (n : ℕ) → n < length g.nodes → All (NamesBelow (length g.nodes)) (values_at g n)

abbrev pub link_to : Option ℕ → Link
link_to None = Plain
link_to (Some n) = To n

-- what stands at a place of the values
abbrev pub link_at : List Value → ℕ → Link
link_at vs at = if nat_lt at (length vs) then link_to (node_of (get_or vs at Null)) else End

-- where a value stands, the fact holds
abbrev pub HasNext : Link → Type 0 → Type 0
HasNext End P = Unit {0}
HasNext Plain P = P
HasNext (To n) P = P

-- the nodes that were seen, and those being gone through, the innermost first
pub record Job : Type 0 where
  pub order : List ℕ
  pub stack : List Step

abbrev pub no_job : Job
no_job = record { order = []; stack = [] }

abbrev pub job_of : Walk → Job
job_of w = record { order = w.order.items; stack = reverse w.stack.items }

-- the values that are still to be gone through
abbrev pub todo : Shape → List Step → List Value → List Value
todo g [] last = last
todo g (t ∷ ts) last = drop t.at (values_at g t.node) ++ todo g ts last

-- a node at its place in the order, or one that is seen now
abbrev pub opened : ℕ → Option ℕ → Job → Job
opened n (Some k) j = j
opened n None j = record { order = j.order ++ n ∷ []; stack = record { node = n; at = 0 } ∷ j.stack }

abbrev pub met : Option ℕ → Job → Job
met None j = j
met (Some n) j = opened n (place_of n j.order) j

-- the innermost node goes on by one value, or ends
abbrev pub went_on : Step → List Step → Link → Job → Job
went_on t ts End j = record j { stack = ts }
went_on t ts Plain j = record j { stack = record t { at = t.at + 1 } ∷ ts }
went_on t ts (To n) j = opened n (place_of n j.order) (record j { stack = record t { at = t.at + 1 } ∷ ts })

-- how many numbers are not given yet
abbrev pub not_given : List (Option ℕ) → ℕ
not_given [] = 0
not_given (None ∷ ks) = suc (not_given ks)
not_given (Some k ∷ ks) = not_given ks

-- the work at the nodes that are not seen yet
abbrev pub unseen : List (Option ℕ) → List NodeShape → ℕ
unseen [] nodes = 0
unseen (k ∷ ks) [] = 0
unseen (None ∷ ks) (node ∷ nodes) = 2 + length node.values + unseen ks nodes
unseen (Some k ∷ ks) (node ∷ nodes) = unseen ks nodes

abbrev pub on_stack : Shape → List Step → ℕ
on_stack g [] = 0
on_stack g (t ∷ ts) = suc (length (values_at g t.node) - t.at) + on_stack g ts

abbrev pub work : Shape → Walk → ℕ
work g w = unseen w.numbers.items g.nodes + on_stack g (reverse w.stack.items)

-- the numbers tell the places of the nodes seen, and each node on the stack is there
pub record FineAt (g : Shape) (numbers : List (Option ℕ)) (order : List ℕ) (stack : List Step) : Type 0 where
  pub numbered : length numbers ≡ length g.nodes
  pub places : (n : ℕ) → n < length g.nodes → get_or numbers n None ≡ place_of n order
  pub count : length order + not_given numbers ≡ length g.nodes
  pub within : All (λ (t : Step). t.node < length g.nodes) stack

abbrev pub Fine : Shape → Walk → Type 0
Fine g w = FineAt g w.numbers.items w.order.items w.stack.items
