-- Values under new numbers.
use Rattle.std.proofs.Common.{◌≡◌, ℕ, List, refl, ap}
use Rattle.std.specs.Prelude.{Option, Some, None}
use Rattle.hessian_graph.specs.declared.value.Value.{Value}
use Rattle.hessian_graph.specs.declared.value.Value.TheVariants as values
use Rattle.hessian_graph.specs.Shape.{node_of}
use Rattle.hessian_graph.specs.Canon.{place_of, place_or_zero, renumbered}

-- a value that is no node stays
pub plain_stays : (order : List ℕ) (v : Value) → node_of v ≡ None → renumbered order v ≡ v
plain_stays order values.Null e = refl
plain_stays order (values.Bool b) e = refl
plain_stays order (values.Int i) e = refl
plain_stays order (values.Long l) e = refl
plain_stays order (values.Date d) e = refl
plain_stays order (values.Text t) e = refl
plain_stays order (values.Bytes bs) e = refl
plain_stays order (values.Node n) e = cc

-- a value that names a node is that node
pub is_node : (v : Value) (n : ℕ) → node_of v ≡ Some n → v ≡ values.Node n
is_node values.Null n e = cc
is_node (values.Bool b) n e = cc
is_node (values.Int i) n e = cc
is_node (values.Long l) n e = cc
is_node (values.Date d) n e = cc
is_node (values.Text t) n e = cc
is_node (values.Bytes bs) n e = cc
is_node (values.Node m) n e = cc

pub node_moves : (order : List ℕ) (v : Value) (n : ℕ) → node_of v ≡ Some n → renumbered order v ≡ values.Node (place_or_zero (place_of n order))
node_moves order v n e = ap (renumbered order) (is_node v n e)

pub node_is : (n m : ℕ) → values.Node n ≡ values.Node m → n ≡ m
node_is n m e = cc

pub some_is : (n m : ℕ) → ◌≡◌ {A = Option ℕ} (Some n) (Some m) → n ≡ m
some_is n m e = cc

pub not_both : (o : Option ℕ) (n : ℕ) → o ≡ None → o ≡ Some n → ⊥
not_both None n a b = cc
not_both (Some k) n a b = cc
