-- How a call of each kind ends, by the graph of its arguments, whose roots they are.
use Rattle.std.specs.Prelude.{ℕ, ℤ, pos, negsuc, ◌+ℤ◌, Bool, ◌&&◌, int_le, if◌then◌else◌, List, [], ◌∷◌, ◌++◌, length, get_or, reverse, Option, Some, None, codes}
use Rattle.hessian_graph.specs.declared.value.Value.{Value}
use Rattle.hessian_graph.specs.declared.value.Value.TheVariants as values
use Rattle.hessian_graph.specs.declared.node.Class.{Class}
use Rattle.hessian_graph.specs.Shape.{Kind, ListKind, MapKind, ObjectKind, Shape, node_of, values_at, kind_at}
use Rattle.service_table.specs.declared.kind.Kind.{Kind as Service}
use Rattle.service_table.specs.declared.kind.Kind.TheVariants as kinds
use Rattle.service_table.specs.Endings.{Ending, Given, Thrown}

-- the first argument; null stands where there is none
abbrev pub first_of : Shape → Value
first_of g = get_or g.roots 0 values.Null

-- a value by itself, which names no node
abbrev pub lone : Value → Shape
lone v = record { roots = v ∷ []; nodes = [] }

-- the first argument as the one root
abbrev pub first_alone : Shape → Shape
first_alone g = record { roots = first_of g ∷ []; nodes = g.nodes }

-- a new node of this kind and with these values, behind the nodes of the arguments, as the one root
abbrev pub with_new : Kind → List Value → Shape → Shape
with_new kind vs g = record {
  roots = values.Node (length g.nodes) ∷ [];
  nodes = g.nodes ++ record { kind = kind; values = vs } ∷ [];
}

-- where the first argument is a list, a new list of its type with its items from the last to the first, and else the
-- first argument
abbrev pub reversed_kind : Kind → ℕ → Shape → Shape
reversed_kind (ListKind type) n g = with_new (ListKind type) (reverse (values_at g n)) g
reversed_kind (MapKind type) n g = first_alone g
reversed_kind (ObjectKind class) n g = first_alone g

abbrev pub reversed_node : Option ℕ → Shape → Shape
reversed_node None g = first_alone g
reversed_node (Some n) g = reversed_kind (kind_at g n) n g

abbrev pub reversed : Shape → Shape
reversed g = reversed_node (node_of (first_of g)) g

-- what a value counts in a sum: an int and a long their number, all others 0
abbrev pub number_of : Value → ℤ
number_of values.Null = pos 0
number_of (values.Bool b) = pos 0
number_of (values.Int z) = z
number_of (values.Long z) = z
number_of (values.Date z) = pos 0
number_of (values.Text t) = pos 0
number_of (values.Bytes bs) = pos 0
number_of (values.Node n) = pos 0

abbrev pub total : List Value → ℤ
total [] = pos 0
total (v ∷ vs) = number_of v +ℤ total vs

-- what is added up: the items of the first argument where that is a list, and else the first argument
abbrev pub added_kind : Kind → ℕ → Shape → List Value
added_kind (ListKind type) n g = values_at g n
added_kind (MapKind type) n g = first_of g ∷ []
added_kind (ObjectKind class) n g = first_of g ∷ []

abbrev pub added_node : Option ℕ → Shape → List Value
added_node None g = first_of g ∷ []
added_node (Some n) g = added_kind (kind_at g n) n g

abbrev pub added : Shape → List Value
added g = added_node (node_of (first_of g)) g

-- the least and the greatest number that a long can be
abbrev pub LEAST : ℤ
LEAST = negsuc 9223372036854775807

abbrev pub GREATEST : ℤ
GREATEST = pos 9223372036854775807

-- whether a number is one of a long
abbrev pub is_long : ℤ → Bool
is_long z = int_le LEAST z && int_le z GREATEST

-- the class of the exception, without fields
abbrev pub overflow_class : Class
overflow_class = record { name = codes "demo.Overflow"; fields = [] }

-- an object without values as the one root and the one node
abbrev pub lone_object : Class → Shape
lone_object class = record { roots = values.Node 0 ∷ []; nodes = record { kind = ObjectKind class; values = [] } ∷ [] }

abbrev pub overflow : Shape
overflow = lone_object overflow_class

-- a sum as a long, or the exception where no long is so small or so great
abbrev pub sum_ending : ℤ → Ending
sum_ending z = if is_long z then Given (lone (values.Long z)) else Thrown overflow

-- the class of a knot, with two fields
abbrev pub knot_class : Class
knot_class = record {
  name = codes "demo.Knot";
  fields = codes "self" ∷ codes "value" ∷ [];
}

-- how a call of this kind ends with these arguments
abbrev pub answer : Service → Shape → Ending
answer kinds.Void g = Given (lone values.Null)
answer kinds.Echo g = Given (first_alone g)
answer kinds.Args g = Given (with_new (ListKind None) g.roots g)
answer kinds.Twice g = Given (with_new (ListKind None) (first_of g ∷ first_of g ∷ []) g)
answer kinds.Reverse g = Given (reversed g)
answer kinds.Sum g = sum_ending (total (added g))
answer kinds.Knot g = Given (with_new (ObjectKind knot_class) (values.Node (length g.nodes) ∷ first_of g ∷ []) g)
answer kinds.Throw g = Thrown (first_alone g)
