-- How the leaves of a graph are spelled: the relations of the crates of scalars and of texts.
use Rattle.std.specs.Prelude.{ℕ, List}
use Rattle.hessian_graph.specs.declared.value.Value.{Value}
use Rattle.hessian_graph.specs.declared.value.Value.TheVariants as values
use Rattle.hessian_graph.specs.Shape.{Shape}
use Rattle.hessian_graph.specs.Reading.{Leaves}
use Rattle.hessian_graph.specs.Spells.{Denotes}
use Rattle.hessian_scalars.specs.declared.scalar.Scalar.TheVariants as scalars
use Rattle.hessian_scalars.specs.ScalarSpelling.{ScalarSpelling}
use Rattle.hessian_text.specs.Spelling.{TextSpelling, BinarySpelling}

-- the spellings of null, booleans, ints, longs and dates; no other value is a scalar
abbrev pub scalar_bytes : Value → List ℕ → Type 0
scalar_bytes values.Null bytes = ScalarSpelling scalars.Null bytes
scalar_bytes (values.Bool b) bytes = ScalarSpelling (scalars.Bool b) bytes
scalar_bytes (values.Int z) bytes = ScalarSpelling (scalars.Int z) bytes
scalar_bytes (values.Long z) bytes = ScalarSpelling (scalars.Long z) bytes
scalar_bytes (values.Date z) bytes = ScalarSpelling (scalars.Date z) bytes
scalar_bytes (values.Text text) bytes = ⊥
scalar_bytes (values.Bytes contents) bytes = ⊥
scalar_bytes (values.Node n) bytes = ⊥

-- all spellings
abbrev pub hessian : Leaves
hessian = record { scalar = scalar_bytes; text = TextSpelling; binary = BinarySpelling }

-- one reading begins no more nodes
abbrev pub node_limit : ℕ
node_limit = 1000000

-- the bytes denote this graph, of at most 1,000,000 nodes
abbrev pub IsDenoted : List ℕ → Shape → Type 0
IsDenoted bytes g = Denotes hessian node_limit bytes g
