-- The leaves of Hessian 2: the spellings of scalars, texts and byte lists, and the one of each that the writer takes.
use Rattle.std.specs.Prelude.{ℕ, List}
use Rattle.hessian_scalars.specs.ScalarSpelling.{ScalarSpelling}
use Rattle.hessian_scalars.specs.Written.{IsShortest}
use Rattle.hessian_scalars.specs.declared.scalar.Scalar.TheVariants as scalars
use Rattle.hessian_text.specs.Spelling.{TextSpelling, BinarySpelling, AreBytes}
use Rattle.hessian_text.specs.Written.{WrittenText, WrittenBinary}
use Rattle.hessian_graph.specs.Reading.{Leaves}
use Rattle.hessian_graph.specs.declared.value.Value.{Value}
use Rattle.hessian_graph.specs.declared.value.Value.TheVariants as values

-- the spellings of null, booleans, ints, longs and dates; no other value is a scalar
abbrev pub scalar_bytes : Value → List ℕ → Type 0
scalar_bytes values.Null bytes = ScalarSpelling scalars.Null bytes
scalar_bytes (values.Bool b) bytes = ScalarSpelling (scalars.Bool b) bytes
scalar_bytes (values.Int z) bytes = ScalarSpelling (scalars.Int z) bytes
scalar_bytes (values.Long z) bytes = ScalarSpelling (scalars.Long z) bytes
scalar_bytes (values.Date z) bytes = ScalarSpelling (scalars.Date z) bytes
scalar_bytes (values.Text text) bytes = ⊥
scalar_bytes (values.Bytes contents) bytes = ⊥
scalar_bytes (values.Node n) bytes = ⊥

-- all spellings
abbrev pub hessian : Leaves
hessian = record { scalar = scalar_bytes; text = TextSpelling; binary = BinarySpelling }

-- the shortest spelling of a scalar
abbrev pub shortest_bytes : Value → List ℕ → Type 0
shortest_bytes values.Null bytes = IsShortest scalars.Null bytes
shortest_bytes (values.Bool b) bytes = IsShortest (scalars.Bool b) bytes
shortest_bytes (values.Int z) bytes = IsShortest (scalars.Int z) bytes
shortest_bytes (values.Long z) bytes = IsShortest (scalars.Long z) bytes
shortest_bytes (values.Date z) bytes = IsShortest (scalars.Date z) bytes
shortest_bytes (values.Text text) bytes = ⊥
shortest_bytes (values.Bytes contents) bytes = ⊥
shortest_bytes (values.Node n) bytes = ⊥

-- the writer's spelling of a list of bytes
abbrev pub written_bytes : List ℕ → List ℕ → Type 0
written_bytes contents bytes = AreBytes contents × WrittenBinary contents bytes

-- the writer's spellings
abbrev pub hessian_forms : Leaves
hessian_forms = record { scalar = shortest_bytes; text = WrittenText; binary = written_bytes }
