-- Pieces of bytes that stand at the end of what is written.
use Rattle.std.specs.Prelude.{◌≡◌, ℕ, List, ◌++◌, Option, Some, None}
use Rattle.hessian_graph.specs.declared.value.Value.{Value}
use Rattle.hessian_graph.specs.declared.value.Value.TheVariants as values
use Rattle.hessian_graph.specs.declared.node.Class.{Class}
use Rattle.hessian_graph.specs.Shape.{Text, Kind}
use Rattle.hessian_graph.specs.Reading.{Tables}
use Rattle.hessian_graph.specs.Spells.{ClassSpelling, TextsSpelling}
use Rattle.hessian_graph.specs.Forms.{TypeForm}
use Rattle.hessian_writer.specs.Leaves.{hessian_forms}
use Rattle.hessian_writer.specs.Heads.{HeadForm}
use Rattle.hessian_writer.specs.Course.{LeafForm}

-- new is old and, behind it, bytes of which the fact holds
pub record Appends (Is : List ℕ → Type 0) (old new : List ℕ) : Type 0 where
  pub bytes : List ℕ
  pub is : Is bytes
  pub joined : new ≡ old ++ bytes

-- a value that is no node is written; of a node nothing
abbrev pub WritesPlain : Value → List ℕ → List ℕ → Option ℕ → Type 0
WritesPlain v old new None = Appends (LeafForm hessian_forms v) old new
WritesPlain v old new (Some n) = (v ≡ values.Node n) × (new ≡ old)

-- texts are written one after another
abbrev pub AppendsTexts : List Text → List ℕ → List ℕ → Type 0
AppendsTexts texts old new = Appends (TextsSpelling hessian_forms texts) old new

-- the name of a class, the number of its fields and their names are written
abbrev pub AppendsClass : Class → List ℕ → List ℕ → Type 0
AppendsClass class old new = Appends (ClassSpelling hessian_forms class) old new

-- a type is written, and the tables go from the first to the second
abbrev pub AppendsType : Text → Tables → Tables → List ℕ → List ℕ → Type 0
AppendsType type t u old new = Appends (TypeForm hessian_forms type t u) old new

-- what stands before the values of a node is written
abbrev pub AppendsHead : Kind → ℕ → Tables → Tables → List ℕ → List ℕ → Type 0
AppendsHead kind count t u old new = Appends (HeadForm hessian_forms kind count t u) old new
