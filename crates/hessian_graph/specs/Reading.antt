-- What one reading keeps from value to value, and the spellings that other crates define.
use Rattle.std.specs.Prelude.{◌≡◌, ℕ, suc, ◌≤◌, ℤ, Bool, List, [], ◌∷◌, ◌++◌}
use Rattle.hessian_graph.specs.declared.value.Value.{Value}
use Rattle.hessian_graph.specs.declared.value.Value.TheVariants as values
use Rattle.hessian_graph.specs.declared.node.Class.{Class}
use Rattle.hessian_graph.specs.Shape.{Text}

-- the number of nodes begun, the types and the classes, which all values of one reading share
pub record Tables : Type 0 where
  pub begun : ℕ
  pub types : List Text
  pub classes : List Class

abbrev pub no_tables : Tables
no_tables = record { begun = 0; types = []; classes = [] }

abbrev pub one_more : Tables → Tables
one_more t = record t { begun = suc t.begun }

abbrev pub add_type : Text → Tables → Tables
add_type text t = record t { types = t.types ++ text ∷ [] }

abbrev pub add_class : Class → Tables → Tables
add_class class t = record t { classes = t.classes ++ class ∷ [] }

-- The spellings of what is no node: of null, booleans, ints, longs and dates, of texts, and of byte lists.
-- The definitions of this crate speak of any such relations.
pub record Leaves : Type 1 where
  pub scalar : Value → List ℕ → Type 0
  pub text : Text → List ℕ → Type 0
  pub binary : List ℕ → List ℕ → Type 0

-- the value is null, a boolean, an int, a long or a date
pub data IsScalar : Value → Type 0 where
  null : IsScalar values.Null
  bool : (b : Bool) → IsScalar (values.Bool b)
  int : (z : ℤ) → IsScalar (values.Int z)
  long : (z : ℤ) → IsScalar (values.Long z)
  date : (z : ℤ) → IsScalar (values.Date z)

-- an int in the place of a length, a count or a number is spelled as the value is
abbrev pub IntSpelling : Leaves → ℤ → List ℕ → Type 0
IntSpelling l z bytes = l.scalar (values.Int z) bytes

-- a code of a row that goes from one code to another
pub record IsCode (first last code : ℕ) : Type 0 where
  pub above : first ≤ code
  pub below : code ≤ last

-- each spelling of the second is one of the first
pub record Includes (l w : Leaves) : Type 0 where
  pub scalar : (v : Value) (bytes : List ℕ) → w.scalar v bytes → l.scalar v bytes
  pub text : (text : Text) (bytes : List ℕ) → w.text text bytes → l.text text bytes
  pub binary : (contents bytes : List ℕ) → w.binary contents bytes → l.binary contents bytes

-- nothing has two spellings
pub record OneSpelling (w : Leaves) : Type 0 where
  pub scalar : (v : Value) (a b : List ℕ) → w.scalar v a → w.scalar v b → a ≡ b
  pub text : (text : Text) (a b : List ℕ) → w.text text a → w.text text b → a ≡ b
  pub binary : (contents a b : List ℕ) → w.binary contents a → w.binary contents b → a ≡ b
