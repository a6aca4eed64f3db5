-- What the command `decode` answers to its input.
use Rattle.std.specs.Prelude.{◌≡◌, ◌≢◌, ℕ, ◌++◌, List, [], ◌∷◌, length}
use Rattle.hessian_graph.specs.Shape.{Shape}
use Rattle.hessian_reader.specs.Leaves.{IsDenoted}
use Rattle.hessian_reader.specs.Refusing.{IsRefusedBy}
use Rattle.hessian_reader.specs.declared.fault.HessianFault.{HessianFault}
use Rattle.graph_notation.specs.Notation.{PrintsForm}
use Rattle.dubbo_bodies.specs.FaultTexts.{hessian_words}
use Rattle.dubbo_main.specs.FaultTexts.{damage_line}

-- the input denotes a graph with so many roots, and this is its notation
pub record IsDecoded (roots : ℕ) (input notation : List ℕ) : Type 0 where
  pub graph : Shape
  pub denoted : IsDenoted input graph
  pub roots_are : length graph.roots ≡ roots
  pub printed : PrintsForm graph notation

-- the input denotes no graph with so many roots, and the fault tells why: its kind, its place and its number are those
-- of the refusal
pub record DenotesNone (roots : ℕ) (input : List ℕ) (fault : HessianFault) : Type 0 where
  pub none : (graph : Shape) → IsDenoted input graph → length graph.roots ≢ roots
  pub refused : IsRefusedBy roots input fault

-- what `decode` answers to its whole input
pub data DecodeAnswers (roots : ℕ) (input : List ℕ) : ℕ → List ℕ → Type 0 where
  decoded : (notation : List ℕ) → IsDecoded roots input notation → DecodeAnswers roots input 0 (notation ++ 10 ∷ [])
  damaged : (fault : HessianFault) → DenotesNone roots input fault → DecodeAnswers roots input 8 (damage_line (hessian_words fault))
