-- What the command `encode` answers to its input.
use Rattle.std.specs.Prelude.{◌≡◌, ◌≢◌, ℕ, ◌≤◌, ◌⊎◌, ◌++◌, List, [], ◌∷◌, length}
use Rattle.hessian_graph.specs.Shape.{Shape}
use Rattle.hessian_graph.specs.Forms.{Written}
use Rattle.hessian_writer.specs.Leaves.{hessian, hessian_forms}
use Rattle.graph_notation.specs.Limit.{node_limit}
use Rattle.graph_notation.specs.Notation.{IsNotation}
use Rattle.graph_notation.specs.Refusal.{Refusal}
use Rattle.graph_notation.specs.declared.fault.NotationFault.{NotationFault}
use Rattle.dubbo_main.specs.FaultTexts.{damage_line, notation_text}

-- the text of an input: what stands before the line end behind it, where it ends in one
abbrev pub IsTextOf : List ℕ → List ℕ → Type 0
IsTextOf input text = (input ≡ text ++ 10 ∷ []) ⊎ ((input ≡ text) × ((front : List ℕ) → input ≢ front ++ 10 ∷ []))

-- the input's text is a notation of a graph, and these bytes are the writer's spelling of it
pub record IsEncoded (input bytes : List ℕ) : Type 0 where
  pub text : List ℕ
  pub graph : Shape
  pub is_text : IsTextOf input text
  pub notation : IsNotation text graph
  pub few : length graph.nodes ≤ node_limit
  pub written : Written hessian hessian_forms graph bytes

-- the input's text is no notation, for this cause
pub record IsNoNotation (input : List ℕ) (fault : NotationFault) : Type 0 where
  pub text : List ℕ
  pub is_text : IsTextOf input text
  pub refused : Refusal node_limit text fault

-- what `encode` answers to its whole input
pub data EncodeAnswers (input : List ℕ) : ℕ → List ℕ → Type 0 where
  encoded : (bytes : List ℕ) → IsEncoded input bytes → EncodeAnswers input 0 bytes
  damaged : (fault : NotationFault) → IsNoNotation input fault → EncodeAnswers input 8 (damage_line (notation_text fault))
