-- The notations of a graph.
use Rattle.std.specs.Prelude.{◌≡◌, ℕ, ◌<◌, ◌^◌, List, [], All, FitsSigned}
use Rattle.std.specs.Int.{w32, w64}
use Rattle.std.specs.List.{flat_map, AllZip}
use Rattle.std.specs.Str.{IsUtf8}
use Rattle.hessian_graph.specs.declared.value.Value.{Value}
use Rattle.hessian_graph.specs.declared.value.Value.TheVariants as values
use Rattle.hessian_graph.specs.Shape.{Shape}
use Rattle.hessian_graph.specs.Canon.{IsCanon}
use Rattle.graph_notation.specs.declared.element.Element.{Element}
use Rattle.graph_notation.specs.declared.element.Element.TheVariants.{Plain, Words, Reference, Sign}
use Rattle.graph_notation.specs.Tokens.{Token, Cut}
use Rattle.graph_notation.specs.Elements.{Reads, printed}
use Rattle.graph_notation.specs.Forms.{IsPlain, SpellsGraph}

-- the tokens, each by itself, are these elements
abbrev pub ReadAs : List Token → List Element → Type 0
ReadAs tokens es = AllZip Reads tokens es

-- The text is a notation of the graph: its tokens are elements that stand for the graph. The graph is then canonical.
pub record IsNotation (text : List ℕ) (g : Shape) : Type 0 where
  pub tokens : List Token
  pub elements : List Element
  pub cut : Cut text tokens []
  pub read : ReadAs tokens elements
  pub spelled : SpellsGraph g elements

-- a number in its range, bytes, or a text in UTF-8
abbrev pub IsSoundWord : Value → Type 0
IsSoundWord values.Null = Unit {0}
IsSoundWord (values.Bool b) = Unit {0}
IsSoundWord (values.Int z) = FitsSigned w32 z
IsSoundWord (values.Long z) = FitsSigned w64 z
IsSoundWord (values.Date z) = FitsSigned w64 z
IsSoundWord (values.Bytes bytes) = All (λ b. b < 256) bytes
IsSoundWord (values.Text text) = IsUtf8 text
IsSoundWord (values.Node k) = k < 2 ^ 32

-- a plain element is no text and no node
abbrev pub IsSoundElement : Element → Type 0
IsSoundElement (Plain v) = IsPlain v × IsSoundWord v
IsSoundElement (Words text) = IsUtf8 text
IsSoundElement (Reference k) = k < 2 ^ 32
IsSoundElement (Sign mark) = Unit {0}

-- the text is the printed notation of the canonical graph: the tokens that are written for its elements, one after another
pub record IsPrinted (g : Shape) (text : List ℕ) : Type 0 where
  pub elements : List Element
  pub spelled : SpellsGraph g elements
  pub sound : All IsSoundElement elements
  pub written : text ≡ flat_map printed elements

-- the text is the notation that is printed for the graph: that of its canonical form
pub record PrintsForm (g : Shape) (text : List ℕ) : Type 0 where
  pub form : Shape
  pub canon : IsCanon g form
  pub printed : IsPrinted form text
