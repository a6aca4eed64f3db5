-- Attachments as a value of a graph: null, or a map whose keys are texts.
use Rattle.std.specs.Prelude.{◌≡◌, ℕ, ◌<◌, List, [], ◌∷◌, ◌++◌, length, Option, None}
use Rattle.hessian_graph.specs.declared.value.Value.{Value}
use Rattle.hessian_graph.specs.declared.value.Value.TheVariants as values
use Rattle.hessian_graph.specs.Shape.{Text, MapKind, Shape, kind_at, values_at}
use Rattle.dubbo_bodies.specs.declared.attachment.Attachment.{Attachment}

-- the value is no text
abbrev pub IsNoText : Value → Type 0
IsNoText v = (text : Text) → v ≡ values.Text text → ⊥

-- Keys and values of a map alternately, each key a text: the pairs whose value is a text, in order. The others are dropped.
pub data TextPairs : List Value → List Attachment → Type 0 where
  none : TextPairs [] []
  kept : (name value : Text) (vs : List Value) (rest : List Attachment) → TextPairs vs rest → TextPairs (values.Text name ∷ values.Text value ∷ vs) (record { name = name; value = value } ∷ rest)
  dropped : (name : Text) (v : Value) (vs : List Value) (rest : List Attachment) → IsNoText v → TextPairs vs rest → TextPairs (values.Text name ∷ v ∷ vs) rest

-- the attachments that a value of a graph is
pub data AttachmentsOf (g : Shape) : Value → List Attachment → Type 0 where
  nothing : AttachmentsOf g values.Null []
  map : (n : ℕ) (type : Option Text) (attachments : List Attachment) → n < length g.nodes → kind_at g n ≡ MapKind type → TextPairs (values_at g n) attachments → AttachmentsOf g (values.Node n) attachments

-- the value is no attachments
abbrev pub NoAttachments : Shape → Value → Type 0
NoAttachments g v = (attachments : List Attachment) → AttachmentsOf g v attachments → ⊥

-- names and values alternately, as a map has them
abbrev pub name_values : List Attachment → List Value
name_values [] = []
name_values (a ∷ rest) = values.Text a.name ∷ values.Text a.value ∷ name_values rest

-- the graph with one more root, an untyped map of the attachments
abbrev pub with_attachments : Shape → List Attachment → Shape
with_attachments g attachments = record {
  roots = g.roots ++ values.Node (length g.nodes) ∷ [];
  nodes = g.nodes ++ record { kind = MapKind None; values = name_values attachments } ∷ [];
}

-- the texts of a map of attachments, names and values alternately
abbrev pub texts_of : List Attachment → List Text
texts_of [] = []
texts_of (a ∷ rest) = a.name ∷ a.value ∷ texts_of rest
