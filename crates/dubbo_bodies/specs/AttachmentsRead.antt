-- What reading attachments answers.
use Rattle.std.specs.Prelude.{◌≡◌, ℕ, List, [], ◌∷◌, ◌++◌, length, Option, Some, None}
use Rattle.hessian_graph.specs.declared.value.Value.{Value}
use Rattle.hessian_graph.specs.declared.value.Value.TheVariants as values
use Rattle.hessian_graph.specs.declared.node.Node.{Node}
use Rattle.hessian_graph.specs.declared.node.Node.TheVariants as nodes
use Rattle.hessian_graph.specs.Shape.{Text, Shape, alternately}
use Rattle.dubbo_bodies.specs.declared.attachment.Attachment.{Attachment}
use Rattle.dubbo_bodies.specs.Attachments.{IsNoText, TextPairs, AttachmentsOf, NoAttachments}

-- the attachments that a value is, or that it is none
abbrev pub FindsAttachments : Shape → Value → Option (List Attachment) → Type 0
FindsAttachments g v None = NoAttachments g v
FindsAttachments g v (Some attachments) = AttachmentsOf g v attachments

-- the same of keys and values alternately
abbrev pub FindsPairs : List Value → Option (List Attachment) → Type 0
FindsPairs vs None = (attachments : List Attachment) → TextPairs vs attachments → ⊥
FindsPairs vs (Some attachments) = TextPairs vs attachments

-- the same of a node; one that is no map is none
abbrev pub FindsInNode : Node → Option (List Attachment) → Type 0
FindsInNode (nodes.List type items) found = found ≡ None
FindsInNode (nodes.Map type pairs) found = FindsPairs (alternately pairs) found
FindsInNode (nodes.Object class vs) found = found ≡ None

-- what a pair adds, whose key is a text: an attachment where its value is one too
pub data Keeps (old : List Attachment) (name : Text) : Value → List Attachment → Type 0 where
  kept : (value : Text) → Keeps old name (values.Text value) (old ++ record { name = name; value = value } ∷ [])
  dropped : (v : Value) → IsNoText v → Keeps old name v old

-- the last root of a graph
pub record LastRoot (g : Shape) (count : ℕ) (last : Value) : Type 0 where
  pub args : List Value
  pub roots : g.roots ≡ args ++ last ∷ []
  pub each : length args ≡ count

-- behind so many roots, the attachments that the last one is, or that it is none
pub record FindsBehind (g : Shape) (count : ℕ) (found : Option (List Attachment)) : Type 0 where
  pub last : Value
  pub is_last : LastRoot g count last
  pub finds : FindsAttachments g last found
