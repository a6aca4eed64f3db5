-- The numbers of the kinds of replies, and what stands behind them.
use Rattle.std.specs.Prelude.{◌≡◌, ℕ, ℤ, pos, List, [], ◌∷◌, ◌++◌}
use Rattle.hessian_graph.specs.declared.value.Value.{Value}
use Rattle.hessian_graph.specs.declared.node.Node.{Node}
use Rattle.hessian_graph.specs.declared.node.Node.TheVariants as nodes
use Rattle.hessian_graph.specs.Shape.{Shape, alternately}
use Rattle.hessian_graph.specs.Canon.{IsCanon}
use Rattle.dubbo_bodies.specs.declared.attachment.Attachment.{Attachment}
use Rattle.dubbo_bodies.specs.declared.reply_reader.kind.Kind.{Kind}
use Rattle.dubbo_bodies.specs.declared.reply_reader.kind.Kind.TheVariants as kinds
use Rattle.dubbo_bodies.specs.Attachments.{TextPairs, NoAttachments}
use Rattle.dubbo_bodies.specs.RequestBody.{with_roots}
use Rattle.dubbo_bodies.specs.ReplyBody.{HasRoots, HasBeside, AreSome}
use Rattle.dubbo_bodies.specs.Refusals.{LacksAttachments}

abbrev pub number_of : Kind → ℤ
number_of kinds.Threw = pos 0
number_of kinds.Value = pos 1
number_of kinds.Null = pos 2
number_of kinds.ThrewBeside = pos 3
number_of kinds.ValueBeside = pos 4
number_of kinds.NullBeside = pos 5

-- no kind has this number
abbrev pub IsNoKind : ℤ → Type 0
IsNoKind z = (roots : ℕ) → HasRoots z roots → ⊥

-- each key among keys and values alternately is a text
abbrev pub HasTextPairs : List Value → Type 0
HasTextPairs vs = (attachments : List Attachment) × TextPairs vs attachments

-- a node that is a map whose keys are texts
abbrev pub IsTextNode : Node → Type 0
IsTextNode (nodes.List type items) = ⊥
IsTextNode (nodes.Map type pairs) = HasTextPairs (alternately pairs)
IsTextNode (nodes.Object class vs) = ⊥

-- the last root is attachments, or there is one and it is none
pub record LastAreSome (g : Shape) : Type 0 where
  pub before : List Value
  pub last : Value
  pub roots : g.roots ≡ before ++ last ∷ []
  pub are : AreSome g last

pub record LastAreNone (g : Shape) : Type 0 where
  pub before : List Value
  pub last : Value
  pub roots : g.roots ≡ before ++ last ∷ []
  pub none : NoAttachments g last

-- two roots, the other of which is attachments, and the canonical form of the first alone
pub record FirstBeside (g form : Shape) : Type 0 where
  pub root : Value
  pub last : Value
  pub roots : g.roots ≡ root ∷ last ∷ []
  pub are : AreSome g last
  pub canonical : IsCanon (with_roots (root ∷ []) g) form

-- a kind has attachments behind its values, and the last root is none
pub record LacksBeside (g : Shape) (kind : ℤ) : Type 0 where
  pub before : ℕ
  pub beside : HasBeside kind before
  pub lacks : LacksAttachments g before
