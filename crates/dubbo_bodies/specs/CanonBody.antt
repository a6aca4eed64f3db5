-- Requests and replies whose graphs are canonical, as readers answer them.
use Rattle.std.specs.Prelude.{◌≡◌, ◌≢◌, ◌≤◌, ℕ, length}
use Rattle.hessian_graph.specs.declared.parts.Parts.{Parts}
use Rattle.hessian_graph.specs.Shape.{Text, shape_of}
use Rattle.hessian_graph.specs.Canon.{IsCanon}
use Rattle.hessian_graph.specs.Work.{IsClosed}
use Rattle.dubbo_bodies.specs.declared.message.Request.{Request}
use Rattle.dubbo_bodies.specs.declared.message.Reply.{Reply}
use Rattle.dubbo_bodies.specs.declared.message.Reply.TheVariants.{Value, Threw, Status}
use Rattle.dubbo_bodies.specs.Fields.{fields_of}
use Rattle.dubbo_bodies.specs.ReplyBody.{OK_STATUS}

-- the second request is the first, with the canonical form of its arguments
pub record IsCanonRequest (r s : Request) : Type 0 where
  pub texts : fields_of s ≡ fields_of r
  pub attachments : s.attachments ≡ r.attachments
  pub args : IsCanon (shape_of r.args) (shape_of s.args)

-- the second reply is the first, with the canonical form of its graph
pub data IsCanonReply : Reply → Reply → Type 0 where
  value : (g h : Parts) → IsCanon (shape_of g) (shape_of h) → IsCanonReply (Value g) (Value h)
  exception : (g h : Parts) → IsCanon (shape_of g) (shape_of h) → IsCanonReply (Threw g) (Threw h)
  status : (code : ℕ) (text : Text) → IsCanonReply (Status code text) (Status code text)

-- the header states the status of the reply, whose graph has one root
abbrev pub GoesWith : Reply → ℕ → Type 0
GoesWith (Value g) stated = (stated ≡ OK_STATUS) × (length g.roots ≡ 1)
GoesWith (Threw g) stated = (stated ≡ OK_STATUS) × (length g.roots ≡ 1)
GoesWith (Status code text) stated = (stated ≡ code) × (code ≢ OK_STATUS)

-- the graph of a reply has at most so many nodes
abbrev pub HasFewNodes : Reply → ℕ → Type 0
HasFewNodes (Value g) bound = length g.nodes ≤ bound
HasFewNodes (Threw g) bound = length g.nodes ≤ bound
HasFewNodes (Status code text) bound = Unit {0}

-- each value of a reply's graph names a node of it
abbrev pub HasClosedGraph : Reply → Type 0
HasClosedGraph (Value g) = IsClosed (shape_of g)
HasClosedGraph (Threw g) = IsClosed (shape_of g)
HasClosedGraph (Status code text) = Unit {0}
