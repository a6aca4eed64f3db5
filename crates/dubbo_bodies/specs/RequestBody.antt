-- The request that a header and a body are.
use Rattle.std.specs.Prelude.{◌≡◌, ℕ, List, [], ◌∷◌, ◌++◌, length}
use Rattle.hessian_graph.specs.declared.value.Value.{Value}
use Rattle.hessian_graph.specs.Shape.{Shape, shape_of}
use Rattle.hessian_graph.specs.Canon.{IsCanon}
use Rattle.hessian_graph.specs.Reading.{Leaves}
use Rattle.hessian_graph.specs.Spells.{Denotes}
use Rattle.dubbo_header.specs.declared.header.Header.{Header}
use Rattle.dubbo_bodies.specs.declared.message.Request.{Request}
use Rattle.dubbo_bodies.specs.Descriptor.{HasArgs}
use Rattle.dubbo_bodies.specs.Attachments.{AttachmentsOf}
use Rattle.dubbo_bodies.specs.Fields.{BeginsWith, fields_of}

-- the nodes of a graph, with these roots
abbrev pub with_roots : List Value → Shape → Shape
with_roots roots g = record { roots = roots; nodes = g.nodes }

-- The values of a request are the roots of one graph: as many arguments as the descriptor has parameters, and then the
-- attachments. The request's own graph is the canonical form of the arguments alone.
pub record ValuesOf (g : Shape) (count : ℕ) (r : Request) : Type 0 where
  pub args : List Value
  pub last : Value
  pub roots : g.roots ≡ args ++ last ∷ []
  pub each : length args ≡ count
  pub canonical : IsCanon (with_roots args g) (shape_of r.args)
  pub attachments : AttachmentsOf g last r.attachments

-- This request is read from the header and the body: five texts and then the values, which denote a graph with no more
-- nodes than the bound. Of the header the serialization counts alone.
pub record RequestOf (l : Leaves) (bound : ℕ) (header : Header) (body : List ℕ) (r : Request) : Type 0 where
  pub at : ℕ
  pub values : List ℕ
  pub begins : BeginsWith l header body (fields_of r) at values
  pub count : ℕ
  pub counted : HasArgs r.desc count
  pub graph : Shape
  pub denotes : Denotes l bound values graph
  pub are : ValuesOf graph count r
