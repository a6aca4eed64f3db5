-- Calls whose requests are too large.
use Rattle.std.specs.Prelude.{◌≡◌, ◌⊎◌, ℕ, ◌<◌, ◌≤◌, ◌++◌, List, ◌∷◌, length, All}
use Rattle.hessian_graph.specs.Shape.{shape_of}
use Rattle.hessian_graph.specs.Canon.{IsCanon}
use Rattle.hessian_writer.specs.Leaves.{hessian, hessian_forms}
use Rattle.hessian_writer.specs.Writable.{IsWritable}
use Rattle.dubbo_bodies.specs.declared.message.Request.{Request}
use Rattle.dubbo_bodies.specs.Attachments.{with_attachments}
use Rattle.dubbo_bodies.specs.Descriptor.{HasArgs}
use Rattle.dubbo_bodies.specs.WrittenBody.{IsTooLong, WrittenRequest}
use Rattle.call_plan.specs.declared.calls.Call.{Call}

-- The most nodes of a request's body. A reply has at most one node more than the arguments, so none has too many to be read.
abbrev pub MOST_NODES : ℕ
MOST_NODES = 999998

-- the graph of the request's body, whose last node is the map of the attachments, has too many nodes
abbrev pub HasManyNodes : Request → Type 0
HasManyNodes r = MOST_NODES < length (with_attachments (shape_of r.args) r.attachments).nodes

-- the request's body has more nodes, or more bytes, than it may have
abbrev pub IsTooLarge : Request → Type 0
IsTooLarge r = HasManyNodes r ⊎ ((bytes : ℕ) × IsTooLong (WrittenRequest hessian hessian_forms r) bytes)

-- what holds of each call that a line says
pub record IsReady (call : Call) : Type 0 where
  pub args : HasArgs call.request.desc (length call.request.args.roots)
  pub writable : IsWritable (shape_of call.request.args)
  pub canonical : IsCanon (shape_of call.request.args) (shape_of call.request.args)
  pub timeout_least : 1 ≤ call.timeout
  pub timeout_most : call.timeout ≤ 2147483647
  pub retries : call.retries ≤ 15
  pub forks_least : 1 ≤ call.forks
  pub forks_most : call.forks ≤ 8

-- the request of a call has a body that may be sent
abbrev pub IsSmall : Call → Type 0
IsSmall call = ¬ IsTooLarge call.request

-- the first call whose request is too large has this line
pub record IsFirstLarge (calls : List Call) (line : ℕ) : Type 0 where
  pub before : List Call
  pub call : Call
  pub after : List Call
  pub cut : calls ≡ before ++ call ∷ after
  pub small : All IsSmall before
  pub large : IsTooLarge call.request
  pub place : line ≡ call.line

-- what holds of each call of a script
pub record IsFit (call : Call) : Type 0 where
  pub ready : IsReady call
  pub small : IsSmall call
