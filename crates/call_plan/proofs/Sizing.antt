-- Requests that are too large, and the first of them.
use Rattle.std.proofs.Common.{◌≡◌, ℕ, ◌<◌, List, length, All, inl, inr, arith, length-append}
use Rattle.std.proofs.lemmas.List.{length-map}
use Rattle.dubbo_bodies.specs.declared.message.Request.{Request}
use Rattle.hessian_graph.specs.declared.parts.Parts.{Parts}
use Rattle.hessian_graph.specs.Shape.{shape_of, node_shape}
use Rattle.hessian_writer.specs.Leaves.{hessian, hessian_forms}
use Rattle.dubbo_bodies.specs.WrittenBody.{IsTooLong, WrittenRequest}
use Rattle.call_plan.specs.declared.calls.Call.{Call}
use Rattle.call_plan.specs.Size.{HasManyNodes, IsTooLarge, IsReady, IsSmall, IsFit}

-- the nodes of a request's body are those of its arguments, and the map of the attachments
counted : (r : Request) → length (shape_of r.args).nodes ≡ length r.args.nodes
counted r = length-map r.args.nodes (node_shape r.args.types r.args.classes)

pub few_nodes : (r : Request) → length r.args.nodes < 999998 → ¬ HasManyNodes r
few_nodes r few many = omega (arith, counted r, length-append (shape_of r.args).nodes)

-- neither too many nodes nor too long a body
pub small_request : (r : Request) → length r.args.nodes < 999998 → ((count : ℕ) → ¬ IsTooLong (WrittenRequest hessian hessian_forms r) count) → ¬ IsTooLarge r
small_request r few none (inl many) = few_nodes r few many
small_request r few none (inr p) = none p.0 p.1

-- calls that are ready and small are fit
pub all_fit : (calls : List Call) → All IsReady calls → All IsSmall calls → All IsFit calls
all_fit calls ready small = λ k d within. record { ready = ready k d within; small = small k d within }

-- names put in change no number of nodes
pub nodes_counted : (p : Parts) → length (shape_of p).nodes ≡ length p.nodes
nodes_counted p = length-map p.nodes (node_shape p.types p.classes)
