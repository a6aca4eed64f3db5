use Rattle.std.proofs.Common.{◌≡◌, ◌≢◌, ◌≤◌, length, arith}
use Rattle.hessian_graph.specs.Shape.{shape_of}
use Rattle.hessian_reader.specs.Leaves.{hessian, node_limit}
use Rattle.dubbo_bodies.specs.declared.fault.RequestFault.TheVariants as faulty
use Rattle.dubbo_bodies.specs.Fields.{fields_of}
use Rattle.dubbo_bodies.specs.Refusals.{LacksAttachments}
use Rattle.dubbo_bodies.specs.RequestBody.{RequestOf, ValuesOf}
use Rattle.dubbo_bodies.specs.RequestReading.{IsRefusedRequest}
use Rattle.dubbo_bodies.proofs.Bodies.{if_ok}
use Rattle.dubbo_bodies.proofs.FaultPlaces.{named_behind, memory_named}
use Rattle.dubbo_bodies.proofs.ValueArms.{if_err, graph_read, request_read, no_attachments, values_fail}
use Rattle.dubbo_bodies.proofs.request_reader.values.ValuePart.finish.Goals as goal

pub returns-in-Ok-clause-ok : goal.returns-in-Ok-clause-ok
returns-in-Ok-clause-ok c = λ header fed here i.
    let g = c.in-Ok.graph in
    let h = graph_read c.args.self header fed g i (λ roots came read. c.in-Ok.ensures.ok roots came read) in
    if_ok c.request_of.result (λ r. (fields_of r ≡ c.args.self.texts.items) × ValuesOf (shape_of g) i.count r) (RequestOf hessian node_limit header fed) (λ r q. request_read c.args.self header fed g r i h q.0 q.1) (c.request_of.ensures.ok i.count h.roots)

pub returns-in-Ok-clause-why : goal.returns-in-Ok-clause-why
returns-in-Ok-clause-why c = λ header fed here i.
    let g = c.in-Ok.graph in
    let h = graph_read c.args.self header fed g i (λ roots came read. c.in-Ok.ensures.ok roots came read) in
    if_err c.request_of.result (λ fault. fault ≢ faulty.OutOfMemory → (fault ≡ faulty.BadAttachments) × LacksAttachments (shape_of g) i.count) (λ fault. fault ≢ faulty.OutOfMemory → IsRefusedRequest header fed fault) (λ fault w some. let q = w some in no_attachments c.args.self header fed g fault i h q.0 q.1) (c.request_of.ensures.why i.count h.roots)

pub returns-in-Err-clause-why : goal.returns-in-Err-clause-why
returns-in-Err-clause-why c = λ header fed here i some.
    let room : length fed ≤ 18446744073709551615 = omega (arith, c.ranges.at, here) in
    values_fail 18446744073709551615 c.args.self header fed c.in-Err.fault c.from.result room
    (λ roots came read s. c.in-Err.ensures.why roots came read s)
    (memory_named c.in-Err.fault c.fault_behind.result c.from.result c.from.ensures c.fault_behind.ensures.memory)
    (named_behind 18446744073709551615 c.args.self.from c.in-Err.fault c.fault_behind.result c.from.result c.from.ensures c.fault_behind.ensures.tells) i some
