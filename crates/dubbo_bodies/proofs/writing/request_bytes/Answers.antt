use Rattle.std.proofs.Common.{subst, List}
use Rattle.hessian_graph.proofs.Closed.{closed_of}
use Rattle.hessian_writer.specs.Leaves.{hessian_forms}
use Rattle.hessian_writer.specs.Appending.{Appends}
use Rattle.dubbo_bodies.specs.declared.attachment.Attachment.{Attachment}
use Rattle.dubbo_bodies.specs.WrittenBody.{MapForm}
use Rattle.dubbo_bodies.proofs.Bodies.{request_written}
use Rattle.dubbo_bodies.proofs.writing.request_bytes.Goals as goal

pub returns : goal.returns
returns c =
    let r = c.args.request.now in
    request_written r c.in_ok-texts.texts.items c.in_ok-body.body.items c.write_map.new.out.items
    (closed_of r.args c.parts-parts.ensures.sound c.parts-parts.ensures.few)
    c.in_ok-texts.ensures c.in_ok-body.ensures
    (subst (λ (entries : List Attachment). Appends (MapForm hessian_forms entries) c.in_ok-body.body.items c.write_map.new.out.items) c.as_slice.ensures c.in_ok-write_map.ensures)
