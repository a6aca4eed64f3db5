use Rattle.std.proofs.Common.{to_z, of_z, w32}
use Rattle.std.proofs.lemmas.Int.{to_z-of_z}
use Rattle.dubbo_play.specs.FirstFrames.{IsRequestBody}
use Rattle.dubbo_play.proofs.Frames.{request_body_short}
use Rattle.dubbo_play.proofs.Joins.{body_made}
use Rattle.dubbo_play.proofs.first_requests.make_body.Goals as goal

pub returns : goal.returns
returns c =
    let made : IsRequestBody c.args.path.now c.args.method.now c.args.argument c.write_attachments.new.out.items =
    body_made c.args.path.now c.args.method.now c.args.argument (to_z w32 (of_z w32 c.args.argument)) _ _ _ _ c.new-body.ensures.items (to_z-of_z w32 c.args.argument c.ranges.argument)
    (c.in_ok-write_names.ensures {u = tt}) (c.in_ok-write_int.ensures {u = tt}).ok (c.in_ok-write_attachments.ensures {u = tt}) in
    record { says = made; short = request_body_short c.args.path.now c.args.method.now c.args.argument c.write_attachments.new.out.items c.requires.path c.requires.method made }
