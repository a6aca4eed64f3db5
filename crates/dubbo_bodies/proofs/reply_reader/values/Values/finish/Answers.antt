use Rattle.std.proofs.Common.{arith}
use Rattle.hessian_graph.specs.Shape.{shape_of}
use Rattle.hessian_graph.proofs.Closed.{closed_of}
use Rattle.dubbo_bodies.specs.ReplyKinds.{number_of}
use Rattle.dubbo_bodies.proofs.Canonical.{denoted_is_canonical}
use Rattle.dubbo_bodies.proofs.ReplyValues.{values_denoted, refused_as, values_answered, values_lack}
use Rattle.dubbo_bodies.proofs.reply_reader.values.Values.finish.Goals as goal

pub outcome-requires-clause-canonical : goal.outcome-requires-clause-canonical
outcome-requires-clause-canonical c =
    let a = c.requires.at in
    let d = values_denoted c.args.came.now.header c.args.came.now.fed.bytes c.args.self a c.in-Ok.graph (c.in-Ok.ensures.ok a.roots a.rest a.read) in
    denoted_is_canonical (shape_of c.in-Ok.graph) (closed_of c.in-Ok.graph c.parts-parts.ensures.sound c.parts-parts.ensures.few) d

pub returns-in-Ok-clause-ok : goal.returns-in-Ok-clause-ok
returns-in-Ok-clause-ok c =
    let a = c.requires.at in
    let d = values_denoted c.args.came.now.header c.args.came.now.fed.bytes c.args.self a c.in-Ok.graph (c.in-Ok.ensures.ok a.roots a.rest a.read) in
    values_answered c.args.came.now.header c.args.came.now.fed.bytes c.args.self a (shape_of c.in-Ok.graph) c.outcome.result d c.outcome.ensures.ok

pub returns-in-Ok-clause-why : goal.returns-in-Ok-clause-why
returns-in-Ok-clause-why c =
    let a = c.requires.at in
    let d = values_denoted c.args.came.now.header c.args.came.now.fed.bytes c.args.self a c.in-Ok.graph (c.in-Ok.ensures.ok a.roots a.rest a.read) in
    values_lack c.args.came.now.header c.args.came.now.fed.bytes c.args.self a (shape_of c.in-Ok.graph) c.outcome.result d c.outcome.ensures.why

pub returns-in-Err : goal.returns-in-Err
returns-in-Err c =
    let a = c.requires.at in
    let counted = c.args.came.now.counted in
    let fits = c.args.came.now.fits in
    record {
      ok = tt;
      why = refused_as c.args.came.now.header c.args.came.now.fed.bytes (number_of c.args.self.kind) c.args.self.from a.roots _ a.rest c.in-Err.fault c.fault_behind.result c.from.result
          a.begins a.has_roots (omega (arith, counted, fits)) c.fault_behind.ensures.tells c.fault_behind.ensures.memory c.from.ensures (c.in-Err.ensures.why a.roots a.rest a.read);
    }
