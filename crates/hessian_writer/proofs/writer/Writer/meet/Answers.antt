use Rattle.std.proofs.Common.{◌<◌, sym, rules, w32, length}
use Rattle.std.specs.Prelude.{reverse}
use Rattle.std.proofs.lemmas.Int.{to_z_pos}
use Rattle.hessian_graph.specs.Shape.{shape_of}
use Rattle.hessian_writer.specs.Progress.{tables_with, due_on}
use Rattle.hessian_writer.proofs.Writers.{small_place, refers}
use Rattle.hessian_writer.proofs.writer.Writer.meet.Goals as goal

pub overflow_cast-number : goal.overflow_cast-number
overflow_cast-number c =
    let small : c.in-Some.number < 2147483648 = small_place c.args.parts.now c.args.self.now c.args.node c.in-Some.number c.requires.ready c.requires.fine (sym c.in-Some.ensures) in
    search rules

pub returns-in_ok-write_int-in-Some-clause-goes_on : goal.returns-in_ok-write_int-in-Some-clause-goes_on
returns-in_ok-write_int-in-Some-clause-goes_on c = λ ds.
    let small : c.in-Some.number < 2147483648 = small_place c.args.parts.now c.args.self.now c.args.node c.in-Some.number c.requires.ready c.requires.fine (sym c.in-Some.ensures) in
    refers (shape_of c.args.parts.now) c.args.self.now.nodes.order (tables_with c.args.parts.now (length c.args.self.now.nodes.order) c.args.self.now) c.args.self.now.out.items c.push.new.self.items c.write_int.new.out.items c.args.node c.in-Some.number _ (due_on (shape_of c.args.parts.now) (reverse c.args.self.now.stack.items) ds) (sym c.in-Some.ensures) (to_z_pos w32 c.in-Some.number small) c.in_ok-push-in-Some.ensures.items c.in_ok-write_int-in-Some.ensures.ok
