use Rattle.std.proofs.Common.{rules, ◌≡◌, length, vec_len}
use Rattle.hessian_graph.specs.Shape.{shape_of}
use Rattle.hessian_graph.proofs.Walking.{open_fine}
use Rattle.hessian_graph.proofs.walk.Walk.open.Goals as goal

pub returns-clause-fine : goal.returns-clause-fine
returns-clause-fine c =
    let e : vec_len c.args.self.now.order ≡ length c.args.self.now.order.items = search rules in
    rw (c.in_ok-push.ensures.items, c.len.ensures, e)
    (open_fine (shape_of c.args.parts.now) c.args.self.now.numbers.items c.args.self.now.order.items c.args.self.now.stack.items c.args.node c.requires.fine c.requires.within c.requires.new)
