use Rattle.std.proofs.Common.{rules, ◌≡◌}
use Rattle.std.specs.Prelude.{None}
use Rattle.hessian_graph.specs.Shape.{shape_of}
use Rattle.hessian_graph.specs.Canon.{place_of}
use Rattle.hessian_graph.proofs.Walking.{open_work}
use Rattle.hessian_graph.proofs.walk.Walk.meet.Goals as goal

pub returns-in_ok-push-clause-work : goal.returns-in_ok-push-clause-work
returns-in_ok-push-clause-work c =
    let new : place_of c.args.node c.args.self.now.order.items ≡ None = search rules in
    rw (c.in_ok-open.ensures.numbers, c.in_ok-push.ensures.items, c.open.ensures.stack)
    (open_work (shape_of c.args.parts.now) c.args.self.now.numbers.items c.args.self.now.order.items c.args.self.now.stack.items c.args.node c.requires.fine c.requires.within new)
