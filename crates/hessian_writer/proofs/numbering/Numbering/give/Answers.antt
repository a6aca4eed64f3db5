use Rattle.std.proofs.Common.{rules, ◌≡◌, ◌<◌, length}
use Rattle.std.specs.Prelude.{None}
use Rattle.hessian_graph.specs.Canon.{place_of}
use Rattle.hessian_writer.proofs.Numbers.{next_number}
use Rattle.hessian_writer.proofs.numbering.Numbering.give.Goals as goal

pub invariant_of-self-2 : goal.invariant_of-self-2
invariant_of-self-2 c =
    let e : c.len-number.result ≡ length c.self.inside.order.items = search rules in
    let within : c.args.thing < length c.self.inside.numbers.items = rw (← c.self.view_is) at c.requires.within in
    let new : place_of c.args.thing c.self.inside.order.items ≡ None = rw (← c.self.view_is) at c.requires.new in
    rw (c.in_ok-push.ensures.items, e)
    (next_number c.self.inside.numbers.items c.self.inside.order.items c.args.thing c.self.invariant within new)
