use Rattle.std.proofs.Common.{refl}
use Rattle.hash_ring.proofs.Pointing.{first_of_range, first_or_none}
use Rattle.hash_ring.proofs.held.first_from.Goals as goal

pub returns-in-Some : goal.returns-in-Some
returns-in-Some c = first_of_range c.args.number (record { number = c.args.number; name = c.new.result }) c.args.points.now.keys (refl, c.new.ensures.bytes) c.range.ensures.ordered
    c.range.result (c.range.ensures.between tt) c.in-Some.point.now _ c.in-Some.ensures.steps

pub returns-in-None : goal.returns-in-None
returns-in-None c = first_or_none c.args.number (record { number = c.args.number; name = c.new.result }) c.args.points.now.keys (refl, c.new.ensures.bytes)
    c.range.result (c.range.ensures.between tt) c.in-None.ensures.steps.0 c.first.result c.first.ensures.variant.1 c.first.ensures.first c.first.ensures.all_from
