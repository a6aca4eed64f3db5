use Rattle.std.proofs.Common.{◌+◌, drop, arith}
use Rattle.graph_notation.specs.Unquoting.{unhexed}
use Rattle.graph_notation.proofs.Digits.{pair_on, odd_end}
use Rattle.graph_notation.proofs.hex.add_pairs.Goals as goal

pub loop-at-preserved : goal.loop-at-preserved
loop-at-preserved c =
    let h = pair_on c.args.digits.now c.loop-at.at c.in-Some.byte c.loop-at.out.items (omega arith) c.loop-at.invariant.1 (c.in-Some.ensures.byte (unhexed (drop (c.loop-at.at + 2) c.args.digits.now))) in
    (omega arith, rw c.in_ok-push-in-Some.ensures.items h)

pub returns-else-at-digits : goal.returns-else-at-digits
returns-else-at-digits c = odd_end c.args.digits.now c.loop-at.at c.loop-at.out.items (omega arith) c.loop-at.invariant.1
