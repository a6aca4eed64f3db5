use Rattle.std.proofs.Common.{arith}
use Rattle.graph_notation.proofs.SmallNumbers.{one_zero, first_digit, digit_more}
use Rattle.graph_notation.proofs.numbers.small.Goals as goal

pub returns-then-bytes-eq1 : goal.returns-then-bytes-eq1
returns-then-bytes-eq1 c = (omega arith, one_zero c.args.bytes.now c.in_ok-first.first c.if-bytes-eq1.true c.in_ok-first.ensures.2 c.if-first-eq0.true)

pub loop-at-init : goal.loop-at-init
loop-at-init c =
    let h = c.in_ok-first.ensures.0 in
    let l = c.in_ok-first.ensures.1 in
    record {
      within = omega (arith, h);
      some = omega (arith, c.if-first-eq0.false);
      few = omega (arith, l);
      written = first_digit c.args.bytes.now c.in_ok-first.first h l c.in_ok-first.ensures.2;
    }

pub loop-at-preserved : goal.loop-at-preserved
loop-at-preserved c =
    let h = c.in_ok-next.ensures.0 in
    let l = c.in_ok-next.ensures.1 in
    let some = c.loop-at.invariant.some in
    record {
      within = omega (arith, h);
      some = omega (arith, some);
      few = omega (arith, l);
      written = digit_more c.args.bytes.now c.loop-at.at c.loop-at.value c.in_ok-next.next h c.loop-at.invariant.written some l c.in_ok-next.ensures.2 (omega arith);
    }
