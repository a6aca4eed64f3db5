use Rattle.std.proofs.Common.{◌≡◌, ◌+◌, ◌-◌, take, drop, refl, arith, subst}
use Rattle.graph_notation.specs.Pressing.{IsOn}
use Rattle.graph_notation.proofs.Runs.{block_on, in_block}
use Rattle.graph_notation.proofs.printed.go_past_block.Goals as goal

pub returns-then-all_stand-clause-written : goal.returns-then-all_stand-clause-written
returns-then-all_stand-clause-written c = λ before w.
    let text = c.args.text.now in
    let first = c.args.first in
    let n = c.args.end - c.args.start in
    let low = c.requires.start in
    let within = c.requires.end in
    let end : c.args.start + n ≡ c.args.end = omega (arith, low) in
    subst (IsOn before text c.args.out.now.items first) end
    (block_on text before c.args.out.now.items first c.args.start n c.requires.first (omega (arith, low, within))
    (in_block text (take n (drop c.args.start text)) c.args.start n refl (c.all_stand.ensures c.if-all_stand.true) (omega (arith, low, within))) w)
