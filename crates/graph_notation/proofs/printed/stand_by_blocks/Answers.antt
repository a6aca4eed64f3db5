use Rattle.std.proofs.Common.{◌≡◌, ◌+◌, ◌-◌, take, drop, length, refl, subst, arith}
use Rattle.graph_notation.proofs.Runs.{StandTo, stand_further}
use Rattle.graph_notation.proofs.printed.stand_by_blocks.Goals as goal

pub loop-at-preserved : goal.loop-at-preserved
loop-at-preserved c =
    let text = c.args.text.now in
    let at = c.loop-at.at in
    let n = at + c.args.size - at in
    let there = c.loop-at-test.true in
    let whole = c.requires.whole in
    let next : at + n ≡ at + c.args.size = omega arith in
    record {
      within = omega (arith, there, whole);
      stand = subst (StandTo text) next (stand_further text (take n (drop at text)) at n c.loop-at.invariant.stand refl (c.if-not-all_stand.ensures refl) (omega (arith, there, whole)));
    }

pub returns : goal.returns
returns c = λ stands.
    let text = c.args.text.now in
    let last = length text - c.args.size in
    let n = length text - last in
    let past = c.loop-at-test.false in
    let whole = c.requires.whole in
    let all : last + n ≡ length text = omega (arith, whole) in
    subst (StandTo text) all (stand_further text (take n (drop last text)) last n (λ k low. c.loop-at.invariant.stand k (omega (arith, low, past))) refl (c.all_stand-2.ensures stands) (omega (arith, whole)))
