use Rattle.std.proofs.Common.{◌≡◌, ◌<◌, ◌+◌, ◌^◌, rules, take, length, get_or, sym, ap, ◌∙◌, arith, ◌+ℤ◌, to_z, of_z}
use Rattle.std.specs.Prelude.{ℤ}
use Rattle.std.specs.Int.{w128}
use Rattle.std.proofs.lemmas.Int.{ints}
use Rattle.std.proofs.lemmas.List.{take_more}
use Rattle.service_table.specs.Replies.{number_of, total}
use Rattle.service_table.proofs.Totals.{total_push, added}
use Rattle.service_table.proofs.sum.total.Goals as goal

pub loop-value-preserved : goal.loop-value-preserved
loop-value-preserved c =
    let s : ℤ = to_z w128 c.loop-value.sum-bits in
    let x : ℤ = c.wide-sum.result in
    let i = c.loop-value.invariant in
    let w = c.wide-sum.ensures in
    let within = c.loop-value-test.true in
    let short : length c.args.values.now < 2 ^ 63 = search rules in
    let is : to_z w128 (of_z w128 (s +ℤ to_z w128 (of_z w128 x))) ≡ s +ℤ x = added s x c.loop-value.value-index (omega (arith, short, within)) i.low i.high w.low w.high in
    let at : total (take (c.loop-value.value-index + 1) c.args.values.now) ≡ total (take c.loop-value.value-index c.args.values.now) +ℤ number_of c.value-item.result =
    ap total (take_more c.args.values.now c.loop-value.value-index c.value-item.result within)
    ∙ total_push (take c.loop-value.value-index c.args.values.now) (get_or c.args.values.now c.loop-value.value-index c.value-item.result)
    ∙ ap (λ v. total (take c.loop-value.value-index c.args.values.now) +ℤ number_of v) (sym c.value-item.is) in
    let low = i.low in
    let high = i.high in
    let least = w.low in
    let greatest = w.high in
    record {
      sum = is ∙ ap (λ y. y +ℤ x) i.sum ∙ ap (λ y. total (take c.loop-value.value-index c.args.values.now) +ℤ y) w.is ∙ sym at;
      low = omega (arith, ints, is, low, least);
      high = omega (arith, ints, is, high, greatest);
    }
