use Rattle.std.proofs.Common.{◌-◌, ◌+◌, ◌≤◌, [], ◌∷◌, length, take, drop, sym, subst}
use Rattle.hessian_text.proofs.Advancing.{rest_is}
use Rattle.hessian_reader.specs.Runs.{AddsNext, AddsOne, AddsValues, AreValues}
use Rattle.hessian_reader.proofs.Runs.{value_more, no_value}
use Rattle.hessian_reader.proofs.values.push_values.Goals as goal

pub loop-count-init : goal.loop-count-init
loop-count-init c =
    let old = c.args.values.now in
    subst (λ vs. AddsValues c.args.nodes old c.args.piece.now c.args.most vs (record { values = 0; bytes = 0 })) (sym c.make_room.ensures) (no_value c.args.nodes old c.args.piece.now c.args.most)

pub loop-count-preserved : goal.loop-count-preserved
loop-count-preserved c =
    let nodes = c.args.nodes in
    let old = c.args.values.now in
    let piece = c.args.piece.now in
    let most = c.args.most in
    let n = c.loop-count.bytes in
    let used = c.in-Some.used in
    let rest = take (length piece - n) (drop n piece) in
    let one : AddsOne nodes c.loop-count.values rest c.push_next.new.values used = subst (AddsNext nodes c.loop-count.values rest c.push_next.new.values) c.in-Some.is c.in_ok-used.ensures in
    subst (λ vs. AddsValues nodes old piece most vs (record { values = c.loop-count.count + 1; bytes = n + used })) (sym one.is)
    (value_more nodes old c.loop-count.values piece most c.loop-count.count n used one.value c.loop-count.invariant c.loop-count-test.true
    (subst (λ r. used ≤ length r) (rest_is n piece) one.within)
    (subst (λ r. AreValues nodes (one.value ∷ []) (take used r)) (rest_is n piece) one.values))
