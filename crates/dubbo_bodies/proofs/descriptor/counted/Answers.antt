use Rattle.std.proofs.Common.{length, sym, subst, ◌∙◌, ◌≡◌, ◌<◌, arith, suc, add-one}
use Rattle.std.specs.Prelude.{IsTrue, false, Bool}
use Rattle.dubbo_bodies.specs.Descriptor.{MOST}
use Rattle.dubbo_bodies.specs.Stages.{IsFull, ended}
use Rattle.dubbo_bodies.proofs.Running.{AreBytes}
use Rattle.dubbo_bodies.proofs.Counting.{small}
use Rattle.dubbo_bodies.proofs.Goes.{GoesTo, goes_at_first, stops_here, stops_at_end, has_at_end, exceeds_full, goes_on, room_before}
use Rattle.dubbo_bodies.proofs.descriptor.counted.Goals as goal

not_full : (full : Bool) (P : Type 0) → full ≡ false → (P → IsTrue full) → P → ⊥
not_full full P e h p = let k : IsTrue false = subst IsTrue e (h p) in cc

pub loop-at-init : goal.loop-at-init
loop-at-init c = goes_at_first c.args.desc.now

pub returns-in_default : goal.returns-in_default
returns-in_default c =
    let bytes : AreBytes c.args.desc.now = small c.args.desc.now (λ i. omega (arith, c.type_inv.desc i)) in
    stops_here c.args.desc.now c.loop-at.at c.loop-at.stage c.loop-at.count bytes c.loop-at-test.true c.loop-at.invariant (sym c.stage_after.ensures ∙ c.in_default.is)

pub returns-then-is_full : goal.returns-then-is_full
returns-then-is_full c =
    let bytes : AreBytes c.args.desc.now = small c.args.desc.now (λ i. omega (arith, c.type_inv.desc i)) in
    let full : IsFull c.loop-at.stage c.loop-at.count = c.is_full.ensures.0 c.if-is_full.true in
    exceeds_full c.args.desc.now c.loop-at.at c.loop-at.stage c.in-Some.next c.loop-at.count bytes c.loop-at-test.true full c.loop-at.invariant (sym c.stage_after.ensures ∙ c.in-Some.is)

pub ended-count-requires : goal.ended-count-requires
ended-count-requires c =
    let some_room : c.loop-at.count < MOST = room_before c.loop-at.stage c.loop-at.count c.loop-at.invariant.room (not_full c.is_full.result (IsFull c.loop-at.stage c.loop-at.count) c.if-is_full.false c.is_full.ensures.1) in
    some_room

pub loop-at-preserved : goal.loop-at-preserved
loop-at-preserved c =
    let next : GoesTo c.args.desc.now (suc c.loop-at.at) c.in-Some.next (ended c.in-Some.next c.loop-at.count) = goes_on c.args.desc.now c.loop-at.at c.loop-at.stage c.in-Some.next c.loop-at.count c.loop-at-test.true c.loop-at.invariant (not_full c.is_full.result (IsFull c.loop-at.stage c.loop-at.count) c.if-is_full.false c.is_full.ensures.1) (sym c.stage_after.ensures ∙ c.in-Some.is) in
    subst (λ n. GoesTo c.args.desc.now n c.in-Some.next c.ended-count.result) (sym (add-one c.loop-at.at)) (subst (GoesTo c.args.desc.now (suc c.loop-at.at) c.in-Some.next) (sym c.ended-count.ensures) next)

pub returns-in-Between : goal.returns-in-Between
returns-in-Between c =
    let bytes : AreBytes c.args.desc.now = small c.args.desc.now (λ i. omega (arith, c.type_inv.desc i)) in
    let whole : c.loop-at.at ≡ length c.args.desc.now = omega (arith, c.loop-at.auto.at-end, c.loop-at-test.false) in
    has_at_end c.args.desc.now c.loop-at.count bytes (subst (λ s. GoesTo c.args.desc.now (length c.args.desc.now) s c.loop-at.count) c.in-Between.is (subst (λ n. GoesTo c.args.desc.now n c.loop-at.stage c.loop-at.count) whole c.loop-at.invariant))

pub returns-in_default-stage : goal.returns-in_default-stage
returns-in_default-stage c =
    let bytes : AreBytes c.args.desc.now = small c.args.desc.now (λ i. omega (arith, c.type_inv.desc i)) in
    let whole : c.loop-at.at ≡ length c.args.desc.now = omega (arith, c.loop-at.auto.at-end, c.loop-at-test.false) in
    stops_at_end c.args.desc.now c.loop-at.stage c.loop-at.count bytes (subst (λ n. GoesTo c.args.desc.now n c.loop-at.stage c.loop-at.count) whole c.loop-at.invariant) c.in_default-stage.not-Between
