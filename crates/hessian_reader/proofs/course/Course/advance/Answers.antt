use Rattle.std.proofs.Common.{◌≡◌, ◌+◌, ◌≤◌, ◌-◌, ◌++◌, ◌∙◌, drop, length, take, ap, subst, arith}
use Rattle.std.proofs.lemmas.List.{length-drop}
use Rattle.std.specs.Prelude.{Ok, Err, IfSome}
use Rattle.hessian_text.specs.Spelling.{AreBytes}
use Rattle.hessian_text.proofs.Advancing.{rest_is}
use Rattle.hessian_reader.specs.Views.{state_of}
use Rattle.hessian_reader.specs.Course.{TakesSome, GoesOn, Passes, StopsIn}
use Rattle.hessian_reader.proofs.OneWay.{bytes_both}
use Rattle.hessian_reader.proofs.Feeding.{Stands, passes_at, not_done_is, done_is, some_behind, goes_behind, stuck_behind, stops_behind, done_follows, tells_done, not_ended, all_taken}
use Rattle.hessian_reader.proofs.course.Course.advance.Goals as goal

pub loop-taken-preserved : goal.loop-taken-preserved
loop-taken-preserved c =
    let r = c.loop-taken.self in
    let n = c.loop-taken.taken in
    let piece = c.args.piece.now in
    let used = c.in-Ok-Some.used in
    let test = c.loop-taken-test.true in
    let inner : length (take (length piece - n) (drop n piece)) ≡ length piece - n = ap length (rest_is n piece) ∙ length-drop n piece in
    let within : used ≤ length (take (length piece - n) (drop n piece)) = subst (λ o. IfSome o (λ k. k ≤ length (take (length piece - n) (drop n piece)))) c.in-Ok-Some.field-0-is c.in-Ok-Some.ensures.within in
    let most = c.max-taken.ensures in
    record {
      low = omega (arith, test, inner, within, most);
      fed = c.in-Ok-Some.ensures.same.0 ∙ c.loop-taken.invariant.fed;
      refused = c.in-Ok-Some.ensures.same.1 ∙ c.loop-taken.invariant.refused;
      stands = λ roots fed count small f.
          let st = c.loop-taken.invariant.stands roots fed count small f in
          let small' : AreBytes piece = record { small = λ i h. omega (arith, c.type_inv.piece i) } in
          let d = not_done_is c.is_done.result (state_of r.work) c.is_done.ensures c.if-is_done.false in
          let q : TakesSome r c.next_elements.new.self (r.fed + n) st.follows.came (drop n piece) used = subst (λ o. Passes r (r.fed + n) st.follows.came (drop n piece) c.next_elements.new.self (Ok o)) c.in-Ok-Some.field-0-is (passes_at r c.next_elements.new.self roots fed piece n (r.fed + n) (Ok c.in-Ok-Some.field-0) st small small' c.in-Ok-Some.ensures.passes) in
          let same = c.loop-taken.invariant.fed in
          let some = q.one.some in
          let count' = q.count in
          let place : r.fed + n ≡ length fed + n = omega (arith, same, count) in
          let last : n + used ≡ n + c.max-taken.result = omega (arith, most, some, count') in
          subst (λ k. Stands c.next_elements.new.self roots fed (take k piece)) last (some_behind r c.next_elements.new.self roots fed piece n used (r.fed + n) st c.loop-taken.invariant.low place d q);
    }

pub returns-then-is_done-clause-tells : goal.returns-then-is_done-clause-tells
returns-then-is_done-clause-tells c = λ roots fed count small f.
    let r = c.loop-taken.self in
    let st = c.loop-taken.invariant.stands roots fed count small f in
    let e = done_is c.is_done.result (state_of r.work) c.is_done.ensures c.if-is_done.true in
    (tells_done r roots fed c.args.piece.now c.loop-taken.taken c.loop-taken.invariant.low st e, done_follows r roots fed c.args.piece.now c.loop-taken.taken st e)

pub returns-in-Ok-None-clause-tells : goal.returns-in-Ok-None-clause-tells
returns-in-Ok-None-clause-tells c = λ roots fed count small f.
    let r = c.loop-taken.self in
    let n = c.loop-taken.taken in
    let piece = c.args.piece.now in
    let new = c.next_elements.new.self in
    let st = c.loop-taken.invariant.stands roots fed count small f in
    let small' : AreBytes piece = record { small = λ i h. omega (arith, c.type_inv.piece i) } in
    let d = not_done_is c.is_done.result (state_of r.work) c.is_done.ensures c.if-is_done.false in
    let q : GoesOn r new st.follows.came (drop n piece) = subst (λ o. Passes r (r.fed + n) st.follows.came (drop n piece) new (Ok o)) c.in-Ok-None.field-0-is (passes_at r new roots fed piece n (r.fed + n) (Ok c.in-Ok-None.field-0) st small small' c.in-Ok-None.ensures.passes) in
    let g = goes_behind r new roots fed piece n st d q in
    let d' = ap (λ w. Rattle.hessian_reader.specs.States.is_done (state_of w)) q.work ∙ d in
    (not_ended new roots (fed ++ piece) g (bytes_both fed piece small small') d', g)

pub returns-in-Err-clause-refused : goal.returns-in-Err-clause-refused
returns-in-Err-clause-refused c = λ roots fed count small f some.
    let r = c.loop-taken.self in
    let n = c.loop-taken.taken in
    let piece = c.args.piece.now in
    let new = c.next_elements.new.self in
    let st = c.loop-taken.invariant.stands roots fed count small f in
    let small' : AreBytes piece = record { small = λ i h. omega (arith, c.type_inv.piece i) } in
    let d = not_done_is c.is_done.result (state_of r.work) c.is_done.ensures c.if-is_done.false in
    let q : Passes r (r.fed + n) st.follows.came (drop n piece) new (Err c.in-Err.fault) = passes_at r new roots fed piece n (r.fed + n) (Err c.in-Err.fault) st small small' c.in-Err.ensures.passes in
    stuck_behind r roots fed piece n st (bytes_both fed piece small small') d (q some)

pub returns-then-is_done-2-clause-tells : goal.returns-then-is_done-2-clause-tells
returns-then-is_done-2-clause-tells c = λ roots fed count small f.
    let r = c.loop-taken.self in
    let st = c.loop-taken.invariant.stands roots fed count small f in
    let e = done_is c.is_done-2.result (state_of r.work) c.is_done-2.ensures c.if-is_done-2.true in
    (tells_done r roots fed c.args.piece.now c.loop-taken.taken c.loop-taken.invariant.low st e, done_follows r roots fed c.args.piece.now c.loop-taken.taken st e)

pub returns-else-is_done-2-clause-tells : goal.returns-else-is_done-2-clause-tells
returns-else-is_done-2-clause-tells c = λ roots fed count small f.
    let r = c.loop-taken.self in
    let piece = c.args.piece.now in
    let st = c.loop-taken.invariant.stands roots fed count small f in
    let small' : AreBytes piece = record { small = λ i h. omega (arith, c.type_inv.piece i) } in
    let d = not_done_is c.is_done-2.result (state_of r.work) c.is_done-2.ensures c.if-is_done-2.false in
    let g = all_taken r roots fed piece c.loop-taken.taken c.loop-taken-test.false st in
    (not_ended r roots (fed ++ piece) g (bytes_both fed piece small small') d, g)

pub returns-in-Err-clause-why : goal.returns-in-Err-clause-why
returns-in-Err-clause-why c = λ roots fed count small f some.
    let r = c.loop-taken.self in
    let n = c.loop-taken.taken in
    let piece = c.args.piece.now in
    let st = c.loop-taken.invariant.stands roots fed count small f in
    let small' : AreBytes piece = record { small = λ i h. omega (arith, c.type_inv.piece i) } in
    let d = not_done_is c.is_done.result (state_of r.work) c.is_done.ensures c.if-is_done.false in
    let same = c.loop-taken.invariant.fed in
    let place : r.fed + n ≡ length fed + n = omega (arith, same, count) in
    let stops : StopsIn r (r.fed + n) (drop n piece) c.in-Err.fault = subst (λ p. StopsIn r (r.fed + n) p c.in-Err.fault) (rest_is n piece) (c.in-Err.ensures.why some) in
    stops_behind r roots fed piece n (r.fed + n) c.in-Err.fault st c.loop-taken.invariant.low place small small' d stops
