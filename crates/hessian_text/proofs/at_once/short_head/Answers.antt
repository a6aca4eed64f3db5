use Rattle.std.proofs.Common.{◌*◌, ◌+◌, arith}
use Rattle.hessian_text.proofs.AtOnce.{short_one, short_two, row_of}
use Rattle.hessian_text.proofs.AtOnce.Row.{one, two}
use Rattle.hessian_text.proofs.at_once.short_head.Goals as goal

pub returns-in-0-to-31-clause-head : goal.returns-in-0-to-31-clause-head
returns-in-0-to-31-clause-head c =
    let first = c.in_ok-code.ensures.item.3 in
    let code = first.1 0 in
    short_one c.args.piece.now c.from.result (omega (arith, first.0)) (omega (arith, code)) (omega (arith, code))

pub returns-in_ok-get-in-48-to-51-clause-head : goal.returns-in_ok-get-in-48-to-51-clause-head
returns-in_ok-get-in-48-to-51-clause-head c =
    let code = c.in_ok-code.ensures.item.3.1 0 in
    let second = c.in_ok-get-in-48-to-51.ensures.lookup.3 in
    let low = second.1 0 in
    short_two c.args.piece.now (c.from-in-48-to-51.result * 256 + c.from-in-48-to-51-2.result) (omega (arith, second.0)) (omega (arith, code)) (omega (arith, code)) (omega (arith, c.type_inv.piece 1)) (omega (arith, code, low))

pub returns-in_err-get-in-48-to-51-clause-none : goal.returns-in_err-get-in-48-to-51-clause-none
returns-in_err-get-in-48-to-51-clause-none c =
    let code = c.in_ok-code.ensures.item.3.1 0 in
    let lacks = c.in_err-get-in-48-to-51.ensures.lookup in
    rw c.from_residual-in_err-get-in-48-to-51.ensures (λ units len few within h. elim (row_of c.args.piece.now units len few within h) [
      | one l some small e ↦ omega (arith, code, small)
      | two l some least most e ↦ omega (arith, lacks, some)
    ])

pub returns-in_ok-get-in-48-to-51-clause-only : goal.returns-in_ok-get-in-48-to-51-clause-only
returns-in_ok-get-in-48-to-51-clause-only c =
    let code = c.in_ok-code.ensures.item.3.1 0 in
    let low = c.in_ok-get-in-48-to-51.ensures.lookup.3.1 0 in
    λ units len few within h. elim (row_of c.args.piece.now units len few within h) [
      | one l some small e ↦ absurd (omega (arith, code, small))
      | two l some least most e ↦ (l, omega (arith, code, low, e))
    ]
