use Rattle.std.proofs.Common.{◌≡◌, ◌-◌, arith, drop, length, subst, sym, take}
use Rattle.std.specs.Prelude.{IsUtf8, min}
use Rattle.std.specs.Str.{IsValidUpTo}
use Rattle.std.proofs.lemmas.List.{length-take}
use Rattle.hessian_text.proofs.TextUnits.{utf8_on, utf8_window}
use Rattle.hessian_text.proofs.units.utf8_front.Goals as goal

pub returns-in-Err-clause-text : goal.returns-in-Err-clause-text
returns-in-Err-clause-text c =
    let piece = c.args.piece.now in
    let at = c.loop-at.at in
    let size = c.back_in_character-end.result - at in
    let valid : IsValidUpTo (take size (drop at piece)) c.in-Err.fault.valid_up_to = c.in-Err.ensures.cases.1 in
    let len : length (take size (drop at piece)) ≡ min size (length (drop at piece)) = length-take size (drop at piece) in
    let front : IsUtf8 (take c.valid_up_to.result (take size (drop at piece))) = subst (λ n. IsUtf8 (take n (take size (drop at piece)))) (sym c.valid_up_to.ensures) valid.front in
    utf8_on piece at size c.valid_up_to.result c.loop-at.invariant.text front (omega (arith, len, valid.short, c.valid_up_to.ensures))

pub loop-at-preserved : goal.loop-at-preserved
loop-at-preserved c = record { within = omega arith; text = utf8_window c.args.piece.now c.loop-at.at c.back_in_character-end.result c.loop-at.invariant.text c.in-Ok.ensures.cases.1 (omega arith) }
