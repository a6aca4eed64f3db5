use Rattle.std.proofs.Common.{◌≡◌, ◌-◌, arith, length, drop, take, subst}
use Rattle.std.proofs.lemmas.List.{length-drop}
use Rattle.hessian_text.specs.declared.reader.Front.TheVariants as fronts
use Rattle.hessian_text.specs.Reader.{TakesFront}
use Rattle.hessian_text.proofs.Advancing.{advances_none, advances_on, rest_is}
use Rattle.hessian_text.proofs.reader.ChunkReader.feed.Goals as goal

pub loop-taken-init : goal.loop-taken-init
loop-taken-init c = record { within = omega arith; advances = advances_none c.args.self.now }

pub loop-taken-preserved : goal.loop-taken-preserved
loop-taken-preserved c =
    let piece = c.args.piece.now in
    let at = c.loop-taken.taken in
    let count = c.in-Taken.count in
    let told : TakesFront c.loop-taken.self (drop at piece) c.take_front.new.self (fronts.Taken count) = subst (λ x. TakesFront c.loop-taken.self x c.take_front.new.self (fronts.Taken count)) (rest_is at piece) (subst (λ t. TakesFront c.loop-taken.self (take (length piece - at) (drop at piece)) c.take_front.new.self t) c.in-Taken.is c.in_ok-count.ensures) in
    let len : length (drop at piece) ≡ length piece - at = length-drop at piece in
    record { within = omega (arith, len, told.1, c.loop-taken.invariant.within); advances = advances_on c.args.self.now c.loop-taken.self c.take_front.new.self at count piece c.loop-taken.invariant.advances told.2 }
