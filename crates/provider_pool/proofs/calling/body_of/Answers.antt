use Rattle.std.proofs.Common.{◌≢◌, ap, ◌∙◌, arith}
use Rattle.std.specs.Prelude.{Err}
use Rattle.dubbo_bodies.specs.declared.fault.WriteBodyFault.TheVariants.{OutOfMemory}
use Rattle.provider_pool.proofs.calling.body_of.Goals as goal

pub unreachable-requires : goal.unreachable-requires
unreachable-requires c =
    let other : c.write_reply.result ≢ Err OutOfMemory = λ e. let long = c.in-Err-TooLong.is in let which = c.in-Err-TooLong.field-0-is in absurd cc in
    let long = (c.write_reply.ensures.long c.in-Err-TooLong.field-0-0 other).0 (c.in-Err-TooLong.is ∙ ap Err c.in-Err-TooLong.field-0-is) in
    let short = c.requires.short long.body long.is in
    omega (arith, short, long.counted, long.above)
