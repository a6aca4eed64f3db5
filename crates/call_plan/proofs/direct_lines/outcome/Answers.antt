use Rattle.std.proofs.Common.{refl}
use Rattle.call_plan.specs.DirectTranscript.EndsDirectly.{sent, answered}
use Rattle.call_plan.proofs.direct_lines.outcome.Goals as goal

pub returns-in-Oneway : goal.returns-in-Oneway
returns-in-Oneway c = sent _ c.in-Oneway.is refl

pub returns-in_ok-reply-in_default : goal.returns-in_ok-reply-in_default
returns-in_ok-reply-in_default c = answered _ c.in_ok-reply-in_default.reply c.in_default.not-Oneway (c.in_ok-reply-in_default.ensures {u = tt}).direct c.result_of.ensures
