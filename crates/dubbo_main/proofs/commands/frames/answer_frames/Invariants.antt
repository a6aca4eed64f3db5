use Rattle.std.proofs.Common.{length}
use Rattle.dubbo_main.proofs.Framings.{IsShownTo}
use Rattle.dubbo_main.proofs.commands.frames.answer_frames.Given as goal

abbrev pub invariant-loop-found : goal.invariant-loop-found
invariant-loop-found l = IsShownTo l.input l.rest l.text.items

abbrev pub decreases-loop-found : goal.decreases-loop-found
decreases-loop-found l = length l.rest
