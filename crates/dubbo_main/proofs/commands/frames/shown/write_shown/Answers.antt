use Rattle.std.proofs.Common.{[], sym, append-nil}
use Rattle.dubbo_main.specs.FrameLines.Shows.{event}
use Rattle.dubbo_main.proofs.commands.frames.shown.write_shown.Goals as goal

pub returns-then-header : goal.returns-then-header
returns-then-header c = ([], event c.if-header.true, sym (append-nil c.args.text.now.items))
