use Rattle.std.proofs.Common.{◌<◌, length, sym, subst}
use Rattle.dubbo_main.proofs.GeneratedLines.{length_script}
use Rattle.dubbo_main.proofs.commands.generate.summary.Goals as goal

pub read-requires : goal.read-requires
read-requires c = subst (λ bytes. length bytes < 2147483648) (sym c.requires.made) (length_script c.args.calls c.requires.few)
