use Rattle.dubbo_main.proofs.GeneratedLines.{argument_0, argument_1, argument_2}
use Rattle.dubbo_main.proofs.commands.generate.script.around.Goals as goal

pub returns-in-0 : goal.returns-in-0
returns-in-0 c = λ number. argument_0 c.args.form number c.in-0.is

pub returns-in-1 : goal.returns-in-1
returns-in-1 c = λ number. argument_1 c.args.form number c.in-1.is

pub returns-in-2 : goal.returns-in-2
returns-in-2 c = λ number. argument_2 c.args.form number c.in-2.is
