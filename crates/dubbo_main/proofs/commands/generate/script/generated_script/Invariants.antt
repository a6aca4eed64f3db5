use Rattle.std.proofs.Common.{◌≡◌}
use Rattle.dubbo_main.specs.GeneratedScript.{generated_script}
use Rattle.dubbo_main.proofs.commands.generate.script.generated_script.Given as goal

-- the services and the calls so far are written
abbrev pub invariant-loop-call : goal.invariant-loop-call
invariant-loop-call l = l.text.items ≡ generated_script l.call
