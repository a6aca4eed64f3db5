use Rattle.std.proofs.Common.{arith}
use Rattle.std.specs.Int.{w32}
use Rattle.std.proofs.lemmas.Int.{to_z-of_z}
use Rattle.std.proofs.lemmas.Bool.Decides.{nat_tests}
use Rattle.dubbo_play.proofs.Lines.{blank, remark, service_said, call_said}
use Rattle.dubbo_play.proofs.first_script.fields.line_fields.Goals as goal
use Rattle.dubbo_play.proofs.first_script.fields.line_fields.Goals.{then-is_empty-via-then-is_empty, then-is_empty-via-else-is_empty+then-line-eq35}

pub returns-then-is_empty : goal.returns-then-is_empty
returns-then-is_empty c = elim c.then-is_empty.branch [
  | then-is_empty-via-then-is_empty w ↦ blank c.args.line.now (grind (arith, nat_tests))
  | then-is_empty-via-else-is_empty+then-line-eq35 w ↦ remark c.args.line.now (grind (arith, nat_tests))
]

pub returns-in-Some : goal.returns-in-Some
returns-in-Some c = service_said _ _ _ c.in-Some.ensures.0 c.in-Some.ensures.1 c.in-Some.ensures.2

pub returns-in_ok-path-in-None : goal.returns-in_ok-path-in-None
returns-in_ok-path-in-None c = rw (to_z-of_z w32 c.in_ok-path-in-None.argument c.in_ok-path-in-None.ensures.0.argument)
    (call_said _ _ c.in_ok-path-in-None.ensures.0 c.in_ok-path-in-None.ensures.1)
