use Rattle.std.specs.Prelude.{codes}
use Rattle.dubbo_play.proofs.Joins.{line_joined}
use Rattle.dubbo_play.proofs.first_script.lines.service_text.Goals as goal

pub returns : goal.returns
returns c =
    line_joined (codes "service ") c.args.path.now _ (codes " - ") c.args.method.now _ (codes " Ljava/lang/Object; ") (codes "echo") _ _ _ _ _
    c.as_bytes.ensures.value c.as_bytes-2.ensures.value (c.in_ok-text.ensures {u = tt}).items (c.in_ok-extend_from_slice.ensures {u = tt}).items
    (c.in_ok-extend_from_slice-2.ensures {u = tt}).items (c.in_ok-extend_from_slice-3.ensures {u = tt}).items (c.in_ok-extend_from_slice-4.ensures {u = tt}).items
