use Rattle.std.proofs.Common.{◌≡◌, ◌++◌, ap, ◌∙◌}
use Rattle.dubbo_main.proofs.GeneratedLines.{script_begun, script_next}
use Rattle.dubbo_main.proofs.commands.generate.script.generated_script.Goals as goal

pub loop-call-init : goal.loop-call-init
loop-call-init c =
    let first : c.extend_from_slice.new.self.items ≡ c.as_bytes.result.now = c.in_ok-extend_from_slice.ensures.items ∙ ap (λ items. items ++ c.as_bytes.result.now) c.new-text.ensures.items in
    script_begun c.extend_from_slice.new.self.items c.as_bytes.result.now first c.as_bytes.ensures.value

pub loop-call-preserved : goal.loop-call-preserved
loop-call-preserved c =
    script_next c.loop-call.text.items c.write_call.new.text.items c.loop-call.call c.loop-call.invariant c.in_ok-write_call.ensures
