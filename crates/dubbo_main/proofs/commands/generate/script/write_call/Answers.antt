use Rattle.std.proofs.Common.{◌∙◌, ◌++◌, sym, ap}
use Rattle.dubbo_main.proofs.GeneratedLines.{line_of_pieces}
use Rattle.dubbo_main.proofs.commands.generate.script.write_call.Goals as goal

pub returns : goal.returns
returns c = line_of_pieces c.args.text.now.items c.as_bytes.result.now c.as_bytes-2.result.now c.as_bytes-3.result.now c.as_bytes-4.result.now c.args.call
    c.extend_from_slice.new.self.items c.extend_from_slice-2.new.self.items c.extend_from_slice-3.new.self.items c.extend_from_slice-4.new.self.items
    c.extend_from_slice-5.new.self.items c.extend_from_slice-6.new.self.items c.push.new.self.items
    (c.as_bytes.ensures.value ∙ c.kind.ensures) (c.as_bytes-3.ensures.value ∙ c.format.ensures.text)
    (λ any. c.around.ensures any ∙ sym (ap (λ front. front ++ any ++ c.as_bytes-4.result.now) c.as_bytes-2.ensures.value ∙ ap (λ behind. c.around.result.0.now ++ any ++ behind) c.as_bytes-4.ensures.value))
    c.in_ok-extend_from_slice.ensures.items c.in_ok-extend_from_slice-2.ensures.items c.in_ok-extend_from_slice-3.ensures.items c.in_ok-extend_from_slice-4.ensures.items
    c.in_ok-extend_from_slice-5.ensures.items c.in_ok-extend_from_slice-6.ensures.items c.in_ok-push.ensures.items
