use Rattle.std.proofs.Common.{sym, subst}
use Rattle.dubbo_bodies.specs.AttachmentsRead.{Keeps}
use Rattle.dubbo_bodies.specs.AttachmentsRead.Keeps.{dropped}
use Rattle.dubbo_bodies.proofs.ReadPairs.{keeps_text}
use Rattle.dubbo_bodies.proofs.read_attachments.keep_text.Goals as goal

pub returns-in_default : goal.returns-in_default
returns-in_default c = dropped c.args.value.now c.in_default.not-Text

pub returns : goal.returns
returns c =
    subst (λ v. Keeps c.args.found.now.items c.args.name.now v c.push.new.self.items) (sym c.in-Text.is)
    (keeps_text c.args.found.now.items c.push.new.self.items c.args.name.now c.in-Text.text (record { name = c.in_ok-copy_text.field-0; value = c.in_ok-copy_text-2.field-0 }) c.in_ok-copy_text.ensures c.in_ok-copy_text-2.ensures c.in_ok-push.ensures.items)
