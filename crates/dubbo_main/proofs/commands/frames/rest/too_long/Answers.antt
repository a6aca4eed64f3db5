use Rattle.std.proofs.Common.{Err, ap, sym, ◌∙◌}
use Rattle.dubbo_main.proofs.commands.frames.rest.too_long.Goals as goal

pub returns-in-Err-TooLong : goal.returns-in-Err-TooLong
returns-in-Err-TooLong c = (c.read_header.ensures.too_long c.in-Err-TooLong.length).0 (c.in-Err-TooLong.is ∙ ap (λ e. Err e) c.in-Err-TooLong.field-0-is)

pub returns-in-Err-BadMagic : goal.returns-in-Err-BadMagic
returns-in-Err-BadMagic c = λ count is.
    let no = sym (c.in-Err-BadMagic.is ∙ ap (λ e. Err e) c.in-Err-BadMagic.field-0-is) ∙ (c.read_header.ensures.too_long count).1 is in absurd cc

pub returns-in-Ok : goal.returns-in-Ok
returns-in-Ok c = λ count is. let no = sym c.in-Ok.is ∙ (c.read_header.ensures.too_long count).1 is in absurd cc
