use Rattle.std.proofs.Common.{ap, ◌∙◌, Some}
use Rattle.dubbo_play.proofs.Places.{text_there, refused_text}
use Rattle.dubbo_play.proofs.first_texts.skip_text.Goals as goal

pub returns-in-Ok-clause-text : goal.returns-in-Ok-clause-text
returns-in-Ok-clause-text c = λ text written rest w e.
    let read = (c.in-Ok.ensures {u = tt}).complete text _ (text_there c.args.bytes.now text written rest c.args.at c.requires w e) in
    ap Some (c.end_of.ensures ∙ read.1)

pub returns-in-Err-clause-text : goal.returns-in-Err-clause-text
returns-in-Err-clause-text c =
    refused_text c.args.bytes.now c.args.at c.none_for.result (λ text written rest w e.
    c.none_for.ensures.wanting ((c.in-Err.ensures {u = tt}).complete text _ (text_there c.args.bytes.now text written rest c.args.at c.requires w e)))
