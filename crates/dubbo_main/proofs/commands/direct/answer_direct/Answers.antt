use Rattle.dubbo_main.specs.Directing.DirectAnswers.{directed}
use Rattle.dubbo_main.proofs.Directings.{answers_refusal}
use Rattle.dubbo_main.proofs.commands.direct.answer_direct.Goals as goal

pub returns-in_ok-direct-in-Ok : goal.returns-in_ok-direct-in-Ok
returns-in_ok-direct-in-Ok c = directed c.in-Ok.script c.in_ok-direct-in-Ok.field-0.items c.in-Ok.ensures.ok c.in_ok-direct-in-Ok.ensures

pub returns-in-Err : goal.returns-in-Err
returns-in-Err c = answers_refusal c.args.input.now c.in-Err.fault c.refused.result c.in-Err.ensures.refused c.refused.ensures.cause c.refused.ensures.status c.refused.ensures.line
