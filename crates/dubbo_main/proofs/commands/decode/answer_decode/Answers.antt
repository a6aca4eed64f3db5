use Rattle.hessian_graph.specs.Shape.{shape_of}
use Rattle.dubbo_main.proofs.Decodings.{answers_notation, answers_fault}
use Rattle.dubbo_main.proofs.commands.decode.answer_decode.Goals as goal

pub returns-in-Ok : goal.returns-in-Ok
returns-in-Ok c = answers_notation c.args.roots c.args.input.now (shape_of c.in-Ok.graph) c.printed.result c.in-Ok.ensures.ok.0 c.in-Ok.ensures.ok.1
    c.printed.ensures.status c.printed.ensures.text

pub returns-in-Err : goal.returns-in-Err
returns-in-Err c = answers_fault c.args.roots c.args.input.now c.in-Err.fault c.refused.result c.in-Err.ensures.refused c.in-Err.ensures.why
    c.refused.ensures.cause c.refused.ensures.status c.refused.ensures.line
