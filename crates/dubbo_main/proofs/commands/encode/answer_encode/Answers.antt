use Rattle.hessian_graph.specs.Shape.{shape_of}
use Rattle.dubbo_main.proofs.Encodings.{answers_bytes, answers_damage}
use Rattle.dubbo_main.proofs.commands.encode.answer_encode.Goals as goal

pub returns-in-Ok : goal.returns-in-Ok
returns-in-Ok c =
    let graph = c.in-Ok.graph in
    answers_bytes c.args.input.now c.without_line_end.result.now (shape_of graph) c.written.result c.without_line_end.ensures
    c.in-Ok.ensures.ok.0 c.in-Ok.ensures.ok.1 c.written.ensures.status c.written.ensures.bytes

pub returns-in-Err : goal.returns-in-Err
returns-in-Err c = answers_damage c.args.input.now c.without_line_end.result.now c.in-Err.fault c.refused.result c.without_line_end.ensures
    c.in-Err.ensures.refused c.refused.ensures.cause c.refused.ensures.status c.refused.ensures.line
