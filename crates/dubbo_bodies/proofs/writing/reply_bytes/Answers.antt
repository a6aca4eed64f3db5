use Rattle.std.specs.Prelude.{pos}
use Rattle.hessian_graph.specs.Reading.{IntSpelling}
use Rattle.hessian_writer.specs.Leaves.{hessian, hessian_forms}
use Rattle.dubbo_bodies.specs.declared.message.Reply.TheVariants.{Value, Threw, Status}
use Rattle.dubbo_bodies.specs.WrittenBody.{WrittenReply, KindAndGraph}
use Rattle.dubbo_bodies.specs.WrittenBody.WrittenReply.{null, status}
use Rattle.dubbo_bodies.proofs.Bodies.{if_ok, value_written, exception_written, some_roots}
use Rattle.dubbo_bodies.proofs.writing.reply_bytes.Goals as goal

pub returns-then-is_null : goal.returns-then-is_null
returns-then-is_null c =
    let g = c.in-Value.graph in
    rw c.in-Value.is (if_ok c.kind_bytes.result (λ out. IntSpelling hessian_forms (pos 2) out.items) (λ body. WrittenReply hessian hessian_forms (Value g) body.items) (λ body is. null g body.items (c.is_null.ensures.0 c.if-is_null.true) is) c.kind_bytes.ensures)

pub returns-else-is_null : goal.returns-else-is_null
returns-else-is_null c =
    let g = c.in-Value.graph in
    rw c.in-Value.is (if_ok c.outcome_bytes.result (λ out. KindAndGraph hessian hessian_forms (pos 1) g out.items) (λ body. WrittenReply hessian hessian_forms (Value g) body.items) (λ body is. value_written g body.items (some_roots c.is_null.result g.roots c.if-is_null.false c.is_null.ensures.1) is) c.outcome_bytes.ensures)

pub returns-in-Threw : goal.returns-in-Threw
returns-in-Threw c =
    let g = c.in-Threw.graph in
    rw c.in-Threw.is (if_ok c.outcome_bytes-in-Threw.result (λ out. KindAndGraph hessian hessian_forms (pos 0) g out.items) (λ body. WrittenReply hessian hessian_forms (Threw g) body.items) (λ body is. exception_written g body.items is) c.outcome_bytes-in-Threw.ensures)

pub returns-in-Status : goal.returns-in-Status
returns-in-Status c =
    let text = c.in-Status.text in
    rw c.in-Status.is (if_ok c.text_bytes.result (λ out. hessian_forms.text text out.items) (λ body. WrittenReply hessian hessian_forms (Status c.in-Status.code text) body.items) (λ body is. status c.in-Status.code text body.items is) c.text_bytes.ensures)
