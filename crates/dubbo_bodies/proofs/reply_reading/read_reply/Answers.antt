use Rattle.std.proofs.Common.{◌∙◌, ap, ◌++◌, arith}
use Rattle.hessian_text.specs.Spelling.{AreBytes}
use Rattle.dubbo_bodies.proofs.ReplyAnswers.{answered, refused}
use Rattle.dubbo_bodies.proofs.reply_reading.read_reply.Goals as goal

pub returns-clause-complete : goal.returns-clause-complete
returns-clause-complete c =
    let small' : AreBytes c.args.body.now = record { small = λ i h. omega (arith, c.type_inv.body i) } in
    answered c.args.header.now c.fed.result.came.header c.args.body.now c.fed.result.came.fed.bytes c.finish.result (c.fed.ensures.header_is ∙ c.begin.ensures.header_is) (c.fed.ensures.bytes_are ∙ ap (λ b. b ++ c.args.body.now) c.begin.ensures.bytes_are) small' c.finish.ensures.ok c.finish.ensures.why

pub returns-clause-refused : goal.returns-clause-refused
returns-clause-refused c =
    let small' : AreBytes c.args.body.now = record { small = λ i h. omega (arith, c.type_inv.body i) } in
    refused c.args.header.now c.fed.result.came.header c.args.body.now c.fed.result.came.fed.bytes c.finish.result (c.fed.ensures.header_is ∙ c.begin.ensures.header_is) (c.fed.ensures.bytes_are ∙ ap (λ b. b ++ c.args.body.now) c.begin.ensures.bytes_are) small' c.finish.ensures.why
