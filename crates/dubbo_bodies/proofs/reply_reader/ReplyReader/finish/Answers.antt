use Rattle.dubbo_bodies.proofs.ReplyAnswers.{seen_of, answered, refused}
use Rattle.dubbo_bodies.proofs.reply_reader.ReplyReader.finish.Goals as goal

pub returns-clause-complete : goal.returns-clause-complete
returns-clause-complete c = λ header started.
    let seen = seen_of c.args.self c.self.inside.reading c.in-Some.reading header c.self.view_is c.in-Some.is c.self.invariant started in
    answered header c.in-Some.reading.came.header c.args.self.fed c.in-Some.reading.came.fed.bytes c.finish.result seen.header_is seen.bytes_are seen.small c.finish.ensures.ok c.finish.ensures.why

pub returns-clause-refused : goal.returns-clause-refused
returns-clause-refused c = λ header started.
    let seen = seen_of c.args.self c.self.inside.reading c.in-Some.reading header c.self.view_is c.in-Some.is c.self.invariant started in
    refused header c.in-Some.reading.came.header c.args.self.fed c.in-Some.reading.came.fed.bytes c.finish.result seen.header_is seen.bytes_are seen.small c.finish.ensures.why
