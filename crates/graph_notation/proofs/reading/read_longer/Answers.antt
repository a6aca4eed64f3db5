use Rattle.std.proofs.Common.{take, drop, ◌-◌}
use Rattle.std.proofs.lemmas.Result.{err_from_is_err_and}
use Rattle.graph_notation.specs.Limit.{node_limit}
use Rattle.graph_notation.specs.View.{state_of}
use Rattle.graph_notation.proofs.Advance.{slice_at, token_read, token_refused, token_unread, no_room}
use Rattle.graph_notation.proofs.reading.read_longer.Goals as goal

pub returns-in-Ok-clause-read : goal.returns-in-Ok-clause-read
returns-in-Ok-clause-read c =
    let x = slice_at c.args.text.now c.args.at c.token_end-end.result c.requires.within c.token_end-end.ensures.end in
    let r = rw c.in-Some.is at (c.in_ok-element.ensures {u = tt}) in
    let h = rw c.requires.limit at ((c.in-Ok.ensures {u = tt}).state) in
    token_read node_limit c.args.text.now (take (c.token_end-end.result - c.args.at) (drop c.args.at c.args.text.now)) c.args.at c.token_end-end.result (state_of c.args.reader.now) (state_of c.take.new.self) c.in-Some.element x c.token_end-end.ensures.within r h

pub returns-in-Err-clause-read : goal.returns-in-Err-clause-read
returns-in-Err-clause-read c =
    let x = slice_at c.args.text.now c.args.at c.token_end-end.result c.requires.within c.token_end-end.ensures.end in
    let r = rw c.in-Some.is at (c.in_ok-element.ensures {u = tt}) in
    let h = rw c.requires.limit at ((c.in-Err.ensures {u = tt}).state) in
    rw c.fault.ensures (token_refused node_limit c.args.text.now (take (c.token_end-end.result - c.args.at) (drop c.args.at c.args.text.now)) c.args.at c.token_end-end.result (state_of c.args.reader.now) (state_of c.take.new.self) c.in-Some.element c.in-Err.stop x r h)

pub returns-in-None-clause-read : goal.returns-in-None-clause-read
returns-in-None-clause-read c =
    let x = slice_at c.args.text.now c.args.at c.token_end-end.result c.requires.within c.token_end-end.ensures.end in
    let r = rw c.in-None.is at (c.in_ok-element.ensures {u = tt}) in
    token_unread node_limit c.args.text.now (take (c.token_end-end.result - c.args.at) (drop c.args.at c.args.text.now)) c.args.at c.token_end-end.result (state_of c.args.reader.now) (state_of c.args.reader.now) x r

pub returns-in_err-element-clause-read : goal.returns-in_err-element-clause-read
returns-in_err-element-clause-read c =
    let p = err_from_is_err_and c.from_residual.result c.from_residual.ensures.1 in
    rw (p.1, p.2) (no_room node_limit c.args.text.now c.args.at c.token_end-end.result (state_of c.args.reader.now) (state_of c.args.reader.now))
