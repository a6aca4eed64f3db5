use Rattle.graph_notation.specs.Limit.{node_limit}
use Rattle.graph_notation.specs.View.{state_of}
use Rattle.graph_notation.proofs.Advance.{mark_read, mark_refused}
use Rattle.graph_notation.proofs.reading.read_mark.Goals as goal

pub returns-in-Ok-clause-read : goal.returns-in-Ok-clause-read
returns-in-Ok-clause-read c =
    let h = rw c.requires.limit at ((c.in-Ok.ensures {u = tt}).state) in
    mark_read node_limit c.args.text.now c.args.at c.args.mark (state_of c.args.reader.now) (state_of c.take_mark.new.self) c.requires.within c.requires.here h

pub returns-in-Err-clause-read : goal.returns-in-Err-clause-read
returns-in-Err-clause-read c =
    let h = rw c.requires.limit at ((c.in-Err.ensures {u = tt}).state) in
    rw c.fault.ensures (mark_refused node_limit c.args.text.now c.args.at c.args.mark (state_of c.args.reader.now) (state_of c.take_mark.new.self) c.in-Err.stop c.requires.within c.requires.here h)
