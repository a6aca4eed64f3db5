use Rattle.std.proofs.Common.{ap, sym, subst}
use Rattle.hessian_reader.specs.declared.fault.HessianFault.TheVariants.{Short}
use Rattle.hessian_reader.specs.Views.{state_of}
use Rattle.hessian_reader.proofs.Feeding.{done_is, not_done_is, not_ended}
use Rattle.hessian_reader.specs.Refusing.{IsRefusedBy}
use Rattle.hessian_reader.proofs.Whole.{finished}
use Rattle.hessian_reader.proofs.Cut.{short_refused, stopped_refused, memory_only}
use Rattle.hessian_reader.proofs.Known.{known_sound, known_few}
use Rattle.hessian_reader.proofs.course.Course.finish.Goals as goal

pub graph_of-requires-clause-sound : goal.graph_of-requires-clause-sound
graph_of-requires-clause-sound c =
    let r = c.args.self in
    known_sound r c.in_default.is c.requires.known (done_is c.is_done.result (state_of r.work) c.is_done.ensures c.if-is_done.true)

pub graph_of-requires-clause-few : goal.graph_of-requires-clause-few
graph_of-requires-clause-few c = known_few c.args.self c.in_default.is c.requires.known

pub returns-then-is_done-clause-ok : goal.returns-then-is_done-clause-ok
returns-then-is_done-clause-ok c = λ roots fed read.
    let r = c.args.self in
    let e = done_is c.is_done.result (state_of r.work) c.is_done.ensures c.if-is_done.true in
    finished r roots fed c.graph_of.result (read.follows c.in_default.is) e c.graph_of.ensures.roots c.graph_of.ensures.shape

pub returns-else-is_done-clause-short : goal.returns-else-is_done-clause-short
returns-else-is_done-clause-short c = λ roots fed none read some.
    let r = c.args.self in
    let d = not_done_is c.is_done.result (state_of r.work) c.is_done.ensures c.if-is_done.false in
    (ap Short read.counted, not_ended r roots fed (read.follows none) read.bytes d)

pub returns-in-Some-clause-why : goal.returns-in-Some-clause-why
returns-in-Some-clause-why c = λ roots fed read some.
    stopped_refused roots fed c.in-Some.fault (read.stopped c.in-Some.fault c.in-Some.is some)

pub returns-then-is_done-clause-why : goal.returns-then-is_done-clause-why
returns-then-is_done-clause-why c = λ roots fed read. memory_only c.graph_of.result (IsRefusedBy roots fed) c.graph_of.ensures.memory

pub returns-else-is_done-clause-why : goal.returns-else-is_done-clause-why
returns-else-is_done-clause-why c = λ roots fed read some.
    let r = c.args.self in
    let d = not_done_is c.is_done.result (state_of r.work) c.is_done.ensures c.if-is_done.false in
    subst (λ n. IsRefusedBy roots fed (Short n)) (sym read.counted) (short_refused r roots fed (read.follows c.in_default.is) read.bytes d)
