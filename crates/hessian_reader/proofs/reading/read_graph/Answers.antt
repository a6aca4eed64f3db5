use Rattle.std.proofs.Common.{◌≡◌, [], length, sym, subst, arith}
use Rattle.hessian_reader.specs.declared.fault.HessianFault.TheVariants as faults
use Rattle.hessian_reader.specs.declared.reader.Fed.TheVariants as done
use Rattle.hessian_reader.specs.Reading.{Tells}
use Rattle.hessian_reader.specs.Refusing.{IsRefusedBy}
use Rattle.hessian_reader.proofs.Whole.{ends_once, ends_whole, refuses, never_completes, whole_ok, none_ok, completes}
use Rattle.hessian_reader.proofs.Behind.{trailing_refused}
use Rattle.hessian_reader.proofs.Cut.{stopped_refused}
use Rattle.hessian_reader.proofs.reading.read_graph.Goals as goal

pub returns-in-Err-clause-complete : goal.returns-in-Err-clause-complete
returns-in-Err-clause-complete c = never_completes c.args.roots c.args.bytes.now c.in-Err.fault (c.in-Err.ensures.refused c.args.roots [] c.new-reader.ensures.begins)

pub returns-in-Err-clause-refused : goal.returns-in-Err-clause-refused
returns-in-Err-clause-refused c = λ some g d e. some (never_completes c.args.roots c.args.bytes.now c.in-Err.fault (c.in-Err.ensures.refused c.args.roots [] c.new-reader.ensures.begins) g d e)

pub returns-in-Ok-More-clause-ok : goal.returns-in-Ok-More-clause-ok
returns-in-Ok-More-clause-ok c =
    let q = c.in-Ok-More.ensures.tells c.args.roots [] c.new-reader.ensures.begins in
    none_ok c.args.roots c.args.bytes.now c.finish.result (subst (Tells c.args.roots [] c.args.bytes.now) c.in-Ok-More.field-0-is q.0) (c.finish.ensures.ok c.args.roots c.args.bytes.now q.1)

pub returns-in-Ok-More-clause-complete : goal.returns-in-Ok-More-clause-complete
returns-in-Ok-More-clause-complete c =
    let q = c.in-Ok-More.ensures.tells c.args.roots [] c.new-reader.ensures.begins in
    completes c.args.roots c.args.bytes.now c.finish.result q.1.bytes (c.finish.ensures.ok c.args.roots c.args.bytes.now q.1) (c.finish.ensures.short c.args.roots c.args.bytes.now c.in-Ok-More.ensures.serves q.1)

pub returns-in-Ok-More-clause-refused : goal.returns-in-Ok-More-clause-refused
returns-in-Ok-More-clause-refused c =
    let q = c.in-Ok-More.ensures.tells c.args.roots [] c.new-reader.ensures.begins in
    refuses c.args.roots c.args.bytes.now c.finish.result (completes c.args.roots c.args.bytes.now c.finish.result q.1.bytes (c.finish.ensures.ok c.args.roots c.args.bytes.now q.1) (c.finish.ensures.short c.args.roots c.args.bytes.now c.in-Ok-More.ensures.serves q.1))

pub returns-then-used-bytes-clause-complete : goal.returns-then-used-bytes-clause-complete
returns-then-used-bytes-clause-complete c = λ g d e.
    let q = c.in-Ok-Done.ensures.tells c.args.roots [] c.new-reader.ensures.begins in
    let told : Tells c.args.roots [] c.args.bytes.now (done.Done c.in-Ok-Done.used) = subst (Tells c.args.roots [] c.args.bytes.now) c.in-Ok-Done.field-0-is q.0 in
    let (n, ends, used, low) = told in
    let at = ends_once c.args.roots c.args.bytes.now n (length c.args.bytes.now) q.1.bytes ends (ends_whole c.args.roots c.args.bytes.now g d e) in
    let less = c.if-used-bytes.true in
    absurd (omega (arith, at, used, less))

pub returns-then-used-bytes-clause-refused : goal.returns-then-used-bytes-clause-refused
returns-then-used-bytes-clause-refused c = λ some g d e.
    let q = c.in-Ok-Done.ensures.tells c.args.roots [] c.new-reader.ensures.begins in
    let told : Tells c.args.roots [] c.args.bytes.now (done.Done c.in-Ok-Done.used) = subst (Tells c.args.roots [] c.args.bytes.now) c.in-Ok-Done.field-0-is q.0 in
    let (n, ends, used, low) = told in
    let at = ends_once c.args.roots c.args.bytes.now n (length c.args.bytes.now) q.1.bytes ends (ends_whole c.args.roots c.args.bytes.now g d e) in
    let less = c.if-used-bytes.true in
    omega (arith, at, used, less)

pub returns-else-used-bytes-clause-ok : goal.returns-else-used-bytes-clause-ok
returns-else-used-bytes-clause-ok c =
    let q = c.in-Ok-Done.ensures.tells c.args.roots [] c.new-reader.ensures.begins in
    let told : Tells c.args.roots [] c.args.bytes.now (done.Done c.in-Ok-Done.used) = subst (Tells c.args.roots [] c.args.bytes.now) c.in-Ok-Done.field-0-is q.0 in
    let (n, ends, used, low) = told in
    let more = c.if-used-bytes.false in
    let within = ends.within in
    whole_ok c.args.roots c.args.bytes.now c.finish-in-Ok-Done.result n q.1.bytes ends (omega (arith, used, more, within)) (c.finish-in-Ok-Done.ensures.ok c.args.roots c.args.bytes.now q.1)

pub returns-else-used-bytes-clause-complete : goal.returns-else-used-bytes-clause-complete
returns-else-used-bytes-clause-complete c =
    let q = c.in-Ok-Done.ensures.tells c.args.roots [] c.new-reader.ensures.begins in
    completes c.args.roots c.args.bytes.now c.finish-in-Ok-Done.result q.1.bytes (c.finish-in-Ok-Done.ensures.ok c.args.roots c.args.bytes.now q.1) (c.finish-in-Ok-Done.ensures.short c.args.roots c.args.bytes.now c.in-Ok-Done.ensures.serves q.1)

pub returns-else-used-bytes-clause-refused : goal.returns-else-used-bytes-clause-refused
returns-else-used-bytes-clause-refused c =
    let q = c.in-Ok-Done.ensures.tells c.args.roots [] c.new-reader.ensures.begins in
    refuses c.args.roots c.args.bytes.now c.finish-in-Ok-Done.result (completes c.args.roots c.args.bytes.now c.finish-in-Ok-Done.result q.1.bytes (c.finish-in-Ok-Done.ensures.ok c.args.roots c.args.bytes.now q.1) (c.finish-in-Ok-Done.ensures.short c.args.roots c.args.bytes.now c.in-Ok-Done.ensures.serves q.1))

pub returns-in-Err-clause-why : goal.returns-in-Err-clause-why
returns-in-Err-clause-why c = λ some. stopped_refused c.args.roots c.args.bytes.now c.in-Err.fault (c.in-Err.ensures.why c.args.roots [] c.new-reader.ensures.begins some)

pub returns-in-Ok-More-clause-why : goal.returns-in-Ok-More-clause-why
returns-in-Ok-More-clause-why c =
    let q = c.in-Ok-More.ensures.tells c.args.roots [] c.new-reader.ensures.begins in
    c.finish.ensures.why c.args.roots c.args.bytes.now q.1

pub returns-then-used-bytes-clause-why : goal.returns-then-used-bytes-clause-why
returns-then-used-bytes-clause-why c = λ some.
    let q = c.in-Ok-Done.ensures.tells c.args.roots [] c.new-reader.ensures.begins in
    let told : Tells c.args.roots [] c.args.bytes.now (done.Done c.in-Ok-Done.used) = subst (Tells c.args.roots [] c.args.bytes.now) c.in-Ok-Done.field-0-is q.0 in
    let (n, ends, used, low) = told in
    let less = c.if-used-bytes.true in
    let same : c.in-Ok-Done.used ≡ n = omega (arith, used) in
    subst (λ k. IsRefusedBy c.args.roots c.args.bytes.now (faults.Trailing k)) (sym same) (stopped_refused c.args.roots c.args.bytes.now (faults.Trailing n) (trailing_refused c.args.roots n c.args.bytes.now ends (omega (arith, less, same))))

pub returns-else-used-bytes-clause-why : goal.returns-else-used-bytes-clause-why
returns-else-used-bytes-clause-why c =
    let q = c.in-Ok-Done.ensures.tells c.args.roots [] c.new-reader.ensures.begins in
    c.finish-in-Ok-Done.ensures.why c.args.roots c.args.bytes.now q.1
