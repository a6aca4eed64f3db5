use Rattle.std.proofs.Common.{◌≡◌, ℕ, ◌+◌, ◌≤◌, ◌++◌, length, refl, sym, subst, ◌∙◌, arith, length-append}
use Rattle.hessian_reader.specs.declared.reader.Fed.TheVariants as done
use Rattle.hessian_reader.specs.Reading.{Tells}
use Rattle.dubbo_bodies.specs.declared.request_reader.values.ValuePart.{ValuePart}
use Rattle.dubbo_bodies.proofs.FaultPlaces.{named_behind, memory_named}
use Rattle.dubbo_bodies.proofs.ValueArms.{values_stop, values_trail, values_go_on}
use Rattle.dubbo_bodies.proofs.request_reader.values.ValuePart.step.Goals as goal

done_is : {a b : ℕ} → done.Done a ≡ done.Done b → a ≡ b
done_is e = cc

more_is : {a : ℕ} → done.Done a ≡ done.More → ⊥
more_is e = cc

pub returns-in-Err-clause-stands : goal.returns-in-Err-clause-stands
returns-in-Err-clause-stands c = λ header fed here i.
    let piece = c.args.piece.now in
    let long = length-append fed piece in
    let room : length (fed ++ piece) ≤ 18446744073709551615 = omega (arith, long, here, c.requires.room) in
    values_stop 18446744073709551615 c.args.self header fed piece c.in-Err.fault c.from.result room
    (λ roots came read some. c.in-Err.ensures.why roots came read some)
    (memory_named c.in-Err.fault c.fault_behind.result c.from.result c.from.ensures c.fault_behind.ensures.memory)
    (named_behind 18446744073709551615 c.args.self.from c.in-Err.fault c.fault_behind.result c.from.result c.from.ensures c.fault_behind.ensures.tells) i

pub returns-then-used-piece-clause-stands : goal.returns-then-used-piece-clause-stands
returns-then-used-piece-clause-stands c = λ header fed here i.
    let piece = c.args.piece.now in
    let used = c.in-Ok-Done.used in
    values_trail c.args.self c.feed.new.self header fed piece used c.args.at (c.args.at + used) here refl c.if-used-piece.true
    (λ roots came read. let q = c.in-Ok-Done.ensures.tells roots came read in (subst (Tells roots came piece) c.in-Ok-Done.field-0-is q.0, q.1)) i

pub returns-else-used-piece-clause-stands : goal.returns-else-used-piece-clause-stands
returns-else-used-piece-clause-stands c = λ header fed here i.
    let p : ValuePart = record { texts = c.args.self.texts; values = c.feed.new.self; from = c.args.self.from } in
    values_go_on c.args.self p c.in-Ok-Done.field-0 header fed c.args.piece.now refl refl
    (λ roots came read. c.in-Ok-Done.ensures.tells roots came read) c.in-Ok-Done.ensures.serves
    (λ used is. let same : used ≡ c.in-Ok-Done.used = done_is (sym is ∙ c.in-Ok-Done.field-0-is) in let all = c.if-used-piece.false in omega (arith, same, all)) i

pub returns-in-Ok-More-clause-stands : goal.returns-in-Ok-More-clause-stands
returns-in-Ok-More-clause-stands c = λ header fed here i.
    let p : ValuePart = record { texts = c.args.self.texts; values = c.feed.new.self; from = c.args.self.from } in
    values_go_on c.args.self p c.in-Ok-More.field-0 header fed c.args.piece.now refl refl
    (λ roots came read. c.in-Ok-More.ensures.tells roots came read) c.in-Ok-More.ensures.serves
    (λ used is. absurd (more_is (sym is ∙ c.in-Ok-More.field-0-is))) i
