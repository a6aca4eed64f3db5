use Rattle.std.proofs.Common.{◌++◌, refl, sym, subst, arith}
use Rattle.std.proofs.lemmas.List.{length-append}
use Rattle.hessian_reader.specs.Reading.{Tells}
use Rattle.hessian_reader.specs.declared.reader.Fed.TheVariants as done
use Rattle.dubbo_bodies.specs.ReplyKinds.{number_of}
use Rattle.dubbo_bodies.specs.ReplyStages.{Stands}
use Rattle.dubbo_bodies.proofs.ReplyValues.{values_trailing, values_later, stopped_as, ends_more, ends_full, kind_behind}
use Rattle.dubbo_bodies.proofs.reply_reader.values.Values.fed.Goals as goal

pub returns-then-used-piece : goal.returns-then-used-piece
returns-then-used-piece c =
    let q = c.in-Ok-Done.ensures.tells c.requires.at.roots c.requires.at.rest c.requires.at.read in
    let told : Tells c.requires.at.roots c.requires.at.rest c.args.piece.now (done.Done c.in-Ok-Done.used) = subst (Tells c.requires.at.roots c.requires.at.rest c.args.piece.now) c.in-Ok-Done.field-0-is q.0 in
    subst (Stands c.args.came.now.header (c.args.came.now.fed.bytes ++ c.args.piece.now)) (sym c.refused.ensures)
    (values_trailing c.args.came.now.header c.args.came.now.fed.bytes c.args.piece.now c.args.self c.args.came.now.count c.in-Ok-Done.used c.requires.at told c.args.came.now.counted c.if-used-piece.true)

pub returns-in-Ok-More : goal.returns-in-Ok-More
returns-in-Ok-More c =
    let a = c.requires.at in
    let q = c.in-Ok-More.ensures.tells a.roots a.rest a.read in
    let told : Tells a.roots a.rest c.args.piece.now done.More = subst (Tells a.roots a.rest c.args.piece.now) c.in-Ok-More.field-0-is q.0 in
    values_later c.args.came.now.header c.args.came.now.fed.bytes c.args.piece.now c.args.self (record { kind = c.args.self.kind; from = c.args.self.from; reader = c.feed.new.self }) a refl refl q.1 c.in-Ok-More.ensures.serves
    (ends_more c.args.came.now.header c.args.came.now.fed.bytes c.args.piece.now c.args.self a told)

pub returns-else-used-piece : goal.returns-else-used-piece
returns-else-used-piece c =
    let a = c.requires.at in
    let q = c.in-Ok-Done.ensures.tells a.roots a.rest a.read in
    let told : Tells a.roots a.rest c.args.piece.now (done.Done c.in-Ok-Done.used) = subst (Tells a.roots a.rest c.args.piece.now) c.in-Ok-Done.field-0-is q.0 in
    values_later c.args.came.now.header c.args.came.now.fed.bytes c.args.piece.now c.args.self (record { kind = c.args.self.kind; from = c.args.self.from; reader = c.feed.new.self }) a refl refl q.1 c.in-Ok-Done.ensures.serves
    (ends_full c.args.came.now.header c.args.came.now.fed.bytes c.args.piece.now c.args.self a c.in-Ok-Done.used q.1.bytes c.if-used-piece.false told)

pub returns-in-Err : goal.returns-in-Err
returns-in-Err c =
    let a = c.requires.at in
    let long = length-append c.args.came.now.fed.bytes c.args.piece.now in
    let counted = c.args.came.now.counted in
    let room = c.requires.room in
    stopped_as c.args.came.now.header (c.args.came.now.fed.bytes ++ c.args.piece.now) (number_of c.args.self.kind) c.args.self.from a.roots _ (a.rest ++ c.args.piece.now) c.in-Err.fault c.fault_behind.result c.from.result
    (kind_behind c.args.came.now.header c.args.came.now.fed.bytes c.args.piece.now (number_of c.args.self.kind) c.args.self.from a.rest a.begins) a.has_roots (omega (arith, long, counted, room)) c.fault_behind.ensures.tells c.fault_behind.ensures.memory c.from.ensures (c.in-Err.ensures.why a.roots a.rest a.read)
