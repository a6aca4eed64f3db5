use Rattle.std.proofs.Common.{sym, subst, ◌++◌, arith}
use Rattle.hessian_text.specs.Spelling.{AreBytes}
use Rattle.hessian_text.specs.declared.step.Fed.TheVariants as told
use Rattle.hessian_text.specs.Reader.{Feeds}
use Rattle.dubbo_bodies.specs.ReplyStages.{Stands}
use Rattle.dubbo_bodies.proofs.ReplyText.{text_more, text_full, text_trailing, text_bad_code, text_bad_item}
use Rattle.dubbo_bodies.proofs.reply_reader.text.feed_text.Goals as goal

pub returns-in-Ok-More : goal.returns-in-Ok-More
returns-in-Ok-More c =
    let small' : AreBytes c.args.piece.now = record { small = λ i h. omega (arith, c.type_inv.piece i) } in
    let feeds : Feeds c.args.reader c.args.piece.now c.feed.new.self told.More = subst (Feeds c.args.reader c.args.piece.now c.feed.new.self) c.in-Ok-More.field-0-is c.in-Ok-More.ensures in
    text_more c.args.came.now.header c.args.came.now.fed.bytes c.args.piece.now c.args.reader c.feed.new.self c.requires.at small' feeds.0

pub returns-then-used-piece : goal.returns-then-used-piece
returns-then-used-piece c =
    let small' : AreBytes c.args.piece.now = record { small = λ i h. omega (arith, c.type_inv.piece i) } in
    let feeds : Feeds c.args.reader c.args.piece.now c.feed.new.self (told.Whole c.in-Ok-Whole.used) = subst (Feeds c.args.reader c.args.piece.now c.feed.new.self) c.in-Ok-Whole.field-0-is c.in-Ok-Whole.ensures in
    subst (Stands c.args.came.now.header (c.args.came.now.fed.bytes ++ c.args.piece.now)) (sym c.refused.ensures)
    (text_trailing c.args.came.now.header c.args.came.now.fed.bytes c.args.piece.now c.args.reader c.feed.new.self c.args.came.now.count c.in-Ok-Whole.used c.requires.at small' c.args.came.now.counted c.if-used-piece.true feeds.1 feeds.2)

pub returns-else-used-piece : goal.returns-else-used-piece
returns-else-used-piece c =
    let small' : AreBytes c.args.piece.now = record { small = λ i h. omega (arith, c.type_inv.piece i) } in
    let feeds : Feeds c.args.reader c.args.piece.now c.feed.new.self (told.Whole c.in-Ok-Whole.used) = subst (Feeds c.args.reader c.args.piece.now c.feed.new.self) c.in-Ok-Whole.field-0-is c.in-Ok-Whole.ensures in
    let low = feeds.0 in
    let high = c.if-used-piece.false in
    text_full c.args.came.now.header c.args.came.now.fed.bytes c.args.piece.now c.args.reader c.feed.new.self c.in-Ok-Whole.used c.requires.at small' (omega (arith, low, high)) feeds.1

pub returns-in-Ok-NoCode : goal.returns-in-Ok-NoCode
returns-in-Ok-NoCode c =
    let small' : AreBytes c.args.piece.now = record { small = λ i h. omega (arith, c.type_inv.piece i) } in
    let feeds : Feeds c.args.reader c.args.piece.now c.feed.new.self (told.NoCode c.in-Ok-NoCode.used) = subst (Feeds c.args.reader c.args.piece.now c.feed.new.self) c.in-Ok-NoCode.field-0-is c.in-Ok-NoCode.ensures in
    subst (Stands c.args.came.now.header (c.args.came.now.fed.bytes ++ c.args.piece.now)) (sym c.refused-in-Ok-NoCode.ensures)
    (text_bad_code c.args.came.now.header c.args.came.now.fed.bytes c.args.piece.now c.args.reader c.feed.new.self c.args.came.now.count c.in-Ok-NoCode.used c.requires.at small' c.args.came.now.counted feeds.0 c.if-begins_null.ensures feeds.1 feeds.2)

pub returns-in-Ok-NoItem : goal.returns-in-Ok-NoItem
returns-in-Ok-NoItem c =
    let small' : AreBytes c.args.piece.now = record { small = λ i h. omega (arith, c.type_inv.piece i) } in
    let feeds : Feeds c.args.reader c.args.piece.now c.feed.new.self (told.NoItem c.in-Ok-NoItem.used c.in-Ok-NoItem.begun_len) = subst (Feeds c.args.reader c.args.piece.now c.feed.new.self) c.in-Ok-NoItem.field-0-is c.in-Ok-NoItem.ensures in
    subst (Stands c.args.came.now.header (c.args.came.now.fed.bytes ++ c.args.piece.now)) (sym c.refused-in-Ok-NoItem.ensures)
    (text_bad_item c.args.came.now.header c.args.came.now.fed.bytes c.args.piece.now c.args.reader c.feed.new.self c.args.came.now.count c.in-Ok-NoItem.used c.in-Ok-NoItem.begun_len c.saturating_sub.result c.requires.at small' c.args.came.now.counted feeds.0 c.saturating_sub.ensures feeds.1 feeds.2)
