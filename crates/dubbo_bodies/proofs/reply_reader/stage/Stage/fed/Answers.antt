use Rattle.std.proofs.Common.{length, sym, subst, ◌++◌}
use Rattle.dubbo_bodies.specs.ReplyStages.{Stands, AtNull, StaysRefused}
use Rattle.dubbo_bodies.proofs.ReplyAnswers.{stands_still, stays_later, is_none, is_some}
use Rattle.dubbo_bodies.proofs.ReplyText.{behind_null_more}
use Rattle.dubbo_bodies.proofs.reply_reader.stage.Stage.fed.Goals as goal

pub returns-then-is_empty : goal.returns-then-is_empty
returns-then-is_empty c = stands_still c.args.came.now.header c.args.came.now.fed.bytes c.args.piece.now c.args.self (is_none (length c.args.piece.now) (sym c.if-is_empty.ensures)) c.requires.stands

pub returns-in-NoText : goal.returns-in-NoText
returns-in-NoText c =
    let at : AtNull c.args.came.now.header c.args.came.now.fed.bytes = subst (Stands c.args.came.now.header c.args.came.now.fed.bytes) c.in-NoText.is c.requires.stands in
    subst (Stands c.args.came.now.header (c.args.came.now.fed.bytes ++ c.args.piece.now)) (sym c.refused.ensures) (behind_null_more c.args.came.now.header c.args.came.now.fed.bytes c.args.piece.now at (is_some (length c.args.piece.now) (sym c.if-is_empty.ensures)))

pub returns-in-Refused : goal.returns-in-Refused
returns-in-Refused c =
    let stays : StaysRefused c.args.came.now.header c.args.came.now.fed.bytes c.in-Refused.fault = subst (Stands c.args.came.now.header c.args.came.now.fed.bytes) c.in-Refused.is c.requires.stands in
    stays_later c.args.came.now.header c.args.came.now.fed.bytes c.args.piece.now c.in-Refused.fault stays
