use Rattle.std.proofs.Common.{sym, subst, ◌++◌, ◌∙◌}
use Rattle.dubbo_bodies.specs.ReplyStages.{Stands}
use Rattle.dubbo_bodies.proofs.ReplyText.{null_and_more}
use Rattle.dubbo_bodies.proofs.reply_reader.text.behind_null.Goals as goal

pub returns-then-piece-gt1 : goal.returns-then-piece-gt1
returns-then-piece-gt1 c = subst (Stands c.args.came.now.header (c.args.came.now.fed.bytes ++ c.args.piece.now)) (sym c.refused.ensures) (null_and_more c.args.came.now.header c.args.came.now.fed.bytes c.args.piece.now c.requires.status (sym c.args.came.now.counted ∙ c.requires.first) c.requires.null c.if-piece-gt1.true)
