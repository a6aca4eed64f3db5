use Rattle.std.proofs.Common.{ℕ, ◌++◌, ◌-◌, length, List, take, drop, sym, subst, w32}
use Rattle.std.specs.Prelude.{ℤ}
use Rattle.std.proofs.lemmas.Int.{to_z-of_z}
use Rattle.dubbo_header.specs.declared.header.Header.{Header}
use Rattle.dubbo_bodies.specs.declared.reply_fault.ReplyFault.TheVariants.{BadKind}
use Rattle.dubbo_bodies.specs.ReplyKinds.{IsNoKind}
use Rattle.dubbo_bodies.specs.ReplyStages.{Stands, StaysRefused}
use Rattle.dubbo_bodies.proofs.ReplyKind.{kind_bad, cut_joined}
use Rattle.dubbo_bodies.proofs.reply_reader.kind.behind_kind.Goals as goal

pub returns-in_default : goal.returns-in_default
returns-in_default c =
    let e = to_z-of_z w32 c.args.number c.ranges.number in
    subst (λ (z : ℤ). StaysRefused c.args.came.now.header (c.args.came.now.fed.bytes ++ c.args.piece.now) (BadKind z)) (sym e)
    (kind_bad c.args.came.now.header c.args.came.now.fed.bytes c.args.piece.now c.args.number c.args.used c.requires.outcome c.requires.whole (subst IsNoKind e c.in_default.ensures))

pub returns : goal.returns
returns c =
    subst (λ (bytes : List ℕ). Stands c.args.came.now.header bytes c.fed.result) (cut_joined c.args.came.now.fed.bytes c.with-front.result.fed.bytes c.args.piece.now c.args.used c.with-front.ensures.fed)
    (subst (λ (header : Header). Stands header (c.with-front.result.fed.bytes ++ take (length c.args.piece.now - c.args.used) (drop c.args.used c.args.piece.now)) c.fed.result) c.with-front.ensures.header c.fed.ensures)
