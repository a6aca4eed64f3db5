use Rattle.std.proofs.Common.{◌++◌, take, sym, subst, w32}
use Rattle.std.specs.Prelude.{ℤ}
use Rattle.std.proofs.lemmas.Int.{to_z-of_z}
use Rattle.hessian_graph.specs.Reading.{IntSpelling}
use Rattle.hessian_scalars.specs.Feeding.{Completes}
use Rattle.hessian_reader.specs.Leaves.{hessian}
use Rattle.dubbo_bodies.proofs.IntFits.{int_fits}
use Rattle.dubbo_bodies.proofs.ReplyKind.{kind_refused, kind_whole, kind_is_int, never_double, never_other}
use Rattle.dubbo_bodies.proofs.reply_reader.kind.feed_kind.Goals as goal

pub returns-then-refuses_first : goal.returns-then-refuses_first
returns-then-refuses_first c = kind_refused c.args.came.now.header c.args.came.now.fed.bytes c.args.reader c.args.piece.now c.refuses_first.result c.refused.result c.requires.at c.requires.some c.if-refuses_first.true c.refuses_first.ensures c.refused.ensures

pub behind_kind-requires-clause-within : goal.behind_kind-requires-clause-within
behind_kind-requires-clause-within c = ((c.feed.ensures.whole c.in-Whole.scalar c.in-Whole.used).0 c.in-Whole.is).0

pub behind_kind-requires-clause-whole : goal.behind_kind-requires-clause-whole
behind_kind-requires-clause-whole c =
    let s = subst (λ v. Completes c.args.reader v (take c.in-Whole.used c.args.piece.now)) c.in-Int.is ((c.feed.ensures.whole c.in-Whole.scalar c.in-Whole.used).0 c.in-Whole.is).1 in
    let w = kind_whole c.args.came.now.header c.args.came.now.fed.bytes c.args.reader c.args.piece.now c.in-Int.number c.in-Whole.used c.requires.at s in
    subst (λ (z : ℤ). IntSpelling hessian z (c.args.came.now.fed.bytes ++ take c.in-Whole.used c.args.piece.now)) (sym (to_z-of_z w32 c.in-Int.number (int_fits c.in-Int.number (c.args.came.now.fed.bytes ++ take c.in-Whole.used c.args.piece.now) w))) w

pub unreachable-requires : goal.unreachable-requires
unreachable-requires c =
    let i = kind_is_int c.args.came.now.header c.args.came.now.fed.bytes c.args.reader c.args.piece.now c.in-Whole.scalar c.in-Whole.used c.requires.at c.requires.some c.if-refuses_first.ensures ((c.feed.ensures.whole c.in-Whole.scalar c.in-Whole.used).0 c.in-Whole.is).1 in
    c.in_default.not-Int i.number i.is

pub unreachable-requires-in-Double : goal.unreachable-requires-in-Double
unreachable-requires-in-Double c = never_double c.args.reader c.args.piece.now c.in-Double.field-0 c.if-refuses_first.ensures ((c.feed.ensures.double c.in-Double.field-0).0 c.in-Double.is)

pub unreachable-requires-in-Other : goal.unreachable-requires-in-Other
unreachable-requires-in-Other c = never_other c.args.reader c.args.piece.now c.in-Other.field-0 c.if-refuses_first.ensures ((c.feed.ensures.other c.in-Other.field-0).0 c.in-Other.is)
