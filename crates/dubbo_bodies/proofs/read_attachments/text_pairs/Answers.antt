use Rattle.std.proofs.Common.{sym, subst, refl, add-one}
use Rattle.dubbo_bodies.specs.AttachmentsRead.{FindsPairs}
use Rattle.hessian_graph.specs.Shape.{alternately}
use Rattle.std.specs.Prelude.{Some}
use Rattle.dubbo_bodies.proofs.ReadPairs.{Found, found_none, found_on, found_no_key, found_all}
use Rattle.dubbo_bodies.proofs.read_attachments.text_pairs.Goals as goal

pub loop-pair-init : goal.loop-pair-init
loop-pair-init c = subst (Found c.args.pairs.now 0) (sym c.new-found.ensures.items) (found_none c.args.pairs.now)

pub loop-pair-preserved : goal.loop-pair-preserved
loop-pair-preserved c =
    subst (λ n. Found c.args.pairs.now n c.keep_text.new.found.items) (sym (add-one c.loop-pair.pair-index))
    (found_on c.args.pairs.now c.loop-pair.pair-index c.pair-item.result c.loop-pair.found.items c.in-Text.name c.pair-item.result.value c.keep_text.new.found.items c.loop-pair-test.true c.pair-item.is c.in-Text.is refl c.in_ok-keep_text.ensures c.loop-pair.invariant)

pub returns-in_default : goal.returns-in_default
returns-in_default c =
    found_no_key c.args.pairs.now c.loop-pair.pair-index c.pair-item.result c.loop-pair.found.items c.loop-pair-test.true c.pair-item.is c.in_default.not-Text c.loop-pair.invariant

pub returns : goal.returns
returns c = subst (λ xs. FindsPairs (alternately c.args.pairs.now) (Some xs)) (sym c.from.ensures)
    (found_all c.args.pairs.now c.loop-pair.pair-index c.loop-pair.found.items c.loop-pair-test.false c.loop-pair.invariant)
