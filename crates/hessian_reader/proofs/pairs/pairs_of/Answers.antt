use Rattle.std.proofs.Common.{sym, ◌≡◌, ap, ◌∙◌, ◌++◌, length}
use Rattle.std.specs.Vec.Iter.{into_iter_items}
use Rattle.hessian_graph.specs.Shape.{alternately}
use Rattle.hessian_reader.proofs.Finishing.{pair_more, no_key_alone}
use Rattle.hessian_reader.proofs.pairs.pairs_of.Goals as goal

pub returns-in_default-next : goal.returns-in_default-next
returns-in_default-next c = λ pairs.
    let none : length (into_iter_items c.next.new.self) ≡ 0 = sym c.next.new.self.rest.ok.0 ∙ c.in_default-next.ensures.cases.0 in
    absurd (no_key_alone c.loop-key.pairs.items c.in-Some.key (into_iter_items c.loop-key.rest) (into_iter_items c.next.new.self) c.args.values.items c.loop-key.invariant c.in-Some.ensures.items none pairs)

pub loop-key-preserved : goal.loop-key-preserved
loop-key-preserved c =
    ap (λ ps. alternately ps ++ into_iter_items c.next-in-Some.new.self) c.in_ok-push.ensures.items
    ∙ pair_more c.loop-key.pairs.items c.in-Some.key c.in-Some-next.value (into_iter_items c.loop-key.rest) (into_iter_items c.next.new.self) (into_iter_items c.next-in-Some.new.self) c.args.values.items c.loop-key.invariant c.in-Some.ensures.items c.in-Some-next.ensures.items
