use Rattle.std.proofs.Common.{arith, ◌≡◌, ℕ, get_or, inl, inr, subst}
use Rattle.std.proofs.lemmas.Bool.{cases_lt}
use Rattle.hessian_graph.specs.Shape.{no_vertex}
use Rattle.hessian_graph.specs.Moving.{NodeKnown, NamesNext}
use Rattle.hessian_graph.proofs.Uses.{rise_more, rise_whole}
use Rattle.hessian_graph.proofs.Rebuilding.{node_stays}
use Rattle.hessian_graph.proofs.rebuild.learn_names.Goals as goal

pub loop-number-preserved : goal.loop-number-preserved
loop-number-preserved c = record {
  fit = c.in_ok-learn.ensures.fit;
  types = let a = c.in_ok-learn.ensures.types_room in let b = c.loop-number.invariant.types in omega (arith, a, b);
  classes = let a = c.in_ok-learn.ensures.classes_room in let b = c.loop-number.invariant.classes in omega (arith, a, b);
  rise = rise_more c.args.parts.now c.loop-number.names c.learn.new.self c.args.order.now c.loop-number.number-index c.loop-number-test.true c.loop-number.invariant.rise (subst (NamesNext c.loop-number.names c.learn.new.self) c.node_at-node.ensures c.in_ok-learn.ensures.next) c.in_ok-learn.ensures.types c.in_ok-learn.ensures.classes c.loop-number.invariant.known;
  known = λ i h. elim (cases_lt i c.loop-number.number-index) [
    | inl before ↦ node_stays c.loop-number.names.types.known.items c.loop-number.names.classes.known.items c.learn.new.self.types.known.items c.learn.new.self.classes.known.items (get_or c.args.parts.now.nodes (get_or c.args.order.now i 0) no_vertex) c.in_ok-learn.ensures.types c.in_ok-learn.ensures.classes (c.loop-number.invariant.known i before)
    | inr past ↦
        let same : c.loop-number.number-index ≡ i = omega (arith, h, past) in
        subst (λ (j : ℕ). NodeKnown c.learn.new.self.types.known.items c.learn.new.self.classes.known.items (get_or c.args.parts.now.nodes (get_or c.args.order.now j 0) no_vertex)) same
        (subst (NodeKnown c.learn.new.self.types.known.items c.learn.new.self.classes.known.items) c.node_at-node.ensures c.in_ok-learn.ensures.known)
  ];
}

pub returns-clause-rise : goal.returns-clause-rise
returns-clause-rise c = rise_whole c.args.parts.now c.loop-number.names c.args.order.now c.loop-number.number-index c.loop-number-test.false c.loop-number.invariant.rise
