use Rattle.std.proofs.Common.{[], ◌∙◌, arith, subst, sym}
use Rattle.std.proofs.lemmas.List.{get_or_default}
use Rattle.graph_notation.specs.Pressing.{Prints}
use Rattle.graph_notation.specs.PrintedLeaves.PrintsLeaves.{none}
use Rattle.graph_notation.proofs.PrintedLeaves.{item_more}
use Rattle.graph_notation.proofs.leaves.write_fields.Goals as goal

pub loop-at-init : goal.loop-at-init
loop-at-init c = record { further = omega arith; written = λ es fit. none }

pub loop-at-preserved : goal.loop-at-preserved
loop-at-preserved c =
    let low = c.loop-at.invariant.further in
    let there = c.loop-at-test.true in
    let enough = c.requires in
    let at = c.loop-at.at in
    record {
      further = omega (arith, low);
      written = λ es fit.
          let text = c.index-texts-at.is ∙ get_or_default c.args.texts.now at c.index-texts-at.result [] (omega (arith, there, enough)) in
          item_more es c.args.values.now c.args.begun c.args.start at c.args.out.now.items c.loop-at.out.items c.write_prepared.new.out.items c.write_leaf.new.out.items c.index-values-at.result c.index-values-at-in-loop-at.result
          (c.loop-at.invariant.written es fit) there c.index-values-at.is c.index-values-at-in-loop-at.is (c.is_leaf.ensures c.if-is_leaf.true)
          (c.in_ok-write_prepared.ensures (es at) (subst (Prints [] (es at)) (sym text) (fit at there))) c.in_ok-write_leaf.ensures;
    }
