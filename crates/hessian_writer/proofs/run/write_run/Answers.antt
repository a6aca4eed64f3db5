use Rattle.std.proofs.Common.{arith}
use Rattle.hessian_graph.specs.Shape.{values_of}
use Rattle.hessian_writer.proofs.Runs.{over_leaf, over_node, over_all, over_none}
use Rattle.hessian_writer.specs.Course.{values_then}
use Rattle.std.proofs.Common.{drop}
use Rattle.hessian_writer.proofs.run.write_run.Goals as goal

pub loop-value-init : goal.loop-value-init
loop-value-init c = record { after = omega arith; over = over_none (values_then (drop c.args.from (values_of c.args.node.now))) c.args.out.now.items }

pub loop-value-preserved : goal.loop-value-preserved
loop-value-preserved c = record {
  after = let h = c.loop-value.invariant.after in omega (arith, h);
  over = over_leaf (values_of c.args.node.now) c.args.from c.loop-value.at c.in-Some.value.now c.in_ok-number.field-0 c.args.out.now.items c.loop-value.out.items c.write_plain.new.out.items c.loop-value.invariant.over c.in-Some.ensures.within c.in-Some.ensures.some c.in_ok-number.ensures c.in_default-2.is;
}

pub returns-in-Some-2 : goal.returns-in-Some-2
returns-in-Some-2 c = over_node (values_of c.args.node.now) c.args.from c.loop-value.at c.in-Some-2.number c.in-Some.value.now c.in_ok-number.field-0 c.args.out.now.items c.loop-value.out.items c.write_plain.new.out.items c.loop-value.invariant.after c.loop-value.invariant.over c.in-Some.ensures.within c.in-Some.ensures.some c.in_ok-number.ensures c.in-Some-2.is

pub returns : goal.returns
returns c = over_all (values_of c.args.node.now) c.args.from c.loop-value.at c.args.out.now.items c.loop-value.out.items c.loop-value.invariant.over c.in_default.ensures.none
