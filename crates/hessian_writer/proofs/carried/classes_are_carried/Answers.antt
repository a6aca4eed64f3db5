use Rattle.std.proofs.Common.{arith, subst, List, ℕ, IsUtf8}
use Rattle.std.specs.Prelude.{All}
use Rattle.hessian_graph.specs.Shape.{no_class}
use Rattle.hessian_writer.specs.Carried.{IsCarriedClass}
use Rattle.hessian_writer.proofs.Carrying.{one_more}
use Rattle.hessian_writer.proofs.carried.classes_are_carried.Goals as goal

pub loop-class-preserved : goal.loop-class-preserved
loop-class-preserved c = one_more IsCarriedClass c.args.classes.now c.loop-class.class-index c.class-item.result c.loop-class.invariant c.class-item.is c.loop-class-test.true
    (c.text_is_carried.ensures, subst (λ (ts : List (List ℕ)). All (λ t. IsUtf8 t) ts) c.as_slice.ensures c.texts_are_carried.ensures)

pub returns : goal.returns
returns c = λ n h. c.loop-class.invariant n no_class (let t = c.loop-class-test.false in omega (arith, h, t))
