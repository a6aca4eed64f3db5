use Rattle.std.proofs.Common.{◌≡◌, arith, length, ◌∙◌, subst}
use Rattle.hessian_text.specs.Spelling.{AreBytes}
use Rattle.std.proofs.lemmas.List.{get_or_default}
use Rattle.hessian_graph.specs.Shape.{no_class}
use Rattle.hessian_writer.proofs.ClassKeys.{no_class_keys, next_class_key, class_firsts}
use Rattle.hessian_writer.proofs.names.first_classes.Goals as goal

pub loop-class-init : goal.loop-class-init
loop-class-init c = no_class_keys c.args.classes.now c.new-keys.result c.new-keys.ensures

pub loop-class-preserved : goal.loop-class-preserved
loop-class-preserved c =
    next_class_key c.args.classes.now c.loop-class.class-index c.loop-class.keys c.add.new.self c.class-item.result c.in_ok-key.key.items c.loop-class.invariant
    (c.class-item.is ∙ get_or_default c.args.classes.now c.loop-class.class-index c.class-item.result no_class c.loop-class-test.true)
    (record { spells = c.in_ok-key.ensures; small = subst AreBytes c.as_slice.ensures.value c.are_bytes.ensures }) c.in_ok-add.ensures

pub returns : goal.returns
returns c =
    let e : c.loop-class.class-index ≡ length c.args.classes.now = omega arith in
    class_firsts c.args.classes.now c.loop-class.class-index c.loop-class.keys c.loop-class.invariant e
