use Rattle.hessian_writer.proofs.ClassKeys.{KeysSoFar}
use Rattle.hessian_writer.proofs.names.first_classes.Given as goal

abbrev pub invariant-loop-class : goal.invariant-loop-class
invariant-loop-class l = KeysSoFar l.classes l.class-index l.keys
