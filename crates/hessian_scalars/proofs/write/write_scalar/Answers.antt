use Rattle.hessian_scalars.proofs.ShortestOthers.{null_appended, no_appended, yes_appended}
use Rattle.hessian_scalars.proofs.write.write_scalar.Goals as goal

pub returns-in_ok-extend_from_slice-in-Null-clause-ok :
    goal.returns-in_ok-extend_from_slice-in-Null-clause-ok
returns-in_ok-extend_from_slice-in-Null-clause-ok c = null_appended _ _ c.args.value (cc) c.in_ok-extend_from_slice-in-Null.ensures.items

pub returns-in_ok-extend_from_slice-in-Bool-false-clause-ok :
    goal.returns-in_ok-extend_from_slice-in-Bool-false-clause-ok
returns-in_ok-extend_from_slice-in-Bool-false-clause-ok c = no_appended _ _ c.args.value (cc) c.in_ok-extend_from_slice-in-Bool-false.ensures.items

pub returns-in_ok-extend_from_slice-in-Bool-true-clause-ok :
    goal.returns-in_ok-extend_from_slice-in-Bool-true-clause-ok
returns-in_ok-extend_from_slice-in-Bool-true-clause-ok c = yes_appended _ _ c.args.value (cc) c.in_ok-extend_from_slice-in-Bool-true.ensures.items
