use Rattle.hessian_reader.specs.Steps.{take_element}
use Rattle.hessian_reader.specs.Views.{state_of}
use Rattle.hessian_reader.proofs.Taking.{objected, objected_as}
use Rattle.hessian_reader.proofs.course.Course.take.Goals as goal

pub returns-in-Err-clause-took : goal.returns-in-Err-clause-took
returns-in-Err-clause-took c =
    objected c.in-Err.stop c.refused_at.result (state_of c.take.new.self) (take_element (state_of c.args.self.now.work) c.args.element) c.in-Err.ensures c.refused_at.ensures.memory

pub returns-in-Err-clause-why : goal.returns-in-Err-clause-why
returns-in-Err-clause-why c =
    objected_as c.in-Err.stop c.refused_at.result (state_of c.take.new.self) (take_element (state_of c.args.self.now.work) c.args.element) c.args.self.now.from c.in-Err.ensures c.refused_at.ensures.memory c.refused_at.ensures.tells
