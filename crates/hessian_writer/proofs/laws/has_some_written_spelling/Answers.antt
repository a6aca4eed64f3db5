use Rattle.hessian_writer.proofs.SomeCourses.{some_written}
use Rattle.hessian_writer.proofs.laws.has_some_written_spelling.Goals as goal

pub returns : goal.returns
returns c = λ g closed carried writable. some_written g closed carried writable
