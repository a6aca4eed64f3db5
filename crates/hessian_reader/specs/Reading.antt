-- What was fed to a reader of graphs, and what it keeps.
use Rattle.std.specs.Prelude.{ℕ, List, Option}
use Rattle.hessian_reader.specs.declared.fault.HessianFault.{HessianFault}
use Rattle.hessian_reader.specs.declared.reader.GraphReader.{GraphReader}
use Rattle.hessian_reader.specs.Course.{HasRead as CourseHasRead}
pub use Rattle.hessian_reader.specs.Course.{EndsAt, NeverEnds, Tells}

-- how many bytes were fed in all
abbrev pub fed_in_all : GraphReader → ℕ
fed_in_all r = r.course.fed

-- the refusal that a reader keeps
abbrev pub refusal_of : GraphReader → Option HessianFault
refusal_of r = r.course.refused

-- a reader of so many roots was fed these bytes
abbrev pub HasRead : GraphReader → ℕ → List ℕ → Type 0
HasRead r roots fed = CourseHasRead r.course roots fed
