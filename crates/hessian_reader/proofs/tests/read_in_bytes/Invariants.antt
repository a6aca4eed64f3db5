use Rattle.std.proofs.Common.{◌≡◌}
use Rattle.hessian_reader.specs.Reading.{fed_in_all}
use Rattle.hessian_reader.proofs.tests.read_in_bytes.Given as goal

-- so many bytes were fed
abbrev pub invariant-loop-place : goal.invariant-loop-place
invariant-loop-place l = fed_in_all l.reader ≡ l.place
