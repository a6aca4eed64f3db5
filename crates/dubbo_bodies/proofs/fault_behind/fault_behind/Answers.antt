use Rattle.std.proofs.Common.{arith}
use Rattle.dubbo_bodies.proofs.FaultPlaces.{told_behind, memory_behind}
use Rattle.dubbo_bodies.proofs.fault_behind.fault_behind.Goals as goal

pub returns-clause-memory : goal.returns-clause-memory
returns-clause-memory c = memory_behind 18446744073709551615 c.args.from c.args.fault c.later.result (omega (arith, c.ranges.from)) c.later.ensures

pub returns-clause-tells : goal.returns-clause-tells
returns-clause-tells c = told_behind 18446744073709551615 c.args.from c.args.fault c.later.result c.later.ensures
