use Rattle.std.proofs.Common.{◌≢◌}
use Rattle.service_table.specs.declared.fault.AddFault.TheVariants.{OutOfMemory}
use Rattle.call_plan.proofs.Scripting.{service_fault}
use Rattle.call_plan.proofs.scripts.line_reading.take_service.Goals as goal

pub returns-in-Err : goal.returns-in-Err
returns-in-Err c =
    let says = rw c.in-Some.is at (c.in_ok-row.ensures {u = tt}) in
    record {
      taken = tt;
      refused = service_fault c.args.services.now c.args.number c.args.line.now c.in-Some.row (c.in-Err.fault ≢ OutOfMemory) c.fault_of.result says (c.in-Err.ensures {u = tt}).not c.fault_of.ensures;
    }
