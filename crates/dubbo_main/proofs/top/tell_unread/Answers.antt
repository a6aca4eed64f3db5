use Rattle.std.proofs.Common.{◌≡◌, ◌∙◌}
use Rattle.dubbo_main.specs.FaultLines.{input_line}
use Rattle.dubbo_main.proofs.top.tell_unread.Goals as goal

pub returns-in-Fault : goal.returns-in-Fault
returns-in-Fault g c =
    let text : c.as_bytes.result.now ≡ input_line c.in-Fault.faults = c.as_bytes.ensures.value ∙ c.deref.ensures.0 ∙ c.input_failed.ensures in
    rw c.in-Fault.is (rw text at c.finish.ensures)

pub returns-in-TooLong : goal.returns-in-TooLong
returns-in-TooLong g c = rw c.in-TooLong.is (rw c.as_bytes-in-TooLong.ensures.value at c.finish-in-TooLong.ensures)
