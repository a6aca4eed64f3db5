use Rattle.std.proofs.Common.{◌≡◌, ◌∙◌}
use Rattle.dubbo_main.specs.FaultLines.{not_built_line, input_line}
use Rattle.dubbo_main.proofs.top.tell.Goals as goal

pub returns-in-Input : goal.returns-in-Input
returns-in-Input g c =
    let text : c.as_bytes.result.now ≡ input_line c.in-Input.faults = c.as_bytes.ensures.value ∙ c.deref.ensures.0 ∙ c.input_failed.ensures in
    rw c.in-Input.is (rw text at c.finish.ensures)

pub returns-in-TooLong : goal.returns-in-TooLong
returns-in-TooLong g c = rw c.in-TooLong.is (rw c.as_bytes-in-TooLong.ensures.value at c.finish-in-TooLong.ensures)

pub returns-in-NotBuilt : goal.returns-in-NotBuilt
returns-in-NotBuilt g c =
    let text : c.as_bytes-in-NotBuilt.result.now ≡ not_built_line c.in-NotBuilt.line = c.as_bytes-in-NotBuilt.ensures.value ∙ c.deref-in-NotBuilt.ensures.0 ∙ c.not_built.ensures in
    rw c.in-NotBuilt.is (rw text at c.finish-in-NotBuilt.ensures)
