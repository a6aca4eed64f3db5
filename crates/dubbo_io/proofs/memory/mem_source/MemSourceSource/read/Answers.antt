use Rattle.std.proofs.Common.{◌≡◌, ◌-◌, take, drop, length, refl, ap, Some, arith}
use Rattle.std.proofs.lemmas.Grind.{common_steps}
use Rattle.dubbo_io.proofs.Buffers.{moved_on}
use Rattle.dubbo_io.proofs.memory.mem_source.MemSourceSource.read.Goals as goal

pub returns-clause-reads : goal.returns-clause-reads
returns-clause-reads c =
    let here = c.args.self.now in
    let moved = take c.step_of-n.result c.copy_front.new.into in
    let same : moved ≡ take c.step_of-n.result (take (length here.bytes.items - here.at) (drop here.at here.bytes.items)) = grind (arith, common_steps) in
    let shift = moved_on here.bytes.items moved here.at c.step_of-n.result same in
    record {
      goes_on = record {
        given = ap Some shift.0;
        left = ap Some shift.1;
        count = grind (arith, common_steps);
        ended = λ e. absurd (grind (arith, common_steps));
        faults = omega (arith, c.next_fails.ensures.faults);
        badge = refl;
      };
      answer = (grind (arith, common_steps), λ _. c.step_of-n.ensures.some, refl);
    }
