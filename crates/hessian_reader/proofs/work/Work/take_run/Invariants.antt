use Rattle.std.proofs.Common.{◌≡◌, ◌-◌, ◌≤◌, length, take}
use Rattle.hessian_reader.specs.States.{AtValue}
use Rattle.hessian_reader.specs.Steps.{Leads}
use Rattle.hessian_reader.specs.Views.{state_of}
use Rattle.hessian_reader.proofs.work.Work.take_run.Given as goal

-- the elements so far were taken
abbrev pub invariant-loop-taken : goal.invariant-loop-taken
invariant-loop-taken l = record {
  low : l.taken ≤ length l.piece;
  place : l.self.place ≡ AtValue;
  leads : Leads (state_of l.fn.self) (take l.taken l.piece) (state_of l.self);
}

abbrev pub decreases-loop-taken : goal.decreases-loop-taken
decreases-loop-taken l = length l.piece - l.taken
