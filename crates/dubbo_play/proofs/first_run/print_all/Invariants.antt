use Rattle.std.proofs.Common.{ℕ, List, ◌-◌, ◌≤◌, length}
use Rattle.dubbo_play.specs.FirstForm.{Call, AreCalls}
use Rattle.dubbo_play.specs.FirstFrames.{AreReplies}
use Rattle.dubbo_play.proofs.Provided.{Printed}
use Rattle.dubbo_play.proofs.first_run.print_all.Given as goal

pub record Progress (answers : List ℕ) (at : ℕ) (printed : List ℕ) (count : ℕ) : Type 0 where
  pub inside : at ≤ length answers
  pub counted : count ≤ at
  pub lines : (calls : List Call) → AreCalls calls → AreReplies calls answers → Printed calls answers at printed count

abbrev pub invariant-loop-reply : goal.invariant-loop-reply
invariant-loop-reply l = Progress l.answers l.at l.printed.items l.count

abbrev pub decreases-loop-reply : goal.decreases-loop-reply
decreases-loop-reply l = length l.answers - l.at
