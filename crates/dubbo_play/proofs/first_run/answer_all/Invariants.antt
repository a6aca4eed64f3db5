use Rattle.std.proofs.Common.{ℕ, List, ◌-◌, ◌≤◌, length}
use Rattle.dubbo_play.specs.FirstForm.{Call, AreCalls}
use Rattle.dubbo_play.specs.FirstFrames.{AreRequests}
use Rattle.dubbo_play.specs.FirstRun.{Grows}
use Rattle.dubbo_play.proofs.Provided.{Answered}
use Rattle.dubbo_play.proofs.first_run.answer_all.Given as goal

pub record Progress (asks : List ℕ) (at : ℕ) (old new : List ℕ) : Type 0 where
  pub inside : at ≤ length asks
  pub grown : Grows old new
  pub answered : (calls : List Call) → AreCalls calls → AreRequests calls asks → Answered calls asks at old new

abbrev pub invariant-loop-request : goal.invariant-loop-request
invariant-loop-request l = Progress l.asks l.at l.initial.answers.items l.answers.items

abbrev pub decreases-loop-request : goal.decreases-loop-request
decreases-loop-request l = length l.asks - l.at
