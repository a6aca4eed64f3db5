use Rattle.std.proofs.Common.{◌≡◌, ◌-◌, ◌≤◌, ℕ, List, length, take}
use Rattle.hessian_text.specs.Spelling.{AreBytes}
use Rattle.hessian_reader.specs.Course.{Follows}
use Rattle.hessian_reader.proofs.Feeding.{Stands}
use Rattle.hessian_reader.proofs.course.Course.advance.Given as goal

-- the course has taken the front of the piece
abbrev pub invariant-loop-taken : goal.invariant-loop-taken
invariant-loop-taken l = record {
  low : l.taken ≤ length l.piece;
  fed : l.self.fed ≡ l.fn.self.fed;
  refused : l.self.refused ≡ l.fn.self.refused;
  stands : (roots : ℕ) (fed : List ℕ) → l.fn.self.fed ≡ length fed → AreBytes fed → Follows l.fn.self roots fed → Stands l.self roots fed (take l.taken l.piece);
}

abbrev pub decreases-loop-taken : goal.decreases-loop-taken
decreases-loop-taken l = length l.piece - l.taken
