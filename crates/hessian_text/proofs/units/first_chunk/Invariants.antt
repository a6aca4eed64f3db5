use Rattle.std.proofs.Common.{◌≡◌, ◌-◌, ◌≤◌, length, take}
use Rattle.std.specs.Str.{IsCharBoundary}
use Rattle.hessian_text.specs.Units.{utf16}
use Rattle.hessian_text.proofs.units.first_chunk.Given as goal

abbrev pub invariant-loop-front : goal.invariant-loop-front
invariant-loop-front l = record { cut : IsCharBoundary l.text l.len; size : l.units ≡ length (utf16 (take l.len l.text)); few : l.units ≤ 32768 }

abbrev pub decreases-loop-front : goal.decreases-loop-front
decreases-loop-front l = length l.text - l.len
