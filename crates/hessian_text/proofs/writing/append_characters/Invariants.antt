use Rattle.std.proofs.Common.{◌≡◌, ◌++◌, ◌-◌, length, take}
use Rattle.std.specs.Str.{IsCharBoundary}
use Rattle.hessian_text.specs.Units.{utf16}
use Rattle.hessian_text.specs.Written.{by_units}
use Rattle.hessian_text.proofs.writing.append_characters.Given as goal

abbrev pub invariant-loop-at : goal.invariant-loop-at
invariant-loop-at l = record { cut : IsCharBoundary l.text l.at; so_far : l.out.items ≡ l.fn.out.items ++ by_units (utf16 (take l.at l.text)) }

abbrev pub decreases-loop-at : goal.decreases-loop-at
decreases-loop-at l = length l.text - l.at
