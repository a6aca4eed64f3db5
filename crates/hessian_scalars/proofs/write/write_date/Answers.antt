use Rattle.std.proofs.Common.{arith, ◌∙◌}
use Rattle.std.specs.Int.{w64}
use Rattle.std.proofs.lemmas.Int.{ints, to_z-of_z}
use Rattle.hessian_scalars.proofs.ShortestOthers.{date_in_minutes_appended, date_in_millis_appended}
use Rattle.hessian_scalars.proofs.write.write_date.Goals as goal

pub returns-in_ok-extend_from_slice-in-Some-clause-ok :
    goal.returns-in_ok-extend_from_slice-in-Some-clause-ok
returns-in_ok-extend_from_slice-in-Some-clause-ok c = date_in_minutes_appended _ _ _ c.args.value c.in-Some.minutes _ (grind (arith, ints)) (rw (to_z-of_z w64 c.args.value c.ranges.value) at c.in-Some.ensures.some) (grind (arith, ints)) c.to_be_bytes.ensures c.in_ok-extend_from_slice-in-Some.ensures.items

pub returns-in_ok-extend_from_slice-in-None-clause-ok :
    goal.returns-in_ok-extend_from_slice-in-None-clause-ok
returns-in_ok-extend_from_slice-in-None-clause-ok c = date_in_millis_appended _ _ _ c.args.value _ c.ranges.value (λ m f e. c.in-None.ensures.none m f (to_z-of_z w64 c.args.value c.ranges.value ∙ e)) (grind (arith, ints)) c.to_be_bytes-in-None.ensures c.in_ok-extend_from_slice-in-None.ensures.items
