use Rattle.std.proofs.Common.{◌≡◌, ◌+◌, ◌-◌, ap, arith, length, take}
use Rattle.std.specs.List.{sum_by}
use Rattle.std.proofs.lemmas.List.{take_all}
use Rattle.hessian_text.specs.Units.{byte_units}
use Rattle.hessian_text.proofs.TextUnits.{block_count, front_fits, text_count}
use Rattle.hessian_text.proofs.units.unit_count.Goals as goal

pub overflow_add-units : goal.overflow_add-units
overflow_add-units c =
    let text = c.args.text.now in
    let at = c.loop-at.at in
    let sum = block_count text at (at + 64 - at) (at + 64) (omega arith) in
    let fits = front_fits text (at + 64) c.requires in
    omega (arith, sum, fits, c.loop-at.invariant.so_far, c.block_units.ensures, c.from-units.ensures)

pub loop-at-preserved : goal.loop-at-preserved
loop-at-preserved c =
    let at = c.loop-at.at in
    let sum = block_count c.args.text.now at (at + 64 - at) (at + 64) (omega arith) in
    record { within = omega arith; so_far = omega (arith, sum, c.loop-at.invariant.so_far, c.block_units.ensures, c.from-units.ensures) }

pub overflow_add-result : goal.overflow_add-result
overflow_add-result c =
    let text = c.args.text.now in
    let at = c.loop-at.at in
    let sum = block_count text at (length text - at) (length text) (omega arith) in
    let fits = front_fits text (length text) c.requires in
    omega (arith, sum, fits, c.loop-at.invariant.so_far, c.block_units-2.ensures, c.from.ensures)

pub returns : goal.returns
returns c =
    let text = c.args.text.now in
    let at = c.loop-at.at in
    let sum = block_count text at (length text - at) (length text) (omega arith) in
    let all : sum_by byte_units (take (length text) text) ≡ sum_by byte_units text = ap (sum_by byte_units) (take_all (length text) text (omega arith)) in
    let count = text_count text c.requires in
    omega (arith, sum, all, count, c.loop-at.invariant.so_far, c.block_units-2.ensures, c.from.ensures)
