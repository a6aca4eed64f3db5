use Rattle.std.proofs.Common.{◌≡◌, ◌++◌, drop, subst, take}
use Rattle.std.specs.Str.{IsCharBoundary}
use Rattle.std.proofs.lemmas.Str.{IsCharBoundary-start}
use Rattle.hessian_text.specs.Units.{utf16}
use Rattle.hessian_text.specs.Written.{by_units}
use Rattle.hessian_text.proofs.TextUnits.{cut_on, nothing_more}
use Rattle.hessian_text.proofs.Writings.{units_more}
use Rattle.hessian_text.proofs.writing.append_characters.Goals as goal

pub loop-at-init : goal.loop-at-init
loop-at-init c = record { cut = IsCharBoundary-start c.args.text.now c.utf8.text; so_far = nothing_more c.args.out.now.items }

pub loop-at-preserved : goal.loop-at-preserved
loop-at-preserved c =
    let text = c.args.text.now in
    let at = c.loop-at.at in
    let n = c.in_ok-at.field-0 in
    let out = c.loop-at.out.items in
    let new = c.append_front.new.out.items in
    let cut : IsCharBoundary (drop at text) n = subst (λ x. IsCharBoundary x n) c.range_from.ensures.value c.in_ok-at.ensures.cut in
    let next : new ≡ out ++ by_units (utf16 (take n (drop at text))) = subst (λ x. new ≡ out ++ by_units (utf16 (take n x))) c.range_from.ensures.value c.in_ok-at.ensures.ok in
    record { cut = cut_on text at n c.loop-at.invariant.cut cut; so_far = units_more c.args.out.now.items text at n out new c.utf8.text c.loop-at.invariant.cut c.loop-at.invariant.so_far next }
