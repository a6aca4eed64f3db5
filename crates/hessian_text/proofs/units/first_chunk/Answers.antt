use Rattle.std.proofs.Common.{◌-◌, arith, drop, subst}
use Rattle.std.specs.Str.{chars}
use Rattle.std.proofs.lemmas.Str.{IsCharBoundary-start}
use Rattle.hessian_text.specs.Units.{FitsNone, IsFront}
use Rattle.hessian_text.proofs.TextUnits.{cut_on, nothing_len}
use Rattle.hessian_text.proofs.FirstChunk.{is_first_chunk, units_on}
use Rattle.hessian_text.proofs.units.first_chunk.Goals as goal

pub loop-front-init : goal.loop-front-init
loop-front-init c = record { cut = IsCharBoundary-start c.args.text.now c.utf8.text; size = nothing_len; few = omega arith }

pub returns-then-front-eq0 : goal.returns-then-front-eq0
returns-then-front-eq0 c =
    let text = c.args.text.now in
    let len = c.loop-front.len in
    let units = c.loop-front.units in
    let none : FitsNone (chars (drop len text)) (32768 - units) = subst (λ x. FitsNone (chars x) (32768 - units)) c.range_from.ensures.value (c.next_front-front.ensures.none c.if-front-eq0.true) in
    is_first_chunk text len units c.utf8.text c.loop-front.invariant.cut c.loop-front.invariant.size c.loop-front.invariant.few none

pub loop-front-preserved : goal.loop-front-preserved
loop-front-preserved c =
    let text = c.args.text.now in
    let len = c.loop-front.len in
    let units = c.loop-front.units in
    let front = c.next_front-front.result in
    let next : IsFront (drop len text) (32768 - units) front.len front.units = subst (λ x. IsFront x (32768 - units) front.len front.units) c.range_from.ensures.value c.next_front-front.ensures in
    record {
      cut = cut_on text len front.len c.loop-front.invariant.cut next.cut;
      size = units_on text len front.len units front.units c.utf8.text c.loop-front.invariant.cut c.loop-front.invariant.size next.units_are;
      few = omega (arith, next.fits, c.loop-front.invariant.few);
    }
