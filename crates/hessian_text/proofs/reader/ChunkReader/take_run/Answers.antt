use Rattle.std.proofs.Common.{take, subst}
use Rattle.hessian_text.specs.declared.stage.Begun.TheVariants.{Nothing}
use Rattle.hessian_text.specs.Reader.{Reading, Advances}
use Rattle.hessian_text.proofs.Advancing.{advances_none, advances_items, sound_items, inside_some}
use Rattle.hessian_text.proofs.reader.ChunkReader.take_run.Goals as goal

pub returns-in_default-clause-ok : goal.returns-in_default-clause-ok
returns-in_default-clause-ok c = advances_none c.args.self.now

pub invariant_of-self-2 : goal.invariant_of-self-2
invariant_of-self-2 c =
    let run = c.item_run-run in
    let some = inside_some c.self.inside.kind c.self.inside.stage c.in-Some.part c.in-Some.left Nothing c.in-Some.ensures c.self.invariant.stage in
    sound_items c.self.inside.kind c.in-Some.part c.in-Some.left run.result.units c.self.inside.stage c.entered-self-inside.result c.self.inside.done.items (take run.result.len c.args.piece.now) c.extend_from_slice.new.self.items (take run.result.len c.args.piece.now) c.self.invariant some.1 c.entered-self-inside.ensures run.ensures.run c.in_ok-extend_from_slice.ensures.items

pub returns-clause-ok : goal.returns-clause-ok
returns-clause-ok c =
    let run = c.item_run-run in
    let some = inside_some c.self.inside.kind c.self.inside.stage c.in-Some.part c.in-Some.left Nothing c.in-Some.ensures c.self.invariant.stage in
    let after : Reading = record { kind = c.self.inside.kind; done = c.extend_from_slice.new.self.items; stage = c.entered-self-inside.result } in
    subst (λ r. Advances r (take run.result.len c.args.piece.now) after) c.self.view_is (advances_items c.self.inside.kind c.in-Some.part c.in-Some.left run.result.units c.self.inside.stage c.entered-self-inside.result c.self.inside.done.items (take run.result.len c.args.piece.now) c.extend_from_slice.new.self.items (take run.result.len c.args.piece.now) c.in-Some.ensures some.0 c.entered-self-inside.ensures run.ensures.fits run.ensures.run c.in_ok-extend_from_slice.ensures.items)
