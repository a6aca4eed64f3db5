use Rattle.std.proofs.Common.{◌∙◌, arith, subst}
use Rattle.std.specs.Prelude.{slice_index}
use Rattle.hessian_text.specs.declared.reader.Took.TheVariants as took
use Rattle.hessian_text.specs.Reader.{Takes}
use Rattle.hessian_text.proofs.Advancing.{advances_nothing, item_told}
use Rattle.hessian_text.proofs.reader.ChunkReader.take_front.Goals as goal

pub returns-in-NoItem : goal.returns-in-NoItem
returns-in-NoItem c =
    let b = slice_index c.args.piece.now 0 in
    let none = advances_nothing c.args.self.now c.take_pair.new.self c.args.piece.now c.in_ok-pair.pair (omega arith) c.in_ok-pair.ensures.ok in
    let same = advances_nothing c.take_pair.new.self c.take_run.new.self c.args.piece.now c.in_ok-run.run' (omega arith) c.in_ok-run.ensures.ok ∙ none in
    let told : Takes c.take_run.new.self b c.take_byte.new.self (took.NoItem c.in-NoItem.begun_len) = subst (λ t. Takes c.take_run.new.self b c.take_byte.new.self t) c.in-NoItem.is c.in_ok-take_byte.ensures in
    item_told c.args.self.now c.take_run.new.self c.take_byte.new.self b c.in-NoItem.begun_len same told
