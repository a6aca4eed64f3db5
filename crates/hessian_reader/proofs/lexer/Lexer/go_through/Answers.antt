use Rattle.std.proofs.Common.{◌++◌, arith, take, refl, sym, ap, subst, ◌∙◌}
use Rattle.hessian_text.specs.Spelling.{AreBytes}
use Rattle.hessian_text.specs.declared.step.Fed.TheVariants as fed
use Rattle.hessian_text.specs.Reader.{Feeds}
use Rattle.hessian_text.proofs.Answering.{take_bytes}
use Rattle.hessian_reader.specs.Codes.{chunk_element}
use Rattle.hessian_reader.specs.Elements.{IsElement}
use Rattle.hessian_reader.proofs.LexChunks.{small_more, whole_lexed, more_lexed, no_code_lexed, no_item_lexed}
use Rattle.hessian_reader.proofs.LexRefusals.{code_byte, item_byte}
use Rattle.hessian_reader.proofs.lexer.Lexer.go_through.Goals as goal

pub returns-in-More-clause-lexes : goal.returns-in-More-clause-lexes
returns-in-More-clause-lexes c = λ came low leads.
    let told : Feeds c.args.chunks.reader c.args.piece.now c.feed.new.self fed.More = subst (λ t. Feeds c.args.chunks.reader c.args.piece.now c.feed.new.self t) c.in-More.is c.in_ok-feed.ensures in
    (refl, more_lexed c.args.self.now.want c.args.chunks.reader c.feed.new.self came c.args.piece.now leads told.0 told.1)

pub returns-in-Whole-clause-lexes : goal.returns-in-Whole-clause-lexes
returns-in-Whole-clause-lexes c = λ came low leads.
    let w = c.args.self.now.want in
    let n = c.in-Whole.used in
    let told : Feeds c.args.chunks.reader c.args.piece.now c.feed.new.self (fed.Whole n) = subst (λ t. Feeds c.args.chunks.reader c.args.piece.now c.feed.new.self t) c.in-Whole.is c.in_ok-feed.ensures in
    let small : AreBytes c.args.piece.now = record { small = λ i h. omega (arith, c.type_inv.piece i) } in
    let bytes : AreBytes (came ++ take n c.args.piece.now) = small_more came (take n c.args.piece.now) low (take_bytes n c.args.piece.now small told.0) in
    subst (IsElement w (came ++ take n c.args.piece.now)) (ap (λ k. chunk_element w k c.feed.new.self.done) c.args.chunks.same ∙ sym c.chunk_element-element.ensures)
    (whole_lexed w c.args.chunks.reader c.feed.new.self came c.args.piece.now n bytes leads told.1 told.2)

pub returns-in-NoCode-clause-lexes : goal.returns-in-NoCode-clause-lexes
returns-in-NoCode-clause-lexes c = λ came low leads.
    let n = c.in-NoCode.place in
    let told : Feeds c.args.chunks.reader c.args.piece.now c.feed.new.self (fed.NoCode n) = subst (λ t. Feeds c.args.chunks.reader c.args.piece.now c.feed.new.self t) c.in-NoCode.is c.in_ok-feed.ensures in
    let small : AreBytes c.args.piece.now = record { small = λ i h. omega (arith, c.type_inv.piece i) } in
    no_code_lexed c.args.self.now.want c.args.chunks.reader c.feed.new.self came c.args.piece.now n low small leads told.0 told.1 told.2

pub returns-in-NoItem-clause-lexes : goal.returns-in-NoItem-clause-lexes
returns-in-NoItem-clause-lexes c = λ came low leads.
    let n = c.in-NoItem.place in
    let k = c.in-NoItem.begun in
    let told : Feeds c.args.chunks.reader c.args.piece.now c.feed.new.self (fed.NoItem n k) = subst (λ t. Feeds c.args.chunks.reader c.args.piece.now c.feed.new.self t) c.in-NoItem.is c.in_ok-feed.ensures in
    let small : AreBytes c.args.piece.now = record { small = λ i h. omega (arith, c.type_inv.piece i) } in
    no_item_lexed c.args.self.now.want c.args.chunks.reader c.feed.new.self came c.args.piece.now n k low small leads told.0 told.1 told.2

pub returns-in-NoCode-clause-refuses : goal.returns-in-NoCode-clause-refuses
returns-in-NoCode-clause-refuses c = λ came low leads.
    let n = c.in-NoCode.place in
    let told : Feeds c.args.chunks.reader c.args.piece.now c.feed.new.self (fed.NoCode n) = subst (λ t. Feeds c.args.chunks.reader c.args.piece.now c.feed.new.self t) c.in-NoCode.is c.in_ok-feed.ensures in
    code_byte c.args.self.now.want c.args.chunks.reader c.feed.new.self came c.args.piece.now n leads told.0 told.1 told.2

pub returns-in-NoItem-clause-refuses : goal.returns-in-NoItem-clause-refuses
returns-in-NoItem-clause-refuses c = λ came low leads.
    let n = c.in-NoItem.place in
    let k = c.in-NoItem.begun in
    let told : Feeds c.args.chunks.reader c.args.piece.now c.feed.new.self (fed.NoItem n k) = subst (λ t. Feeds c.args.chunks.reader c.args.piece.now c.feed.new.self t) c.in-NoItem.is c.in_ok-feed.ensures in
    item_byte c.args.self.now.want c.args.chunks.reader c.feed.new.self came c.args.piece.now n k leads told.0 told.1 told.2
