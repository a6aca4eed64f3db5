use Rattle.std.proofs.Common.{◌++◌, take, refl, sym, subst}
use Rattle.hessian_reader.specs.Elements.{IsElement}
use Rattle.hessian_reader.proofs.LexScalars.{whole_lexed, part_lexed, double_refused, other_refused}
use Rattle.hessian_reader.proofs.LexRefusals.{double_byte, other_byte}
use Rattle.hessian_reader.proofs.lexer.Lexer.go_on.Goals as goal

pub returns-in-Whole-clause-within : goal.returns-in-Whole-clause-within
returns-in-Whole-clause-within c = ((c.feed.ensures.whole c.in-Whole.scalar c.in-Whole.used).0 c.in-Whole.is).0

pub returns-in-Whole-clause-lexes : goal.returns-in-Whole-clause-lexes
returns-in-Whole-clause-lexes c = λ l. subst (λ x. IsElement c.args.self.now.want (c.args.reader ++ take c.in-Whole.used c.args.piece.now) x) (sym c.scalar_element.ensures)
    (whole_lexed c.args.self.now.want c.args.reader c.args.piece.now c.in-Whole.scalar c.in-Whole.used l ((c.feed.ensures.whole c.in-Whole.scalar c.in-Whole.used).0 c.in-Whole.is).1)

pub returns-in-Part-clause-lexes : goal.returns-in-Part-clause-lexes
returns-in-Part-clause-lexes c = λ l. (refl, part_lexed c.args.self.now.want (c.args.reader ++ c.args.piece.now) c.feed.new.self l (c.feed.ensures.part.0 c.in-Part.is) (c.feed.ensures.goes_on c.in-Part.is))

pub returns-in-Double-clause-lexes : goal.returns-in-Double-clause-lexes
returns-in-Double-clause-lexes c = λ l. let d = (c.feed.ensures.double c.in-Double.code).0 c.in-Double.is in double_refused c.args.self.now.want c.in-Double.code c.args.reader c.args.piece.now d.0 d.1 d.2

pub returns-in-Other-clause-lexes : goal.returns-in-Other-clause-lexes
returns-in-Other-clause-lexes c = λ l. let d = (c.feed.ensures.other c.in-Other.code).0 c.in-Other.is in other_refused c.args.self.now.want c.in-Other.code c.args.reader c.args.piece.now l d.0 d.1 d.2

pub returns-in-Double-clause-refuses : goal.returns-in-Double-clause-refuses
returns-in-Double-clause-refuses c = λ l. let d = (c.feed.ensures.double c.in-Double.code).0 c.in-Double.is in double_byte c.args.self.now.want c.in-Double.code c.args.reader c.args.piece.now l d.0 d.1 d.2

pub returns-in-Other-clause-refuses : goal.returns-in-Other-clause-refuses
returns-in-Other-clause-refuses c = λ l. let d = (c.feed.ensures.other c.in-Other.code).0 c.in-Other.is in other_byte c.args.self.now.want c.in-Other.code c.args.reader c.args.piece.now l d.0 d.1 d.2
