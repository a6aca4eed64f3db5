use Rattle.hessian_reader.proofs.LexScalars.{int_refused}
use Rattle.hessian_reader.proofs.LexRefusals.{int_byte}
use Rattle.hessian_reader.proofs.lexer.Lexer.begin_int.Goals as goal

pub returns-else-begins_int-clause-lexes : goal.returns-else-begins_int-clause-lexes
returns-else-begins_int-clause-lexes c = int_refused c.args.self.now.want c.args.code c.args.piece.now c.requires.int c.requires.some c.requires.first (λ b. let t = c.begins_int.ensures.1 b in cc)

pub returns-else-begins_int-clause-refuses : goal.returns-else-begins_int-clause-refuses
returns-else-begins_int-clause-refuses c = int_byte c.args.self.now.want c.args.code c.args.piece.now c.requires.int c.requires.some c.requires.first (λ b. let t = c.begins_int.ensures.1 b in cc)
