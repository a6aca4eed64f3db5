use Rattle.std.proofs.Common.{[], arith, sym, subst, ◌∙◌}
use Rattle.hessian_reader.specs.Starting.{StartsChunks}
use Rattle.hessian_reader.proofs.LexScalars.{code_lexed}
use Rattle.hessian_reader.proofs.LexChunks.{leads_in}
use Rattle.hessian_reader.proofs.lexer.Lexer.begin_value.Goals as goal

pub returns-in-Some-clause-lexes : goal.returns-in-Some-clause-lexes
returns-in-Some-clause-lexes c = code_lexed c.args.self.now.want c.in-Some.head c.args.code c.args.piece.now c.requires.any c.requires.some c.requires.first (sym c.head_of.ensures ∙ c.in-Some.is)

pub returns-in-Some-kind_of-clause-lexes : goal.returns-in-Some-kind_of-clause-lexes
returns-in-Some-kind_of-clause-lexes c =
    let kind = c.in-Some-kind_of.kind in
    let starts : StartsChunks c.args.self.now.want kind c.args.code = subst (λ u. StartsChunks u kind c.args.code) (sym c.requires.any) (sym c.kind_of.ensures ∙ c.in-Some-kind_of.is) in
    c.go_through.ensures.lexes [] (record { small = λ i h. omega arith }) (leads_in c.args.self.now.want kind c.new.result.reader c.args.code c.args.piece.now c.new.ensures.reader c.requires.some c.requires.first starts)

pub returns-in-Some-kind_of-clause-refuses : goal.returns-in-Some-kind_of-clause-refuses
returns-in-Some-kind_of-clause-refuses c =
    let kind = c.in-Some-kind_of.kind in
    let starts : StartsChunks c.args.self.now.want kind c.args.code = subst (λ u. StartsChunks u kind c.args.code) (sym c.requires.any) (sym c.kind_of.ensures ∙ c.in-Some-kind_of.is) in
    c.go_through.ensures.refuses [] (record { small = λ i h. omega arith }) (leads_in c.args.self.now.want kind c.new.result.reader c.args.code c.args.piece.now c.new.ensures.reader c.requires.some c.requires.first starts)
