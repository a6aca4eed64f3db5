use Rattle.std.proofs.Common.{sym, subst, ◌∙◌}
use Rattle.hessian_reader.specs.declared.lexer.Inside.TheVariants as insides
use Rattle.hessian_reader.specs.Lexing.{Holds, Lexes}
use Rattle.hessian_reader.specs.Refusing.{RefusesByte}
use Rattle.hessian_reader.proofs.LexScalars.{leads_on as scalar_leads_on}
use Rattle.hessian_reader.proofs.LexChunks.{leads_on as chunks_lead_on}
use Rattle.hessian_reader.proofs.lexer.Lexer.feed.Goals as goal

pub returns-in-Scalar-clause-lexes : goal.returns-in-Scalar-clause-lexes
returns-in-Scalar-clause-lexes c = λ came small holds.
    let w = c.args.self.now.want in
    let h : Holds w (insides.Scalar c.in-Scalar.reader) came = subst (λ i. Holds w i came) (sym c.replace.ensures.value ∙ c.in-Scalar.is) holds in
    subst (λ q. Lexes w q c.args.piece.now c.go_on.new.self c.go_on.result) (sym h.0) (c.go_on.ensures.lexes (scalar_leads_on w c.in-Scalar.reader c.args.piece.now h.1 h.2))

pub returns-in-Chunks-clause-lexes : goal.returns-in-Chunks-clause-lexes
returns-in-Chunks-clause-lexes c = λ came small holds.
    let w = c.args.self.now.want in
    let h : Holds w (insides.Chunks c.in-Chunks.chunks) came = subst (λ i. Holds w i came) (sym c.replace.ensures.value ∙ c.in-Chunks.is) holds in
    c.go_through.ensures.lexes came small (chunks_lead_on w c.in-Chunks.chunks.reader came c.args.piece.now h)

pub returns-in-Scalar-clause-refuses : goal.returns-in-Scalar-clause-refuses
returns-in-Scalar-clause-refuses c = λ came small holds.
    let w = c.args.self.now.want in
    let h : Holds w (insides.Scalar c.in-Scalar.reader) came = subst (λ i. Holds w i came) (sym c.replace.ensures.value ∙ c.in-Scalar.is) holds in
    subst (λ q. RefusesByte w q c.args.piece.now c.go_on.result) (sym h.0) (c.go_on.ensures.refuses (scalar_leads_on w c.in-Scalar.reader c.args.piece.now h.1 h.2))

pub returns-in-Chunks-clause-refuses : goal.returns-in-Chunks-clause-refuses
returns-in-Chunks-clause-refuses c = λ came small holds.
    let w = c.args.self.now.want in
    let h : Holds w (insides.Chunks c.in-Chunks.chunks) came = subst (λ i. Holds w i came) (sym c.replace.ensures.value ∙ c.in-Chunks.is) holds in
    c.go_through.ensures.refuses came small (chunks_lead_on w c.in-Chunks.chunks.reader came c.args.piece.now h)
