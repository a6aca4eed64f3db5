use Rattle.std.proofs.Common.{[], arith, refl, sym, subst}
use Rattle.std.specs.Prelude.{slice_index}
use Rattle.hessian_text.specs.declared.stage.Kind.TheVariants.{Text}
use Rattle.hessian_reader.specs.Starting.{StartsChunks}
use Rattle.hessian_reader.proofs.LexChunks.{leads_in}
use Rattle.hessian_reader.proofs.lexer.Lexer.begin.Goals as goal

pub returns-in-AText-clause-lexes : goal.returns-in-AText-clause-lexes
returns-in-AText-clause-lexes c =
    let first = slice_index c.args.piece.now 0 in
    let starts : StartsChunks c.args.self.now.want Text first = subst (λ u. StartsChunks u Text first) (sym c.in-AText.is) refl in
    c.go_through.ensures.lexes [] (record { small = λ i h. omega arith }) (leads_in c.args.self.now.want Text c.new.result.reader first c.args.piece.now c.new.ensures.reader (omega arith) refl starts)

pub returns-else-begins_int-clause-lexes : goal.returns-else-begins_int-clause-lexes
returns-else-begins_int-clause-lexes c =
    let first = slice_index c.args.piece.now 0 in
    let starts : StartsChunks c.args.self.now.want Text first = subst (λ u. StartsChunks u Text first) (sym c.in-AType.is) (refl, λ b. let t = c.begins_int.ensures.1 b in cc) in
    c.go_through-else-begins_int.ensures.lexes [] (record { small = λ i h. omega arith }) (leads_in c.args.self.now.want Text c.new-else-begins_int.result.reader first c.args.piece.now c.new-else-begins_int.ensures.reader (omega arith) refl starts)

pub returns-in-AText-clause-refuses : goal.returns-in-AText-clause-refuses
returns-in-AText-clause-refuses c =
    let first = slice_index c.args.piece.now 0 in
    let starts : StartsChunks c.args.self.now.want Text first = subst (λ u. StartsChunks u Text first) (sym c.in-AText.is) refl in
    c.go_through.ensures.refuses [] (record { small = λ i h. omega arith }) (leads_in c.args.self.now.want Text c.new.result.reader first c.args.piece.now c.new.ensures.reader (omega arith) refl starts)

pub returns-else-begins_int-clause-refuses : goal.returns-else-begins_int-clause-refuses
returns-else-begins_int-clause-refuses c =
    let first = slice_index c.args.piece.now 0 in
    let starts : StartsChunks c.args.self.now.want Text first = subst (λ u. StartsChunks u Text first) (sym c.in-AType.is) (refl, λ b. let t = c.begins_int.ensures.1 b in cc) in
    c.go_through-else-begins_int.ensures.refuses [] (record { small = λ i h. omega arith }) (leads_in c.args.self.now.want Text c.new-else-begins_int.result.reader first c.args.piece.now c.new-else-begins_int.ensures.reader (omega arith) refl starts)
