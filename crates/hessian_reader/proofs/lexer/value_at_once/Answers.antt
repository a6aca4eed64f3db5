use Rattle.std.proofs.Common.{refl, sym, subst, take, ◌∙◌, arith}
use Rattle.std.specs.Prelude.{slice_index}
use Rattle.hessian_reader.specs.declared.element.Want.TheVariants.{AnyValue}
use Rattle.hessian_reader.specs.declared.element.Element.TheVariants.{Plain}
use Rattle.hessian_reader.specs.Elements.{IsElement}
use Rattle.hessian_reader.proofs.Elements.{scalar_is}
use Rattle.hessian_reader.proofs.LexScalars.{code_lexed}
use Rattle.hessian_reader.proofs.lexer.value_at_once.Goals as goal

pub returns-in-Some-clause-is : goal.returns-in-Some-clause-is
returns-in-Some-clause-is c =
    let some = c.in-len1-up.len_at_least in
    code_lexed AnyValue c.in-Some.head (slice_index c.args.piece.now 0) c.args.piece.now refl (omega (arith, some)) refl (sym c.head_of.ensures ∙ c.in-Some.is)

pub returns-in-Some-scalar_at_once-clause-is : goal.returns-in-Some-scalar_at_once-clause-is
returns-in-Some-scalar_at_once-clause-is c =
    let bytes = take c.in-Some-scalar_at_once.used c.args.piece.now in
    subst (λ v. IsElement AnyValue bytes (Plain v)) (sym c.value_of.ensures) (scalar_is AnyValue c.in-Some-scalar_at_once.scalar bytes tt c.in-Some-scalar_at_once.ensures.spells)
