use Rattle.std.proofs.Common.{◌≢◌, refl, sym, ap, subst, ◌∙◌, arith, [], ◌++◌, take}
use Rattle.hessian_text.specs.Spelling.{AreBytes}
use Rattle.hessian_reader.specs.declared.element.Want.{Want}
use Rattle.hessian_reader.specs.declared.fault.HessianFault.{HessianFault}
use Rattle.hessian_reader.specs.declared.fault.HessianFault.TheVariants as told
use Rattle.hessian_reader.specs.declared.lexer.Inside.{Inside}
use Rattle.hessian_reader.specs.Elements.{IsElement}
use Rattle.hessian_reader.specs.Faults.{cause_of}
use Rattle.hessian_reader.specs.Lexing.{Holds}
use Rattle.hessian_reader.specs.Course.{StopsIn}
use Rattle.hessian_reader.specs.Refusing.{fault_of, IsStoppedBy}
use Rattle.hessian_reader.specs.Views.{state_of}
use Rattle.hessian_reader.proofs.Refusals.{element_refused}
use Rattle.hessian_reader.proofs.Taking.{begun_anew, ends_later, passed_on}
use Rattle.hessian_reader.proofs.course.Course.next_element.Goals as goal

pub returns-in_ok-take_here-in-Some-clause-nexts : goal.returns-in_ok-take_here-in-Some-clause-nexts
returns-in_ok-take_here-in-Some-clause-nexts c = λ came small wants holds.
    let s = c.args.self.now in
    let piece = c.args.piece.now in
    let n = c.in-Some.used in
    let x = c.in-Some.element in
    let ends : IsElement s.lexer.want (came ++ take n piece) x = begun_anew s.lexer.want s.lexer.inside came (take n piece) x c.in-Some.ensures.nothing holds c.in-Some.ensures.is in
    record {
      some = ends_later s.lexer.want s.lexer.inside came piece n x small holds ends;
      within = c.in-Some.ensures.within;
      element = x;
      is_element = subst (λ (w : Want). IsElement w (came ++ take n piece) x) wants ends;
      taken = c.in_ok-take_here-in-Some.ensures.took.0;
      from = refl;
      wants = c.in_ok-take_here-in-Some.ensures.took.1;
      nothing = subst (λ (i : Inside). Holds c.take_here.new.self.lexer.want i []) (sym c.in_ok-take_here-in-Some.ensures.took.2) refl;
    }

pub returns-in_err-take_here-in-Some-clause-why : goal.returns-in_err-take_here-in-Some-clause-why
returns-in_err-take_here-in-Some-clause-why c =
    let s = c.args.self.now in
    let piece = c.args.piece.now in
    let n = c.in-Some.used in
    let x = c.in-Some.element in
    let fault = c.in_err-take_here-in-Some.field-0.0 in
    let bytes : AreBytes piece = record { small = λ i h. omega (arith, c.type_inv.piece i) } in
    passed_on c.from_residual.result fault c.from_residual.ensures.1 (λ (f : HessianFault). f ≢ told.OutOfMemory → StopsIn s c.args.at piece f) (λ other roots before came small leads d from at wants holds.
    let ends : IsElement s.lexer.want (came ++ take n piece) x = begun_anew s.lexer.want s.lexer.inside came (take n piece) x c.in-Some.ensures.nothing holds c.in-Some.ensures.is in
    let why = c.in_err-take_here-in-Some.ensures.why other in
    let stops = element_refused roots before came piece (state_of s.work) leads d small bytes n x why.0 (subst (λ (w : Want). IsElement w (came ++ take n piece) x) wants ends) why.1 in
    subst (IsStoppedBy roots (before ++ (came ++ piece))) (sym (why.2 ∙ ap (λ p. fault_of (cause_of why.0 p)) from)) stops)
