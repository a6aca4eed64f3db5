use Rattle.std.proofs.Common.{◌≡◌, ◌≢◌, ◌+◌, ◌-◌, refl, sym, ap, subst, ◌∙◌, arith, [], length, ◌++◌, take}
use Rattle.hessian_text.specs.Spelling.{AreBytes}
use Rattle.hessian_reader.specs.declared.fault.HessianFault.{HessianFault}
use Rattle.hessian_reader.specs.declared.fault.HessianFault.TheVariants as told
use Rattle.hessian_reader.specs.Faults.{cause_of}
use Rattle.hessian_reader.specs.Course.{StopsIn}
use Rattle.hessian_reader.specs.declared.lexer.Lexed.TheVariants as lexed
use Rattle.hessian_reader.specs.Refusing.{fault_of, RefusesByte, IsStoppedBy}
use Rattle.hessian_reader.specs.Views.{state_of}
use Rattle.hessian_reader.proofs.Refusals.{double_refused, code_refused, text_refused, element_refused}
use Rattle.hessian_reader.specs.declared.element.Want.{Want}
use Rattle.hessian_reader.specs.declared.lexer.Inside.{Inside}
use Rattle.hessian_reader.specs.Elements.{IsElement}
use Rattle.hessian_reader.specs.Lexing.{Holds, IsWithin, Lexes}
use Rattle.hessian_reader.proofs.Taking.{ends_later, passed_on}
use Rattle.hessian_reader.proofs.course.Course.next_by_bytes.Goals as goal

pub returns-in_ok-take-in-Whole-clause-nexts : goal.returns-in_ok-take-in-Whole-clause-nexts
returns-in_ok-take-in-Whole-clause-nexts c = λ came small wants holds.
    let ends : IsElement c.args.self.now.lexer.want (came ++ take c.in-Whole.used c.args.piece.now) c.in-Whole.element =
    subst (Lexes c.args.self.now.lexer.want came c.args.piece.now c.feed.new.self) c.in-Whole.is (c.in_ok-feed.ensures.lexes came small holds) in
    record {
      some = ends_later c.args.self.now.lexer.want c.args.self.now.lexer.inside came c.args.piece.now c.in-Whole.used c.in-Whole.element small holds ends;
      within = subst (IsWithin (length c.args.piece.now)) c.in-Whole.is c.in_ok-feed.ensures.within;
      element = c.in-Whole.element;
      is_element = subst (λ (w : Want). IsElement w (came ++ take c.in-Whole.used c.args.piece.now) c.in-Whole.element) wants ends;
      taken = c.in_ok-take-in-Whole.ensures.took.0;
      from = refl;
      wants = c.in_ok-take-in-Whole.ensures.took.1;
      nothing = subst (λ (i : Inside). Holds c.take.new.self.lexer.want i []) (sym c.in_ok-take-in-Whole.ensures.took.2) refl;
    }

pub returns-in_err-take-in-Whole-clause-why : goal.returns-in_err-take-in-Whole-clause-why
returns-in_err-take-in-Whole-clause-why c =
    let s = c.args.self.now in
    let piece = c.args.piece.now in
    let n = c.in-Whole.used in
    let x = c.in-Whole.element in
    let fault = c.in_err-take-in-Whole.field-0.0 in
    let bytes : AreBytes piece = record { small = λ i h. omega (arith, c.type_inv.piece i) } in
    passed_on c.from_residual-in_err-take-in-Whole.result fault c.from_residual-in_err-take-in-Whole.ensures.1 (λ (f : HessianFault). f ≢ told.OutOfMemory → StopsIn s c.args.at piece f) (λ other roots before came small leads d from at wants holds.
    let ends : IsElement s.lexer.want (came ++ take n piece) x = subst (Lexes s.lexer.want came piece c.feed.new.self) c.in-Whole.is (c.in_ok-feed.ensures.lexes came small holds) in
    let why = c.in_err-take-in-Whole.ensures.why other in
    let stops = element_refused roots before came piece (state_of s.work) leads d small bytes n x why.0 (subst (λ (w : Want). IsElement w (came ++ take n piece) x) wants ends) why.1 in
    subst (IsStoppedBy roots (before ++ (came ++ piece))) (sym (why.2 ∙ ap (λ p. fault_of (cause_of why.0 p)) from)) stops)

pub returns-in-Double-clause-why : goal.returns-in-Double-clause-why
returns-in-Double-clause-why c = λ other roots before came small leads d from at wants holds.
    let s = c.args.self.now in
    let piece = c.args.piece.now in
    let bytes : AreBytes piece = record { small = λ i h. omega (arith, c.type_inv.piece i) } in
    let byte : RefusesByte s.lexer.want came piece (lexed.Double c.in-Double.code) = subst (RefusesByte s.lexer.want came piece) c.in-Double.is (c.in_ok-feed.ensures.refuses came small holds) in
    subst (λ p. IsStoppedBy roots (before ++ (came ++ piece)) (told.Double p c.in-Double.code)) (sym from)
    (double_refused roots before came piece (state_of s.work) leads d small bytes c.in-Double.code (subst (λ w. RefusesByte w came piece (lexed.Double c.in-Double.code)) wants byte))

pub returns-in-NoCode-clause-why : goal.returns-in-NoCode-clause-why
returns-in-NoCode-clause-why c = λ other roots before came small leads d from at wants holds.
    let s = c.args.self.now in
    let piece = c.args.piece.now in
    let n = c.in-NoCode.place in
    let code = c.in-NoCode.code in
    let bytes : AreBytes piece = record { small = λ i h. omega (arith, c.type_inv.piece i) } in
    let byte : RefusesByte s.lexer.want came piece (lexed.NoCode n code) = subst (RefusesByte s.lexer.want came piece) c.in-NoCode.is (c.in_ok-feed.ensures.refuses came small holds) in
    subst (λ p. IsStoppedBy roots (before ++ (came ++ piece)) (told.BadCode (p + n) code)) (sym at)
    (code_refused roots before came piece (state_of s.work) leads d small bytes n code (subst (λ w. RefusesByte w came piece (lexed.NoCode n code)) wants byte))

pub returns-in-NoText-clause-why : goal.returns-in-NoText-clause-why
returns-in-NoText-clause-why c = λ other roots before came small leads d from at wants holds.
    let s = c.args.self.now in
    let piece = c.args.piece.now in
    let n = c.in-NoText.place in
    let k = c.in-NoText.begun in
    let bytes : AreBytes piece = record { small = λ i h. omega (arith, c.type_inv.piece i) } in
    let byte : RefusesByte s.lexer.want came piece (lexed.NoText n k) = subst (RefusesByte s.lexer.want came piece) c.in-NoText.is (c.in_ok-feed.ensures.refuses came small holds) in
    let left = c.saturating_sub.ensures in
    let place : c.saturating_sub.result ≡ length before + length came + n - k = omega (arith, at, left) in
    subst (λ p. IsStoppedBy roots (before ++ (came ++ piece)) (told.BadText p)) (sym place)
    (text_refused roots before came piece (state_of s.work) leads d small bytes n k (subst (λ w. RefusesByte w came piece (lexed.NoText n k)) wants byte))
