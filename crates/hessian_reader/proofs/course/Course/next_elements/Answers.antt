use Rattle.std.proofs.Common.{◌+◌, ◌≤◌, [], length, take, refl, sym, ap, subst, ◌∙◌}
use Rattle.std.specs.Prelude.{Ok}
use Rattle.hessian_text.proofs.Advancing.{rest_is}
use Rattle.hessian_reader.specs.declared.lexer.Lexer.{Lexer}
use Rattle.hessian_reader.specs.Lexing.{Holds}
use Rattle.hessian_reader.specs.Course.{TakesOne, Nexts}
use Rattle.hessian_reader.specs.Steps.{Leads}
use Rattle.hessian_reader.specs.Views.{state_of}
use Rattle.hessian_reader.proofs.course.Course.next_elements.Goals as goal

pub returns-in-Ok-clause-passes : goal.returns-in-Ok-clause-passes
returns-in-Ok-clause-passes c = λ came small wants holds.
    let old = c.args.self.now in
    let middle = c.next_element.new.self in
    let new = c.take_run.new.self in
    let piece = c.args.piece.now in
    let first = c.in-Ok-Some.used in
    let more = c.in-Ok.more in
    let one : TakesOne old middle c.args.at came piece first = subst (λ o. Nexts old c.args.at came piece middle (Ok o)) c.in-Ok-Some.field-0-is (c.in-Ok-Some.ensures.nexts came small wants holds) in
    let lexer = c.take_run.ensures.lexer in
    record {
      middle = middle;
      first = first;
      more = more;
      one = one;
      count = refl;
      within = subst (λ r. more ≤ length r) (rest_is first piece) c.in-Ok.ensures.within;
      leads = subst (λ r. Leads (state_of middle.work) (take more r) (state_of new.work)) (rest_is first piece) c.in-Ok.ensures.leads;
      from = c.in-Ok.ensures.from one.from ∙ ap (λ k. k + more) (sym one.from);
      wants = ap (λ (l : Lexer). l.want) lexer ∙ one.wants ∙ sym c.in-Ok.ensures.wants;
      nothing = subst (λ (l : Lexer). Holds l.want l.inside []) (sym lexer) one.nothing;
    }
