use Rattle.std.proofs.Common.{rules, refl, sym, subst, ◌∙◌, []}
use Rattle.hessian_reader.specs.declared.lexer.Inside.{Inside}
use Rattle.hessian_reader.specs.Lexing.{Holds}
use Rattle.hessian_reader.specs.States.{State, start}
use Rattle.hessian_reader.specs.Steps.{Leads}
use Rattle.hessian_reader.specs.Steps.Leads.{here}
use Rattle.hessian_reader.proofs.course.Course.new.Goals as goal

pub returns-clause-begins : goal.returns-clause-begins
returns-clause-begins c = record {
  counted = refl;
  bytes = search rules;
  follows = λ _. record {
    before = [];
    came = [];
    unread = [];
    joined = refl;
    leads = subst (λ (s : State). Leads (start c.args.roots) [] s) (sym c.new-work.ensures) here;
    wants = c.new-lexer.ensures.want ∙ c.want.ensures;
    holds = subst (λ (i : Inside). Holds c.new-lexer.result.want i []) (sym c.new-lexer.ensures.nothing) refl;
    from = refl;
    over = λ _. refl;
    going = λ _. refl;
  };
  refused = λ f e. absurd (cc);
  stopped = λ f e. absurd (cc);
}
