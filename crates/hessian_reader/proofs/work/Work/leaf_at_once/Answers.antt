use Rattle.std.proofs.Common.{ap, subst, ◌∙◌, take}
use Rattle.std.specs.Prelude.{IfSome}
use Rattle.hessian_reader.specs.declared.element.Element.TheVariants.{Plain}
use Rattle.hessian_reader.specs.declared.element.Want.TheVariants.{AnyValue}
use Rattle.hessian_reader.specs.Elements.{IsElement}
use Rattle.hessian_reader.specs.States.{with_value}
use Rattle.hessian_reader.specs.Steps.Leads.{here}
use Rattle.hessian_reader.specs.Views.{state_of}
use Rattle.hessian_reader.proofs.Runs.{leaf_leads}
use Rattle.hessian_reader.proofs.work.Work.leaf_at_once.Goals as goal

pub returns-in_ok-give-in-Some-clause-leads : goal.returns-in_ok-give-in-Some-clause-leads
returns-in_ok-give-in-Some-clause-leads c =
    let w = c.args.self.now in
    let s = state_of w in
    let bytes = c.args.piece.now in
    let used = c.in-Some.used in
    let value = c.in-Some.value in
    let is : IsElement AnyValue (take used bytes) (Plain value) = subst (λ o. IfSome o (λ p. IsElement AnyValue (take p.1 bytes) (Plain p.0))) c.in-Some.is c.in_ok-value.ensures.is in
    let same = ap (λ b. record s { built = b }) c.in_ok-give-in-Some.ensures ∙ ap (λ q. record s { built = with_value s.built.open_nodes value s.built; place = q }) c.requires.here in
    leaf_leads s (state_of (record w { store = c.give.new.self })) value (take used bytes) c.requires.here c.requires.lacking is same

pub returns-in-None-clause-leads : goal.returns-in-None-clause-leads
returns-in-None-clause-leads c = here
