use Rattle.std.proofs.Common.{arith, refl, ap, subst, ◌∙◌, take, pos}
use Rattle.hessian_graph.specs.declared.value.Value.TheVariants.{Node}
use Rattle.hessian_text.proofs.Advancing.{rest_is}
use Rattle.hessian_reader.specs.declared.element.Element.TheVariants.{Number}
use Rattle.hessian_reader.specs.declared.element.Want.TheVariants.{AnInt}
use Rattle.hessian_reader.specs.Elements.{IsElement}
use Rattle.hessian_reader.specs.States.{with_value}
use Rattle.hessian_reader.specs.Steps.Leads.{here}
use Rattle.hessian_reader.specs.Views.{state_of}
use Rattle.hessian_reader.proofs.Runs.{refer_leads}
use Rattle.hessian_reader.proofs.work.Work.refer_at_once.Goals as goal

pub returns-in_ok-give-in-Some-clause-leads : goal.returns-in_ok-give-in-Some-clause-leads
returns-in_ok-give-in-Some-clause-leads c =
    let w = c.args.self.now in
    let s = state_of w in
    let piece = c.args.piece.now in
    let node = c.in-Some.node in
    let used = c.in-Some.used in
    let low = c.if-node-len.true in
    let count = c.len.ensures in
    let is = subst (λ r. IsElement AnInt (take used r) (Number (pos node))) (rest_is 1 piece) c.in-Some.ensures.is in
    let same = ap (λ b. record s { built = b }) c.in_ok-give-in-Some.ensures ∙ ap (λ q. record s { built = with_value s.built.open_nodes (Node node) s.built; place = q }) c.requires.here in
    refer_leads s piece c.requires.here c.requires.lacking c.requires.some (pos node) node used (state_of (record w { store = c.give.new.self })) c.requires.code is refl (omega (arith, low, count)) same

pub returns-in_default-clause-leads : goal.returns-in_default-clause-leads
returns-in_default-clause-leads c = here

pub returns-in_default-2-clause-leads : goal.returns-in_default-2-clause-leads
returns-in_default-2-clause-leads c = here
