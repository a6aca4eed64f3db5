use Rattle.std.proofs.Common.{◌≡◌, arith, sym, subst, refl, ◌∙◌, Some}
use Rattle.std.specs.Prelude.{slice_index}
use Rattle.hessian_reader.specs.declared.element.Head.TheVariants as heads
use Rattle.hessian_reader.specs.declared.store.Lacks.TheVariants.{Count}
use Rattle.hessian_reader.specs.declared.table.Sort.TheVariants as sorts
use Rattle.hessian_reader.specs.Codes.{head_of}
use Rattle.hessian_reader.specs.States.{begins_node}
use Rattle.hessian_reader.specs.Steps.Leads.{here}
use Rattle.hessian_reader.specs.Views.{state_of}
use Rattle.hessian_reader.proofs.Runs.{object_leads, run_more}
use Rattle.hessian_reader.proofs.work.Work.object_at_once.Goals as goal

pub returns-then-len-ge-NODE_LIMIT-clause-leads : goal.returns-then-len-ge-NODE_LIMIT-clause-leads
returns-then-len-ge-NODE_LIMIT-clause-leads c = here

pub returns-in_ok-more-in-Some-clause-leads : goal.returns-in_ok-more-in-Some-clause-leads
returns-in_ok-more-in-Some-clause-leads c =
    let piece = c.args.piece.now in
    let low = c.if-len-ge-NODE_LIMIT.false in
    let count = c.len.ensures in
    let code = subst (λ n. head_of (slice_index piece 0) ≡ Some (heads.ShortObject n)) (sym c.from-class.ensures) c.requires.code in
    let begun = begins_node (Count c.in-Some.count) (sorts.Object c.from-class.result) (state_of c.args.self.now) in
    let first = object_leads (state_of c.args.self.now) piece c.requires.here c.requires.lacking c.requires.some c.from-class.result c.in-Some.count begun code (sym c.fields_of.ensures ∙ c.in-Some.is) (omega (arith, low, count)) refl in
    run_more (state_of c.args.self.now) begun (state_of c.begin_with_values.new.self) piece 1 c.in_ok-more-in-Some.more first c.in_ok-more-in-Some.ensures.leads

pub returns-in-None-clause-leads : goal.returns-in-None-clause-leads
returns-in-None-clause-leads c = here
