use Rattle.std.proofs.Common.{◌≡◌, ◌-◌, ◌+◌, arith, length, take, drop, ap, subst, ◌∙◌}
use Rattle.std.proofs.lemmas.List.{length-drop}
use Rattle.hessian_text.proofs.Advancing.{rest_is}
use Rattle.hessian_reader.specs.Steps.{Leads}
use Rattle.hessian_reader.specs.Steps.Leads.{here}
use Rattle.hessian_reader.specs.Views.{state_of}
use Rattle.hessian_reader.proofs.Runs.{run_more}
use Rattle.hessian_reader.proofs.work.Work.take_run.Goals as goal

pub loop-taken-init : goal.loop-taken-init
loop-taken-init c = record { low = omega arith; place = c.requires.here; leads = here }

pub returns-then-used-eq0-clause-leads : goal.returns-then-used-eq0-clause-leads
returns-then-used-eq0-clause-leads c =
    let w = c.args.self.now in
    let n = c.loop-taken.taken in
    let piece = c.args.piece.now in
    let none = c.if-used-eq0.true in
    let same : n + c.in_ok-used.used ≡ n = omega (arith, none) in
    subst (λ k. Leads (state_of w) (take k piece) (state_of c.take_next.new.self)) same
    (run_more (state_of w) (state_of c.loop-taken.self) (state_of c.take_next.new.self) piece n c.in_ok-used.used c.loop-taken.invariant.leads c.in_ok-used.ensures.leads)

pub loop-taken-preserved : goal.loop-taken-preserved
loop-taken-preserved c =
    let w = c.args.self.now in
    let n = c.loop-taken.taken in
    let piece = c.args.piece.now in
    let test = c.loop-taken-test.true in
    let inner : length (take (length piece - n) (drop n piece)) ≡ length piece - n = ap length (rest_is n piece) ∙ length-drop n piece in
    let within = c.in_ok-used.ensures.within in
    record {
      low = omega (arith, test, inner, within);
      place = c.in_ok-used.ensures.place;
      leads = run_more (state_of w) (state_of c.loop-taken.self) (state_of c.take_next.new.self) piece n c.in_ok-used.used c.loop-taken.invariant.leads c.in_ok-used.ensures.leads;
    }
