use Rattle.std.proofs.Common.{take, refl}
use Rattle.hessian_reader.specs.Views.{state_of}
use Rattle.hessian_reader.proofs.Runs.{if_ok, gives_lead}
use Rattle.hessian_reader.proofs.work.Work.known_values.Goals as goal

pub returns-clause-leads : goal.returns-clause-leads
returns-clause-leads c =
    let w = c.args.self.now in
    if_ok c.take_values.result (λ used gives. gives_lead (state_of w) (state_of (record w { store = c.take_values.new.self })) (take used c.args.piece.now) c.requires.here c.requires.here refl gives) c.take_values.ensures.gives
