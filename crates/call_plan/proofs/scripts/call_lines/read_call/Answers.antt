use Rattle.std.proofs.Common.{sym, subst, arith}
use Rattle.call_plan.specs.LineForms.{IsCallLine, SayNumbers}
use Rattle.call_plan.proofs.Arguing.{argument_short}
use Rattle.call_plan.proofs.Calling.{numbers_there, field_there, arguments_there, call_made}
use Rattle.call_plan.proofs.Saying.{call_cut, call_same}
use Rattle.call_plan.proofs.scripts.call_lines.read_call.Goals as goal

pub returns-in_default-clause-says : goal.returns-in_default-clause-says
returns-in_default-clause-says c = λ call is. (c.in_default.ensures {u = tt}) _ (call_cut c.args.number c.args.line.now call is) (omega arith)

pub returns-in_default-read_settings-clause-says : goal.returns-in_default-read_settings-clause-says
returns-in_default-read_settings-clause-says c = λ call is.
    let s = call_same c.args.number c.args.line.now _ _ _ _ _ _ _ _ _ call (c.in-Some.ensures {u = tt}) is in
    (c.in_default-read_settings.ensures {u = tt}) call.mode call.timeout call.retries call.forks s.modes (numbers_there s)

pub returns-in_default-read_target-clause-says : goal.returns-in_default-read_target-clause-says
returns-in_default-read_target-clause-says c = λ call is.
    let s = call_same c.args.number c.args.line.now _ _ _ _ _ _ _ _ _ call (c.in-Some.ensures {u = tt}) is in
    (c.in_default-read_target.ensures {u = tt}) call.request.path call.request.version call.request.method call.request.desc is.target s.paths s.versions s.methods s.descs

pub arguments-requires : goal.arguments-requires
arguments-requires c = argument_short c.args.line.now _ _ _ _ _ _ _ _ c.in-Some.fields.arguments (c.in-Some.ensures {u = tt}) c.requires

pub returns-in_default-2-clause-says : goal.returns-in_default-2-clause-says
returns-in_default-2-clause-says c = λ call is.
    let s = call_same c.args.number c.args.line.now _ _ _ _ _ _ _ _ _ call (c.in-Some.ensures {u = tt}) is in
    let target = c.in-Some-read_target.ensures {u = tt} in
    let none = rw c.in_default-2.is at ((c.in_ok-args.ensures {u = tt}).says) in
    none is.count is.notation call.request.args (arguments_there s c.in-Some-read_target.target.desc.now target.0.is_desc target.4) (field_there s)

pub returns-clause-says : goal.returns-clause-says
returns-clause-says c =
    let settings = c.in-Some-read_settings.ensures {u = tt} in
    let target = c.in-Some-read_target.ensures {u = tt} in
    let args = rw c.in-Some-2.is at ((c.in_ok-args.ensures {u = tt}).says) in
    let numbers : SayNumbers c.in-Some.fields.timeout.now c.in-Some.fields.retries.now c.in-Some.fields.forks.now c.from-timeout.result c.in-Some-read_settings.said.retries c.in-Some-read_settings.said.forks
    = subst (λ n. SayNumbers c.in-Some.fields.timeout.now c.in-Some.fields.retries.now c.in-Some.fields.forks.now n c.in-Some-read_settings.said.retries c.in-Some-read_settings.said.forks) (sym c.from-timeout.ensures) settings.1 in
    subst (λ request. IsCallLine c.args.number c.args.line.now (record {
      line = c.args.number;
      request = request;
      mode = c.in-Some-read_settings.said.mode;
      timeout = c.from-timeout.result;
      retries = c.in-Some-read_settings.said.retries;
      forks = c.in-Some-read_settings.said.forks;
    })) (sym (c.in_ok-request.ensures {u = tt}))
    (call_made c.args.number c.args.line.now _ _ _ _ _ _ _ _ _ c.in-Some-read_settings.said.mode c.from-timeout.result c.in-Some-read_settings.said.retries c.in-Some-read_settings.said.forks
    c.in-Some-read_target.target.path.now c.in-Some-read_target.target.version.now c.in-Some-read_target.target.method.now c.in-Some-read_target.target.desc.now args.0 args.1 c.in-Some-2.args
    (c.in-Some.ensures {u = tt}) settings.0 numbers target.0 target.1 target.2 target.3 target.4 args.2 args.3)
