use Rattle.std.proofs.Common.{sym, subst, arith}
use Rattle.call_plan.specs.LineForms.{IsServiceLine}
use Rattle.call_plan.proofs.Saying.{service_cut, service_same, service_made}
use Rattle.call_plan.proofs.scripts.service_lines.read_service.Goals as goal

pub returns-in_default : goal.returns-in_default
returns-in_default c = λ row is. (c.in_default.ensures {u = tt}) _ (service_cut c.args.line.now row is) (omega arith)

pub returns-in_default-read_target : goal.returns-in_default-read_target
returns-in_default-read_target c = λ row is.
    let s = service_same c.args.line.now _ _ _ _ _ row (c.in-Some.ensures {u = tt}) is in
    (c.in_default-read_target.ensures {u = tt}) row.path row.version row.method row.desc is.target s.paths s.versions s.methods s.descs

pub returns-in_default-kind_of : goal.returns-in_default-kind_of
returns-in_default-kind_of c = λ row is.
    let s = service_same c.args.line.now _ _ _ _ _ row (c.in-Some.ensures {u = tt}) is in
    (c.in_default-kind_of.ensures {u = tt}) row.kind s.kinds

pub returns : goal.returns
returns c =
    let target = c.in-Some-read_target.ensures {u = tt} in
    subst (IsServiceLine c.args.line.now) (sym (c.in_ok-row.ensures {u = tt}))
    (service_made c.args.line.now _ _ _ _ _
    (record {
      path = c.in-Some-read_target.target.path.now;
      version = c.in-Some-read_target.target.version.now;
      method = c.in-Some-read_target.target.method.now;
      desc = c.in-Some-read_target.target.desc.now;
      kind = c.in-Some-kind_of.kind;
    })
    (c.in-Some.ensures {u = tt}) target.0
    (record { paths = target.1; versions = target.2; methods = target.3; descs = target.4; kinds = c.in-Some-kind_of.ensures {u = tt} }))
