use Rattle.std.proofs.Common.{subst}
use Rattle.std.specs.Prelude.{OnOk}
use Rattle.std.proofs.lemmas.Result.{on_ok_weaker}
use Rattle.hessian_text.specs.declared.stage.Kind.TheVariants.{Text}
use Rattle.hessian_text.specs.Written.{AppendsPlain}
use Rattle.hessian_text.proofs.Writings.{appends_ascii}
use Rattle.hessian_text.proofs.writing.append_text.Goals as goal

pub returns-then-is_ascii-clause-ok : goal.returns-then-is_ascii-clause-ok
returns-then-is_ascii-clause-ok c =
    let old = c.args.out.now.items in
    let new = c.append_plain.new.out.items in
    on_ok_weaker c.append_plain.result (appends_ascii old c.args.text.now new c.if-is_ascii.ensures.cases) (subst (λ x. OnOk c.append_plain.result (AppendsPlain Text old x new)) c.as_bytes.ensures.value c.append_plain.ensures.ok)
