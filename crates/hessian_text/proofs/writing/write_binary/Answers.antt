use Rattle.std.proofs.lemmas.Result.{on_ok_weaker}
use Rattle.hessian_text.proofs.Writings.{appends_binary}
use Rattle.hessian_text.proofs.writing.write_binary.Goals as goal

pub returns-else-is_err-clause-ok : goal.returns-else-is_err-clause-ok
returns-else-is_err-clause-ok c = on_ok_weaker c.append_plain-outcome.result (appends_binary c.args.out.now.items c.args.bytes.now c.append_plain-outcome.new.out.items) c.append_plain-outcome.ensures.ok
