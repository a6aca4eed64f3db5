use Rattle.hessian_text.proofs.TextBack.{text_spells}
use Rattle.hessian_text.proofs.laws.written_text_spells.Goals as goal

pub returns : goal.returns
returns c = λ text written w. text_spells text written w
