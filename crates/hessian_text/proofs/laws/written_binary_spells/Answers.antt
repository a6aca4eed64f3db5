use Rattle.hessian_text.proofs.ReadBack.{binary_spells}
use Rattle.hessian_text.proofs.laws.written_binary_spells.Goals as goal

pub returns : goal.returns
returns c = λ contents written small w. binary_spells contents written small w
