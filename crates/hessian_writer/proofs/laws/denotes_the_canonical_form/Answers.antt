use Rattle.hessian_writer.proofs.LeafLaws.{denoted}
use Rattle.hessian_writer.proofs.laws.denotes_the_canonical_form.Goals as goal

pub returns : goal.returns
returns c = λ bound g form bytes w canon few. denoted bound g form bytes w canon few
