use Rattle.hash_ring.proofs.Choosing.{chosen_after_taking}
use Rattle.hash_ring.proofs.laws.taking_out.Goals as goal

pub returns : goal.returns
returns c = chosen_after_taking
