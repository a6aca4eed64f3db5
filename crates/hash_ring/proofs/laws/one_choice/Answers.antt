use Rattle.hash_ring.proofs.Choosing.{chosen_once}
use Rattle.hash_ring.proofs.laws.one_choice.Goals as goal

pub returns : goal.returns
returns c = chosen_once
