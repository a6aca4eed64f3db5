use Rattle.hash_ring.proofs.Choosing.{chosen_after_putting}
use Rattle.hash_ring.proofs.laws.putting_in.Goals as goal

pub returns : goal.returns
returns c = chosen_after_putting
