use Rattle.hash_ring.proofs.Choosing.{chosen_in_any_order}
use Rattle.hash_ring.proofs.laws.order_is_free.Goals as goal

pub returns : goal.returns
returns c = chosen_in_any_order
