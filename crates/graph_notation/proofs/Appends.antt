-- What is appended twice is appended.
use Rattle.std.proofs.Common.{ℕ, List, ◌++◌, ap, ◌∙◌, append_assoc}
use Rattle.graph_notation.specs.Appending.{BeginsWith}

pub begins_on : (old mid new : List ℕ) → BeginsWith old mid → BeginsWith mid new → BeginsWith old new
begins_on old mid new a b = record { more = a.more ++ b.more; appended = b.appended ∙ ap (λ x. x ++ b.more) a.appended ∙ append_assoc old a.more b.more }
