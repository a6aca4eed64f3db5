use Rattle.std.proofs.Common.{◌≡◌, ◌-◌, ◌≤◌, length, drop}
use Rattle.graph_notation.specs.declared.contents.Mode.TheVariants.{Plain}
use Rattle.graph_notation.specs.Unquoting.{unquoted, behind, Small}
use Rattle.graph_notation.proofs.contents.unquote.Given as goal

abbrev pub invariant-loop-at : goal.invariant-loop-at
invariant-loop-at l = record { within : l.at ≤ length l.inner; small : Small l.mode; so_far : unquoted Plain l.inner ≡ behind l.out.items (unquoted l.mode (drop l.at l.inner)) }

abbrev pub decreases-loop-at : goal.decreases-loop-at
decreases-loop-at l = length l.inner - l.at
