use Rattle.std.proofs.Common.{ℕ, ◌<◌, List, get_or, IsUtf8}
use Rattle.hessian_writer.proofs.carried.texts_are_carried.Given as goal

abbrev pub invariant-loop-text : goal.invariant-loop-text
invariant-loop-text l = (k : ℕ) (d : List ℕ) → k < l.text-index → IsUtf8 (get_or l.texts k d)
