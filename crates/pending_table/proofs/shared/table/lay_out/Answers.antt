use Rattle.std.proofs.Common.{◌≡◌, ℕ, ◌+◌, ◌*◌, ◌∙◌, replicate}
use Rattle.pending_table.proofs.SharedFirst.{first_keeps}
use Rattle.pending_table.proofs.SharedZeros.{zeros, zeros_count}
use Rattle.pending_table.proofs.shared.table.lay_out.Goals as goal

pub vacant-requires : goal.vacant-requires
vacant-requires g c =
    let count : ℕ = 2 * c.args.slots + 1 in
    let all : c.deref.result.now ≡ replicate count 0 = c.deref.ensures.value ∙ c.in_ok-words.ensures.items_if_clones_equal (λ y same. same) in
    first_keeps g.R.Meaning.fits c.of.result.value c.args.slots c.deref.result.now c.requires (zeros_count c.deref.result.now count all) (zeros c.deref.result.now count all)
