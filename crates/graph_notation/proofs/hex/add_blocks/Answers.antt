use Rattle.std.proofs.Common.{◌+◌, ◌-◌, take, drop, refl, subst, ◌≡◌, ◌∙◌, ap, sym, arith}
use Rattle.graph_notation.specs.Unquoting.{unhexed, behind}
use Rattle.graph_notation.proofs.Digits.{behind_none}
use Rattle.graph_notation.proofs.HexBlocks.{block_on, block_off}
use Rattle.graph_notation.proofs.hex.add_blocks.Goals as goal

pub loop-at-init : goal.loop-at-init
loop-at-init c =
    let digits = c.args.digits.now in
    record { within = omega arith; so_far = sym (behind_none (unhexed digits)) ∙ ap (λ x. behind x (unhexed digits)) (sym c.requires) }

pub loop-at-preserved : goal.loop-at-preserved
loop-at-preserved c =
    let digits = c.args.digits.now in
    let at = c.loop-at.at in
    let n = at + 64 - at in
    let next : at + n ≡ at + 64 = omega arith in
    let there = c.loop-at-test.true in
    record {
      within = omega (arith, there);
      so_far = subst (λ k. unhexed digits ≡ behind c.extend_from_slice.new.self.items (unhexed (drop k digits))) next
          (block_on digits (take n (drop at digits)) c.in-Some.bytes c.loop-at.out.items c.extend_from_slice.new.self.items at n refl (c.in-Some.ensures {u = tt}) c.loop-at.invariant.so_far (c.in_ok-extend_from_slice-in-Some.ensures {u = tt}).items);
    }

pub returns-in-None : goal.returns-in-None
returns-in-None c =
    let digits = c.args.digits.now in
    let at = c.loop-at.at in
    let n = at + 64 - at in
    block_off digits (take n (drop at digits)) c.loop-at.out.items at n refl (c.in-None.ensures {u = tt}) c.loop-at.invariant.so_far
