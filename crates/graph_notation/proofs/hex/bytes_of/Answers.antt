use Rattle.std.proofs.Common.{◌≡◌, ℕ, ◌+◌, ◌*◌, ◌%◌, ◌++◌, length, get_or, take, drop, length-set, length-append, sym, ap, ◌∙◌, arith, inl, inr}
use Rattle.std.proofs.lemmas.Bool.{cases_lt}
use Rattle.std.proofs.Math.ListN.{get_or-append}
use Rattle.std.proofs.Math.Seq.{drop-append_seam}
use Rattle.std.proofs.lemmas.List.{take_all, length-replicate}
use Rattle.graph_notation.specs.Unquoting.{digit_of, below_16, behind, unhexed}
use Rattle.graph_notation.proofs.Digits.{behind_none}
use Rattle.graph_notation.proofs.HexBlocks.{two_on, two_off}
use Rattle.graph_notation.proofs.hex.bytes_of.Goals as goal

pub loop-at-init : goal.loop-at-init
loop-at-init c = record {
  long = length-replicate {A = ℕ} 32 0;
  good = λ rest m. sym (behind_none (unhexed (c.args.block.now ++ rest)));
  bad = λ rest m. absurd (omega (arith, m));
}

pub loop-at-preserved : goal.loop-at-preserved
loop-at-preserved c =
    let block = c.args.block.now in
    let bytes = c.loop-at.bytes in
    let at = c.loop-at.at in
    let high = c.nibble-high.result in
    let low = c.nibble-low.result in
    let long = c.loop-at.invariant.long in
    let few = c.requires in
    let there = c.loop-at-test.true in
    let greatest = c.max.ensures in
    let greater = c.max-most.ensures in
    record {
      long = length-set bytes at (high % 16 * 16 + low % 16) ∙ long;
      good = λ rest m.
          let n = length-append block rest in
          two_on (block ++ rest) bytes at high low (omega (arith, n, few, there)) (omega (arith, long, there)) (c.loop-at.invariant.good rest (omega (arith, greatest, greater, m)))
          (ap digit_of (get_or-append block rest 0 (2 * at) (omega (arith, few, there))) ∙ c.nibble-high.ensures)
          (ap digit_of (get_or-append block rest 0 (2 * at + 1) (omega (arith, few, there))) ∙ c.nibble-low.ensures)
          (omega (arith, greatest, greater, m)) (omega (arith, greatest, greater, m));
      bad = λ rest m.
          let n = length-append block rest in
          let e : digit_of (get_or (block ++ rest) (2 * at) 0) ≡ below_16 high = ap digit_of (get_or-append block rest 0 (2 * at) (omega (arith, few, there))) ∙ c.nibble-high.ensures in
          let f : digit_of (get_or (block ++ rest) (2 * at + 1) 0) ≡ below_16 low = ap digit_of (get_or-append block rest 0 (2 * at + 1) (omega (arith, few, there))) ∙ c.nibble-low.ensures in
          elim (cases_lt c.loop-at.most 16) [
            | inl h ↦ elim (cases_lt high 16) [
              | inl l ↦ two_off (block ++ rest) (take at bytes) at high low (omega (arith, n, few, there)) (c.loop-at.invariant.good rest h) e f (inr (omega (arith, greatest, greater, m, h, l)))
              | inr l ↦ two_off (block ++ rest) (take at bytes) at high low (omega (arith, n, few, there)) (c.loop-at.invariant.good rest h) e f (inl l)
            ]
            | inr h ↦ c.loop-at.invariant.bad rest h
          ];
    }

pub returns-then-most-lt16 : goal.returns-then-most-lt16
returns-then-most-lt16 c = λ rest.
    let block = c.args.block.now in
    let at = c.loop-at.at in
    let low = c.loop-at-test.false in
    let end = c.loop-at.auto.at-end in
    let few = c.requires in
    let n : 2 * at ≡ length block = omega (arith, low, end, few) in
    let long = c.loop-at.invariant.long in
    c.loop-at.invariant.good rest c.if-most-lt16.true
    ∙ ap (λ x. behind x (unhexed (drop (2 * at) (block ++ rest)))) (take_all at c.loop-at.bytes (omega (arith, long, low)))
    ∙ ap (λ k. behind c.loop-at.bytes (unhexed (drop k (block ++ rest)))) n
    ∙ ap (λ x. behind c.loop-at.bytes (unhexed x)) (drop-append_seam block rest)

pub returns-else-most-lt16 : goal.returns-else-most-lt16
returns-else-most-lt16 c = λ rest. c.loop-at.invariant.bad rest c.if-most-lt16.false
