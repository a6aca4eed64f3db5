use Rattle.std.proofs.Common.{◌≡◌, ◌+◌, ◌-◌, take, drop, refl, subst, arith, ◌++◌}
use Rattle.std.specs.List.{flat_map}
use Rattle.std.proofs.lemmas.Result.{on_ok_weaker}
use Rattle.graph_notation.specs.Elements.{hex_pair}
use Rattle.graph_notation.proofs.Runs.{pairs_on, pairs_end}
use Rattle.graph_notation.proofs.written_bytes.write_pairs.Goals as goal

pub loop-at-preserved : goal.loop-at-preserved
loop-at-preserved c =
    let bytes = c.args.bytes.now in
    let i = c.loop-at.at in
    let n = i + 64 - i in
    let there = c.loop-at-test.true in
    let next : i + n ≡ i + 64 = omega arith in
    record {
      within = omega (arith, there);
      written = subst (λ k. c.write_block.new.out.items ≡ c.args.out.now.items ++ flat_map hex_pair (take k bytes)) next
          (pairs_on bytes (take n (drop i bytes)) c.args.out.now.items c.loop-at.out.items c.write_block.new.out.items i n c.loop-at.invariant.written refl c.in_ok-write_block.ensures);
    }

pub returns : goal.returns
returns c = on_ok_weaker c.write_block-2.result (pairs_end c.args.bytes.now c.args.out.now.items c.loop-at.out.items c.write_block-2.new.out.items c.loop-at.at c.loop-at.invariant.written) c.write_block-2.ensures
