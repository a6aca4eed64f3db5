use Rattle.std.proofs.Common.{◌≡◌, suc, ◌+◌, get_or, drop, ap, ◌∙◌, true, arith}
use Rattle.std.specs.Prelude.{nat_eq, false, if◌then◌else◌}
use Rattle.graph_notation.specs.Lexing.{token_length, word_run, closing}
use Rattle.graph_notation.specs.Tokens.{is_word_byte}
use Rattle.graph_notation.proofs.Cutting.{first_byte, run_on, figure_on}
use Rattle.graph_notation.proofs.SmallNumbers.{first_here, more_here}
use Rattle.graph_notation.proofs.short_numbers.short_number.Goals as goal

pub loop-end-init : goal.loop-end-init
loop-end-init c =
    let text = c.args.text.now in
    let at = c.args.at in
    let there = c.requires in
    let low = c.if-text-at-le48.false in
    let high = c.if-text-at-gt57.false in
    let is = c.from-value.ensures in
    let on : is_word_byte (get_or text at 0) ≡ true = figure_on (get_or text at 0) (omega (arith, low)) (omega (arith, high)) in
    let long : token_length (drop at text) ≡ suc (word_run (drop (at + 1) text)) = first_byte text at there ∙ ap (λ b. if b then suc (word_run (drop (at + 1) text)) else (if nat_eq (get_or text at 0) 0x22 then suc (closing false (drop (at + 1) text)) else 1)) on in
    record {
      onward = omega arith;
      within = omega (arith, there);
      some = omega (arith, is, low);
      few = omega (arith, is, high);
      written = first_here text at c.from-value.result there (omega (arith, low)) (omega (arith, is, high)) (omega (arith, is));
      run = omega (arith, long);
    }

pub loop-end-preserved : goal.loop-end-preserved
loop-end-preserved c =
    let text = c.args.text.now in
    let at = c.args.at in
    let end = c.loop-end.end in
    let there = c.loop-end-test.true in
    let low = c.if-text-end-ge48.true in
    let high = c.if-text-end-le57.true in
    let small = c.if-value-ge100000000.false in
    let is = c.from.ensures in
    let i = c.loop-end.invariant in
    let long : word_run (drop end text) ≡ suc (word_run (drop (end + 1) text)) = run_on text end there (figure_on (get_or text end 0) (omega (arith, low)) (omega (arith, high))) in
    record {
      onward = omega (arith, i.onward);
      within = omega (arith, there);
      some = omega (arith, i.some);
      few = omega (arith, small, is, high);
      written = more_here text at end c.loop-end.value c.from.result i.onward there i.written i.some (omega (arith, small)) (omega (arith, is, high)) (omega (arith, low)) (omega (arith, is));
      run = omega (arith, i.run, long);
    }
