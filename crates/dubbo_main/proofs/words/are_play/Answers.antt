use Rattle.std.proofs.Common.{◌≡◌, length, arith, sym, ◌∙◌}
use Rattle.std.specs.Prelude.{string_bytes}
use Rattle.dubbo_main.proofs.TwoWords.{IsPlay-two}
use Rattle.dubbo_main.proofs.words.are_play.Goals as goal

pub returns-in-len2 : goal.returns-in-len2
returns-in-len2 c =
    let two : length c.args.words.now ≡ 2 = omega (arith, c.in-len2.len_at_least, c.in-len2.len_below) in
    let both = IsPlay-two c.args.words.now c.command-item.result two c.command-item.is in
    let bytes : c.deref.result.now ≡ string_bytes c.command-item.result = c.deref.ensures in (
      λ named. both.1 (sym bytes ∙ c.is_play.ensures.0 named),
      λ play. c.is_play.ensures.1 (bytes ∙ both.0 play),
    )
