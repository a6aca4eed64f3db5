use Rattle.std.proofs.Common.{◌≡◌, ◌∷◌, ◌-◌, take, drop, map, length, sym, ap, ◌∙◌}
use Rattle.std.specs.Prelude.{string_bytes}
use Rattle.dubbo_main.proofs.Led.{second_up}
use Rattle.dubbo_main.proofs.OneCommand.{names_of}
use Rattle.dubbo_main.proofs.words.plain_command.Goals as goal

pub returns-in-len2-up : goal.returns-in-len2-up
returns-in-len2-up c =
    let up = second_up c.as_slice.result.now c.word-item.result c.in-len2-up.len_at_least c.word-item.is in
    let rest = map string_bytes (take (length c.as_slice.result.now - 2) (drop 2 c.as_slice.result.now)) in
    let words : map string_bytes c.args.words.now.items ≡ up.0 ∷ c.deref.result.now ∷ rest =
    ap (λ ws. map string_bytes ws) (sym c.as_slice.ensures.value) ∙ up.1 ∙ ap (λ w. up.0 ∷ w ∷ rest) (sym c.deref.ensures) in
    names_of (map string_bytes c.args.words.now.items) up.0 c.deref.result.now rest c.command_of.result words c.command_of.ensures
