use Rattle.std.proofs.Common.{◌≡◌, ◌∷◌, map, length, take, drop, ◌-◌, sym, ap, ◌∙◌}
use Rattle.std.specs.Prelude.{string_bytes}
use Rattle.dubbo_main.proofs.Led.{first_up}
use Rattle.dubbo_main.proofs.options.first_option.Goals as goal

pub returns-in-len1-up : goal.returns-in-len1-up
returns-in-len1-up c =
    let rest = map string_bytes (take (length c.args.options.now - 1) (drop 1 c.args.options.now)) in
    let words : map string_bytes c.args.options.now ≡ c.as_bytes.result.now ∷ rest =
    first_up c.args.options.now c.word-item.result c.in-len1-up.len_at_least c.word-item.is ∙ ap (λ w. w ∷ rest) (sym c.as_bytes.ensures.value) in
    rw words c.option_of.ensures
