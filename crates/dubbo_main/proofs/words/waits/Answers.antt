use Rattle.std.proofs.Common.{◌≡◌, ◌≤◌, get_or, inl, inr, codes, length, subst, sym, ◌∙◌}
use Rattle.std.specs.Prelude.{string_bytes}
use Rattle.dubbo_main.proofs.TwoWords.{HasSecond-up}
use Rattle.dubbo_main.proofs.words.waits.Goals as goal

pub returns-in-len2-up : goal.returns-in-len2-up
returns-in-len2-up c =
    let items : c.as_slice.result.now ≡ c.args.words.now.items = c.as_slice.ensures.value in
    let two : 2 ≤ length c.args.words.now.items = subst (λ ws. 2 ≤ length ws) items c.in-len2-up.len_at_least in
    let item : c.command-item.result ≡ get_or c.args.words.now.items 1 c.command-item.result = subst (λ ws. c.command-item.result ≡ get_or ws 1 c.command-item.result) items c.command-item.is in
    let plays = HasSecond-up c.args.words.now.items c.command-item.result (codes "play") two item in
    let serves = HasSecond-up c.args.words.now.items c.command-item.result (codes "serve") two item in
    let bytes : c.deref.result.now ≡ string_bytes c.command-item.result = c.deref.ensures in (
      λ yes. elim (c.is_waiting.ensures.0 yes) [ inl play ↦ inl (plays.1 (sym bytes ∙ play)) | inr serve ↦ inr (serves.1 (sym bytes ∙ serve)) ],
      λ has. c.is_waiting.ensures.1 (elim has [ inl play ↦ inl (bytes ∙ plays.0 play) | inr serve ↦ inr (bytes ∙ serves.0 serve) ]),
    )
