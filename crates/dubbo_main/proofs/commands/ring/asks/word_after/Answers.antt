use Rattle.std.proofs.Common.{◌≡◌, true, false, refl, subst, sym, ◌∙◌}
use Rattle.std.proofs.lemmas.List.{append_cancel_left}
use Rattle.hash_ring.specs.Names.{IsName}
use Rattle.dubbo_main.proofs.RingNames.{name_is_text}
use Rattle.dubbo_main.proofs.commands.ring.asks.word_after.Goals as goal

pub returns-then-not-is_word : goal.returns-then-not-is_word
returns-then-not-is_word c = λ word is same.
    let one : word ≡ c.in_ok-word.word.now = append_cancel_left c.args.text.now word c.in_ok-word.word.now (sym same ∙ c.in_ok-word.ensures) in
    let no : false ≡ true = (c.if-not-is_word.ensures {u = tt}).1 (subst IsName one is) in
    cc

pub returns-in-Err : goal.returns-in-Err
returns-in-Err c = absurd ((c.in-Err.ensures {u = tt}).cases.0 (name_is_text c.in_ok-word.word.now ((c.if-not-is_word.ensures {u = tt}).0 refl)))
