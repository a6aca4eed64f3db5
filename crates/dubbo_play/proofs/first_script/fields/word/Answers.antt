use Rattle.std.proofs.Common.{◌≡◌, true, false, refl, subst, sym, ◌∙◌}
use Rattle.dubbo_play.specs.FirstForm.{IsWord}
use Rattle.dubbo_play.proofs.Cuts.{cut_once, unmarked}
use Rattle.dubbo_play.proofs.Targets.{unspaced, word_is_text}
use Rattle.dubbo_play.proofs.first_script.fields.word.Goals as goal

pub returns-in_err-word : goal.returns-in_err-word
returns-in_err-word c = rw c.from_residual.ensures
    (λ w rest is same. unmarked 32 c.args.bytes.now w rest c.in_err-word.ensures same)

pub returns-then-not-is_word : goal.returns-then-not-is_word
returns-then-not-is_word c = λ w rest is same.
    let cut = cut_once 32 w c.in_ok-word.word.now rest c.in_ok-word.rest.now (unspaced w is)
    c.in_ok-word.ensures.0 (sym same ∙ c.in_ok-word.ensures.1) in
    let no : false ≡ true = (c.if-not-is_word.ensures {u = tt}).1 (subst IsWord cut.0 is) in
    cc

pub returns-in-Err : goal.returns-in-Err
returns-in-Err c = absurd ((c.in-Err.ensures {u = tt}).cases.0 (word_is_text c.in_ok-word.word.now ((c.if-not-is_word.ensures {u = tt}).0 refl)))
