use Rattle.call_plan.proofs.Wording.{word_is_text}
use Rattle.call_plan.proofs.scripts.words.word.Goals as goal

pub returns-in-Err : goal.returns-in-Err
returns-in-Err c = λ is. (c.in-Err.ensures {u = tt}).cases.0 (word_is_text c.args.field.now is)
