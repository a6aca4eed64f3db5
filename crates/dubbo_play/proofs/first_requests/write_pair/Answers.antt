use Rattle.dubbo_play.proofs.Joins.{no_text_added, text_added}
use Rattle.dubbo_play.proofs.first_requests.write_pair.Goals as goal

pub returns : goal.returns
returns c =
    text_added _ _ _ _ _ (c.in_ok-write_text.ensures {u = tt}).ok
    (text_added _ _ _ _ _ (c.in_ok-write_text-2.ensures {u = tt}).ok (no_text_added _))
