use Rattle.dubbo_play.proofs.Joins.{texts_added, map_added}
use Rattle.dubbo_play.proofs.first_requests.write_attachments.Goals as goal

pub returns : goal.returns
returns c =
    map_added _ _ _ _ _ (c.in_ok-extend_from_slice.ensures {u = tt}).items
    (texts_added _ _ _ _ _ (c.in_ok-write_pair.ensures {u = tt})
    (texts_added _ _ _ _ _ (c.in_ok-write_pair-2.ensures {u = tt})
    (texts_added _ _ _ _ _ (c.in_ok-write_pair-3.ensures {u = tt}) (c.in_ok-write_pair-4.ensures {u = tt}))))
    (c.in_ok-extend_from_slice-2.ensures {u = tt}).items
