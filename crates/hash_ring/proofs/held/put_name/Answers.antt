use Rattle.std.proofs.lemmas.Result.{on_err_weaker}
use Rattle.hash_ring.specs.Held.{pairs}
use Rattle.hash_ring.proofs.Growing.{undone}
use Rattle.hash_ring.proofs.held.put_name.Goals as goal

pub returns-then-is_err-clause-no_points : goal.returns-then-is_err-clause-no_points
returns-then-is_err-clause-no_points c = on_err_weaker c.put_all-put.result
    (λ partly. undone c.args.name.now (pairs c.args.points.now) (pairs c.put_all-put.new.points) (pairs c.drop_points.new.points) c.requires partly c.drop_points.ensures)
    c.put_all-put.ensures.partly
