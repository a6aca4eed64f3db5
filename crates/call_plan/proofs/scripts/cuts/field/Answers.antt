use Rattle.call_plan.proofs.Fielding.{piece_of}
use Rattle.call_plan.proofs.scripts.cuts.field.Goals as goal

pub returns : goal.returns
returns c = piece_of c.args.bytes.now c.cut_at.result c.cut_at.ensures
