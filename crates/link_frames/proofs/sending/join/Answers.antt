use Rattle.std.proofs.Common.{◌≡◌, length, arith}
use Rattle.link_frames.proofs.PausedLemmas.{front_of}
use Rattle.link_frames.proofs.SendingLemmas.{joined_front}
use Rattle.link_frames.proofs.sending.join.Goals as goal

pub returns-clause-front : goal.returns-clause-front
returns-clause-front c =
    let sixteen : length c.args.front.now ≡ 16 = omega arith in
    joined_front c.put.new.into c.put-2.new.into c.args.front.now c.args.body.now _ _ sixteen (front_of c.put.new.into c.args.front.now _ c.put.ensures sixteen) c.put-2.ensures
