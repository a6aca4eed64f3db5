use Rattle.link_frames.proofs.FramesLemmas.{joined_whole}
use Rattle.link_frames.proofs.laws.frames_of_joined.Goals as goal

pub returns : goal.returns
returns c = joined_whole
