use Rattle.link_frames.proofs.FramesLemmas.{prefix_first}
use Rattle.link_frames.proofs.laws.frames_of_a_prefix.Goals as goal

pub returns : goal.returns
returns c = prefix_first
