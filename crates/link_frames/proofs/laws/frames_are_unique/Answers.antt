use Rattle.link_frames.proofs.FramesLemmas.{frames_same, placed_same}
use Rattle.link_frames.proofs.laws.frames_are_unique.Goals as goal

pub returns-clause-frames : goal.returns-clause-frames
returns-clause-frames c = frames_same

pub returns-clause-placed : goal.returns-clause-placed
returns-clause-placed c = placed_same
