use Rattle.link_frames.proofs.ReadyLemmas.{first_of, unfinished_rest, broken_rest}
use Rattle.link_frames.proofs.laws.frames_one_by_one.Goals as goal

pub returns-clause-first : goal.returns-clause-first
returns-clause-first c = first_of

pub returns-clause-unfinished : goal.returns-clause-unfinished
returns-clause-unfinished c = unfinished_rest

pub returns-clause-broken : goal.returns-clause-broken
returns-clause-broken c = broken_rest
