use Rattle.dubbo_play.proofs.first_texts.+skip_texts.Given as goal

-- proposed from what the function passes where it calls itself
abbrev pub decreases-skip_texts : goal.decreases-skip_texts
decreases-skip_texts l = l.count
