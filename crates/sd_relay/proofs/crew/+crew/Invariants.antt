use Rattle.sd_relay.proofs.crew.+crew.Given as goal

-- fewer writers are still to be started
abbrev pub decreases-crew : goal.decreases-crew
decreases-crew g l = l.count
