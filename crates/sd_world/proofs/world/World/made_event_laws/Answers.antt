use Rattle.sd_world.proofs.MadeLemmas as lemmas
use Rattle.sd_world.proofs.world.World.made_event_laws.Goals as goal

pub returns-clause-step : goal.returns-clause-step
returns-clause-step g c = lemmas.made_is_step c.writes_commute.ensures c.left_as_believed.ensures c.contents_show.ensures g.D.Disk

pub returns-clause-counts : goal.returns-clause-counts
returns-clause-counts g c = lemmas.made_counts c.writes_commute.ensures c.left_as_believed.ensures c.contents_show.ensures g.D.Disk
