use Rattle.sd_world.proofs.TicketLemmas as lemmas
use Rattle.sd_world.proofs.world.World.tickets_last.Goals as goal

pub returns : goal.returns
returns g c = lemmas.tickets_last g.D.Disk
