use Rattle.sd_store_laws.proofs.Makers.{dump_shows_lem}
use Rattle.sd_store_laws.proofs.live_laws.dump_shows.Goals as goal

pub returns : goal.returns
returns c = dump_shows_lem
