use Rattle.sd_store_laws.proofs.Slots.{contents_show_lem}
use Rattle.sd_store_laws.proofs.laws.contents_show.Goals as goal

pub returns : goal.returns
returns c = contents_show_lem
