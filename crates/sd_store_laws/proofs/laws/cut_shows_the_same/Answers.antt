use Rattle.sd_store_laws.proofs.Cuts.{cut_shows_the_same_lem}
use Rattle.sd_store_laws.proofs.laws.cut_shows_the_same.Goals as goal

pub returns : goal.returns
returns c = cut_shows_the_same_lem
