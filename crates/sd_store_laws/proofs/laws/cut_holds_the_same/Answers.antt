use Rattle.sd_store_laws.proofs.Cuts.{cut_holds_the_same_lem}
use Rattle.sd_store_laws.proofs.laws.cut_holds_the_same.Goals as goal

pub returns : goal.returns
returns c = cut_holds_the_same_lem
