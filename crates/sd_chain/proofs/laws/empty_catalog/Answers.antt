use Rattle.sd_chain.proofs.Growth.{empty_catalog_lem}
use Rattle.sd_chain.proofs.laws.empty_catalog.Goals as goal

pub returns : goal.returns
returns c = empty_catalog_lem
