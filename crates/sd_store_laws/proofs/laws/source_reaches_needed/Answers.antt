use Rattle.sd_store_laws.proofs.Stays.{source_reaches_needed_lem}
use Rattle.sd_store_laws.proofs.laws.source_reaches_needed.Goals as goal

pub returns : goal.returns
returns c = source_reaches_needed_lem
