use Rattle.sd_store_laws.proofs.Makers.{merged_repeats_lem}
use Rattle.sd_store_laws.proofs.live_laws.merged_repeats.Goals as goal

pub returns : goal.returns
returns c = merged_repeats_lem
