use Rattle.sd_store_laws.proofs.ShownStays.{unused_is_uncalled_lem}
use Rattle.sd_store_laws.proofs.laws.unused_is_uncalled.Goals as goal

pub returns : goal.returns
returns c = unused_is_uncalled_lem
