use Rattle.sd_store_laws.proofs.ShownStays.{twin_is_harmless_lem}
use Rattle.sd_store_laws.proofs.laws.merged_copy_leaves_shown.Goals as goal

pub returns : goal.returns
returns c = twin_is_harmless_lem
