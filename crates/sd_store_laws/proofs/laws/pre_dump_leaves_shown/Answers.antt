use Rattle.sd_store_laws.proofs.ShownStays.{pre_dump_is_harmless_lem}
use Rattle.sd_store_laws.proofs.laws.pre_dump_leaves_shown.Goals as goal

pub returns : goal.returns
returns c = pre_dump_is_harmless_lem
