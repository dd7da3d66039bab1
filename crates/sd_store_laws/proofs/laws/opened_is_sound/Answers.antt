use Rattle.sd_store_laws.proofs.Opens.{opened_is_sound_lem}
use Rattle.sd_store_laws.proofs.laws.opened_is_sound.Goals as goal

pub returns : goal.returns
returns c = opened_is_sound_lem
