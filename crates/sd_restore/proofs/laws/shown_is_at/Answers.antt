use Rattle.sd_restore.proofs.AtLemmas.{shown_at}
use Rattle.sd_restore.proofs.laws.shown_is_at.Goals as goal

pub returns : goal.returns
returns c = shown_at
