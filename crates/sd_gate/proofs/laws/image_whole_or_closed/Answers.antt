use Rattle.sd_gate.proofs.LawLemmas.{leaves_whole_or_closed}
use Rattle.sd_gate.proofs.laws.image_whole_or_closed.Goals as goal

pub returns : goal.returns
returns c = leaves_whole_or_closed
