use Rattle.sd_pagetable.proofs.LawLemmas.{tracks_law}
use Rattle.sd_pagetable.proofs.law.tracks_law.Goals as goal

pub returns : goal.returns
returns c = tracks_law
