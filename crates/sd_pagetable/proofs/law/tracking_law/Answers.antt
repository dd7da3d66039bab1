use Rattle.sd_pagetable.proofs.LawLemmas.{bits_law, try_law}
use Rattle.sd_pagetable.proofs.law.tracking_law.Goals as goal

pub returns : goal.returns
returns c = (bits_law, try_law)
