use Rattle.sd_pagetable.proofs.CleanLemmas.{clean_law}
use Rattle.sd_pagetable.proofs.law.clean_law.Goals as goal

pub returns : goal.returns
returns c = clean_law
