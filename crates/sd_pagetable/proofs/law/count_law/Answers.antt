use Rattle.sd_pagetable.proofs.CountLemmas.{few_below}
use Rattle.sd_pagetable.proofs.law.count_law.Goals as goal

pub returns : goal.returns
returns c = few_below
