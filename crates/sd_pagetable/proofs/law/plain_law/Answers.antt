use Rattle.sd_pagetable.proofs.PlainLaws.{plain_is}
use Rattle.sd_pagetable.proofs.law.plain_law.Goals as goal

pub returns : goal.returns
returns c = plain_is
