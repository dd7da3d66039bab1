use Rattle.sd_pagetable.proofs.LawEvents.{page_law}
use Rattle.sd_pagetable.proofs.law.page_law.Goals as goal

pub returns : goal.returns
returns c = page_law
