use Rattle.sd_pagetable.proofs.ClearLemmas.{clear_changes_one_page}
use Rattle.sd_pagetable.proofs.law.clear_law.Goals as goal

pub returns : goal.returns
returns c = clear_changes_one_page
