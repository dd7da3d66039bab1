use Rattle.sd_fold.proofs.OverLemmas.{page_by}
use Rattle.sd_fold.proofs.changes.page_with.Goals as goal

pub returns-in-None : goal.returns-in-None
returns-in-None c = page_by c.args.changes.now.entries c.args.pages.now.entries c.args.number c.page_in-in-None.result (rw c.in-None.is at c.page_in.ensures) c.page_in-in-None.ensures
