use Rattle.sd_pagetable.proofs.FirstLemmas.{first_seen}
use Rattle.sd_pagetable.proofs.paging.Paging.first_from.Goals as goal

pub returns : goal.returns
returns c = first_seen c.self.inside.frames c.self.inside.tables c.args.self.now c.args.space c.self.view_is c.args.start c.first_from.result c.first_from.ensures
