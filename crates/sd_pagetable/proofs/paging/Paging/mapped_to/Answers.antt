use Rattle.sd_pagetable.proofs.RunKept.{page_there}
use Rattle.sd_pagetable.proofs.paging.Paging.mapped_to.Goals as goal

pub returns-clause-mapped : goal.returns-clause-mapped
returns-clause-mapped c = λ page l m. page_there c.self.inside.frames c.self.inside.tables c.args.self.now c.args.space page c.self.view_is (c.mapped_to.ensures.mapped page l m)
