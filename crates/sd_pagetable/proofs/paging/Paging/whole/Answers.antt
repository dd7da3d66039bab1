use Rattle.std.proofs.Common.{subst}
use Rattle.sd_pagetable.specs.Contents.{AreWhole}
use Rattle.sd_pagetable.proofs.WholeLemmas.{pages_whole}
use Rattle.sd_pagetable.proofs.paging.Paging.whole.Goals as goal

pub returns : goal.returns
returns c = subst AreWhole c.self.view_is (pages_whole c.self.inside.frames c.self.inside.tables c.self.inside.mapped c.self.invariant c.whole.ensures)
