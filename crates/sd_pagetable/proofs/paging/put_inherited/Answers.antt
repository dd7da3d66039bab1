use Rattle.std.proofs.Common.{◌∙◌, sym}
use Rattle.sd_pagetable.proofs.TableLemmas.{none_of}
use Rattle.sd_pagetable.proofs.MemoryLemmas.{put_again}
use Rattle.sd_pagetable.proofs.paging.put_inherited.Goals as goal

pub returns-else-is_some : goal.returns-else-is_some
returns-else-is_some c = sym (put_again c.args.tables.now c.args.child c.args.page c.args.entry (c.requires.bare (none_of c.args.entry.frame (sym c.is_some.ensures ∙ c.if-is_some.false))))
