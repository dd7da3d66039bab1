use Rattle.std.proofs.Common.{refl, ap, ◌∙◌, arith}
use Rattle.sd_pagetable.specs.Nested.{put_at}
use Rattle.sd_pagetable.proofs.MemoryLemmas.{put_again}
use Rattle.sd_pagetable.proofs.paging.protect_entry.Goals as goal

pub replace-requires : goal.replace-requires
replace-requires c = rw c.requires refl

pub returns-then-entry : goal.returns-then-entry
returns-then-entry c = c.replace.ensures ∙ ap (put_at c.args.tables.now c.args.space c.args.page) c.write_protected.ensures

pub returns-else-entry : goal.returns-else-entry
returns-else-entry c = grind (arith, put_again)
