use Rattle.sd_pagetable.specs.Contents.{page_at}
use Rattle.sd_pagetable.specs.View.{entry_of}
use Rattle.sd_pagetable.proofs.RangeSteps.{seen_there, dropped_there, dropped_hole}
use Rattle.sd_pagetable.proofs.ranges.drop_page.Goals as goal

pub returns-then-is_some : goal.returns-then-is_some
returns-then-is_some c = dropped_there c.args.paging.now c.remove.new.self c.args.space c.args.page c.requires.alive
    (seen_there entry_of (page_at c.args.paging.now c.args.space c.args.page) c.entry.result _ c.entry.ensures.value c.if-is_some.ensures) c.remove.ensures

pub returns-else-is_some : goal.returns-else-is_some
returns-else-is_some c = dropped_hole c.args.paging.now c.args.space c.args.page c.requires.alive
    (seen_there entry_of (page_at c.args.paging.now c.args.space c.args.page) c.entry.result _ c.entry.ensures.value c.if-is_some.ensures)
