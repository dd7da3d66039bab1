use Rattle.sd_journal.proofs.PlainLemmas.{none_copied, copied_more, all_copied}
use Rattle.sd_journal.proofs.plain_pages.copy_of_pages.Goals as goal

pub loop-page-init : goal.loop-page-init
loop-page-init c = none_copied _ _ _ c.into_iter-page-iterator.ensures.into_iter_gives.0 c.new-copy.ensures.empty c.into_iter-page-iterator.ensures.into_iter_gives.5

pub loop-page-preserved : goal.loop-page-preserved
loop-page-preserved c = copied_more c.args.pages.now.entries c.loop-page.page-iterator c.next.new.self c.loop-page.copy.entries c.put.new.pages.entries c.in-Some.page.now c.in-Some.found.now c.in_ok-try_clone.field-0 c.loop-page.invariant c.in-Some.ensures.steps c.in_ok-try_clone.ensures.copy c.in_ok-put.ensures

pub returns : goal.returns
returns c = all_copied _ _ _ c.loop-page.invariant c.in-None.ensures.steps.0
