use Rattle.std.proofs.Common.{arith}
use Rattle.sd_image.proofs.PageLists.{goes_on, next_area, all_met, other_page, no_page}
use Rattle.sd_image.proofs.coverage.behind.Goals as goal

pub returns-then-page-first-clause-pages : goal.returns-then-page-first-clause-pages
returns-then-page-first-clause-pages c = λ others e. other_page _ _ others c.loop-wanted.first c.loop-wanted.page c.loop-wanted.count c.loop-wanted.wanted _ c.loop-wanted-test.true c.if-count-gt0.true c.if-page-first.true c.loop-wanted.invariant.met e

pub returns-in_err-area-clause-pages : goal.returns-in_err-area-clause-pages
returns-in_err-area-clause-pages c = rw c.from_residual.ensures (λ others e. no_page _ _ others c.loop-wanted.first c.loop-wanted.page c.loop-wanted.count c.loop-wanted.wanted c.loop-wanted.areas.now c.loop-wanted-test.true (omega arith) c.in_err-area.ensures.cases c.loop-wanted.invariant.met e)

pub loop-wanted-preserved-then-count-gt0 : goal.loop-wanted-preserved-then-count-gt0
loop-wanted-preserved-then-count-gt0 c = grind (arith, goes_on)

pub loop-wanted-preserved : goal.loop-wanted-preserved
loop-wanted-preserved c = grind (arith, next_area)

pub returns-clause-pages : goal.returns-clause-pages
returns-clause-pages c = all_met _ _ _ c.loop-wanted.first c.loop-wanted.wanted (omega arith) c.loop-wanted.invariant.met
