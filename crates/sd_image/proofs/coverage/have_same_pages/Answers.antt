use Rattle.std.proofs.Common.{refl, arith, ◌∙◌}
use Rattle.sd_areas.specs.Pages.{pages_from}
use Rattle.sd_image.proofs.PageLists.{compares_rest, differs}
use Rattle.sd_image.proofs.coverage.have_same_pages.Goals as goal

pub loop-run-init : goal.loop-run-init
unfolding pages_from
loop-run-init c = record { pages = refl; fits = omega arith }

pub returns-in_default : goal.returns-in_default
returns-in_default c = differs _ _ c.args.runs.now c.loop-run.run-index c.run-item.result c.loop-run-test.true c.run-item.is c.loop-run.invariant.pages c.in_default.ensures.pages

pub returns : goal.returns
returns c = c.is_empty.ensures ∙ compares_rest _ _ c.args.runs.now c.loop-run.run-index c.loop-run-test.false c.loop-run.invariant.pages
