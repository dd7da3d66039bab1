use Rattle.std.proofs.Common.{◌∙◌}
use Rattle.sd_pagetable.proofs.SnapshotLemmas.{ones, tally_past, tally_next, tally_all}
use Rattle.sd_pagetable.proofs.loading.is_crowded.Goals as goal

pub returns-then-count-left : goal.returns-then-count-left
returns-then-count-left c = tally_past (λ _. 1) c.args.snapshot.now c.loop-pages.left 65536 c.loop-pages.pages-iterator c.loop-pages.invariant _ _ c.len-count.result
    c.into_iter-pages-iterator.ensures.into_iter_gives.5 c.in-Some.ensures.steps (c.len-count.ensures.len ∙ ones _ c.len-count.ensures.ordered) c.if-count-left.true

pub loop-pages-preserved : goal.loop-pages-preserved
loop-pages-preserved c = tally_next (λ _. 1) c.args.snapshot.now c.loop-pages.left 65536 c.loop-pages.pages-iterator c.loop-pages.invariant _ _ c.len-count.result
    c.in-Some.ensures.steps (c.len-count.ensures.len ∙ ones _ c.len-count.ensures.ordered) c.if-count-left.false

pub returns : goal.returns
returns c = tally_all (λ _. 1) c.args.snapshot.now c.loop-pages.left 65536 c.loop-pages.pages-iterator c.loop-pages.invariant c.into_iter-pages-iterator.ensures.into_iter_gives.5 c.in-None.ensures.steps.0
