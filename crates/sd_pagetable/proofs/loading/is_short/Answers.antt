use Rattle.sd_pagetable.specs.Loaded.{frames_for}
use Rattle.sd_pagetable.proofs.SnapshotLemmas.{tally_past, tally_all}
use Rattle.sd_pagetable.proofs.loading.is_short.Goals as goal

pub returns-then-needed-left : goal.returns-then-needed-left
returns-then-needed-left c = tally_past frames_for c.args.snapshot.now c.loop-pages.left c.args.frames c.loop-pages.pages-iterator c.loop-pages.invariant _ _ c.nonzero_in-needed.result
    c.into_iter-pages-iterator.ensures.into_iter_gives.5 c.in-Some.ensures.steps c.nonzero_in-needed.ensures c.if-needed-left.true

pub returns : goal.returns
returns c = tally_all frames_for c.args.snapshot.now c.loop-pages.left c.args.frames c.loop-pages.pages-iterator c.loop-pages.invariant c.into_iter-pages-iterator.ensures.into_iter_gives.5 c.in-None.ensures.steps.0
