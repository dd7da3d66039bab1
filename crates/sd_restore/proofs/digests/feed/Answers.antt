use Rattle.std.proofs.Common.{◌++◌, List, ℕ, subst}
use Rattle.sd_image.specs.Digests.{HasFed}
use Rattle.sd_restore.proofs.DigestLemmas.{pages_are_bytes}
use Rattle.sd_restore.proofs.digests.feed.Goals as goal

pub returns : goal.returns
returns c = λ fed has.
    subst (λ (bytes : List ℕ). HasFed c.loop-page.digester (fed ++ bytes))
    (pages_are_bytes c.args.bytes.now c.as_chunks.result.0.now c.loop-page.page-index c.as_chunks.ensures.front c.requires.whole c.loop-page-test.false)
    (c.loop-page.invariant fed has)
