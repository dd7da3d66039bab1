use Rattle.std.proofs.Common.{◌≡◌, ◌+◌}
use Rattle.sd_pagetable.specs.Nested.{total}
use Rattle.sd_pagetable.specs.Loaded.{frames_for}
use Rattle.sd_pagetable.proofs.FilledLemmas.{weigh}
use Rattle.sd_pagetable.proofs.SnapshotLemmas.{space_in}
use Rattle.sd_pagetable.proofs.loading.is_short.Given as goal

abbrev pub invariant-loop-pages : goal.invariant-loop-pages
invariant-loop-pages l = l.left + weigh space_in (total frames_for) l.snapshot.spaces.entries ≡ l.frames + weigh space_in (total frames_for) l.pages-iterator
