use Rattle.std.proofs.Common.{◌≡◌, ◌+◌}
use Rattle.sd_pagetable.specs.Nested.{total}
use Rattle.sd_pagetable.proofs.FilledLemmas.{weigh}
use Rattle.sd_pagetable.proofs.SnapshotLemmas.{space_in}
use Rattle.sd_pagetable.proofs.loading.is_crowded.Given as goal

abbrev pub invariant-loop-pages : goal.invariant-loop-pages
invariant-loop-pages l = l.left + weigh space_in (total (λ _. 1)) l.snapshot.spaces.entries ≡ 65536 + weigh space_in (total (λ _. 1)) l.pages-iterator
