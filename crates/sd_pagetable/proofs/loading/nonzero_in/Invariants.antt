use Rattle.std.proofs.Common.{◌≡◌, ◌+◌}
use Rattle.sd_areas.specs.Memory.{page_of_snapshot}
use Rattle.sd_pagetable.specs.Loaded.{frames_for}
use Rattle.sd_pagetable.proofs.FilledLemmas.{weigh}
use Rattle.sd_pagetable.proofs.loading.nonzero_in.Given as goal

abbrev pub invariant-loop-page : goal.invariant-loop-page
invariant-loop-page l = l.count + weigh page_of_snapshot frames_for l.page-iterator ≡ weigh page_of_snapshot frames_for l.pages.entries
