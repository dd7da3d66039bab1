use Rattle.std.proofs.Common.{◌-◌, ◌&&◌, not, is_some}
use Rattle.std.specs.FinMap as finmap
use Rattle.sd_areas.specs.Pages.{is_within}
use Rattle.sd_pagetable.specs.Ranges.{IsCleared}
use Rattle.sd_pagetable.proofs.ranges.unfill.Given as goal

-- the pages up to this one that the areas don't have are gone
abbrev pub invariant-loop-number : goal.invariant-loop-number
invariant-loop-number l = record {
  done : IsCleared l.fn.paging l.paging l.space (λ page. is_within l.first (l.number - l.first) page && not (is_some (finmap.get l.areas page)));
}
