use Rattle.std.proofs.Common.{◌≡◌}
use Rattle.sd_pagetable.specs.Nested.{inside}
use Rattle.sd_pagetable.specs.Page.{shared_page, inherited_page}
use Rattle.sd_pagetable.specs.Ranges.{bare_page}
use Rattle.sd_pagetable.specs.Tracking.{with_space}
use Rattle.sd_pagetable.proofs.ForkLemmas.{parted, remaining}
use Rattle.sd_pagetable.proofs.ranges.share_pages.Given as goal

-- the pages before the bound are shared
abbrev pub invariant-loop-found : goal.invariant-loop-found
invariant-loop-found l = record {
  done : l.paging ≡ with_space (with_space l.fn.paging l.parent (parted (λ page. page) shared_page l.start (inside l.fn.paging.spaces l.parent)))
      l.child (parted bare_page inherited_page l.start (inside l.fn.paging.spaces l.parent));
}

abbrev pub decreases-loop-found : goal.decreases-loop-found
decreases-loop-found l = remaining l.start (inside l.fn.paging.spaces l.parent)
