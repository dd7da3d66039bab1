use Rattle.std.proofs.Common.{◌≡◌}
use Rattle.sd_pagetable.specs.Nested.{inside}
use Rattle.sd_pagetable.specs.View.{contents_of}
use Rattle.sd_pagetable.proofs.ForkLemmas.{remaining}
use Rattle.sd_pagetable.proofs.ExitLemmas.{Kept, so_far, cleared_so_far}
use Rattle.sd_pagetable.proofs.paging.release_all.Given as goal

-- the pages before the bound gave their frames up
abbrev pub invariant-loop-found : goal.invariant-loop-found
invariant-loop-found l = record {
  kept : Kept l.frames (so_far l.tables l.space l.start);
  done : contents_of l.frames (so_far l.tables l.space l.start) ≡ cleared_so_far (contents_of l.fn.frames l.tables) l.space l.start;
}

abbrev pub decreases-loop-found : goal.decreases-loop-found
decreases-loop-found l = remaining l.start (inside (contents_of l.fn.frames l.tables).spaces l.space)
