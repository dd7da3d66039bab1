use Rattle.sd_disk.specs.Reads.{OnlyReads}
use Rattle.sd_diff.specs.Spaces.{AreDifferences, RiseInSpaces, held_of}
use Rattle.sd_diff.proofs.spaces.diff_spaces.Given as goal

-- what differs in the spaces so far was noted
abbrev pub invariant-loop-number : goal.invariant-loop-number
invariant-loop-number g l = record {
  reads : OnlyReads g.D.Disk l.fn.disk l.disk;
  exact : g.D.Disk.is_honest l.disk → RiseInSpaces l.fn.old → RiseInSpaces l.fn.new → AreDifferences (g.D.Disk.contents l.fn.disk) l.number (held_of l.fn.old) (held_of l.fn.new) l.into;
}
