use Rattle.std.proofs.Common.{◌+◌, ◌*◌, ◌≤◌, Some}
use Rattle.sd_disk.specs.Reads.{OnlyReads}
use Rattle.sd_diff.specs.Difference.{AddsWritten}
use Rattle.sd_diff.specs.Held.{held_in}
use Rattle.sd_diff.proofs.spaces.note_bytes.Given as goal

-- of the pages so far those were noted that differ
abbrev pub invariant-loop-k : goal.invariant-loop-k
invariant-loop-k g l = record {
  reads : OnlyReads g.D.Disk l.fn.disk l.disk;
  adds : g.D.Disk.is_honest l.disk → AddsWritten (g.D.Disk.contents l.fn.disk) l.pages.space l.pages.first (l.pages.first + l.k)
      (held_in (Some l.old)) (held_in (Some l.new)) l.fn.written.items l.written.items;
  calls : g.D.Disk.calls l.disk ≤ g.D.Disk.calls l.fn.disk + 2 * l.k;
}
