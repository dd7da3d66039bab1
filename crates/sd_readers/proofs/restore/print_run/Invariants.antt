use Rattle.std.proofs.Common.{◌≤◌, ◌-◌}
use Rattle.std.specs.List.{flat_map}
use Rattle.std.specs.Io.KnownBytes.{Appends}
use Rattle.sd_disk.specs.Reads.{OnlyReads}
use Rattle.sd_restore.proofs.RunLemmas.{first_pages}
use Rattle.sd_readers.specs.Texts.{placed_text}
use Rattle.sd_readers.proofs.restore.print_run.Given as goal

-- the pages so far were only read, and are printed
abbrev pub invariant-loop-done : goal.invariant-loop-done
invariant-loop-done g l = record {
  few : l.done ≤ l.run.count;
  reads : OnlyReads g.D.Disk l.fn.disk l.disk;
  printed : g.D.Disk.is_honest l.disk → Appends (g.W.Write.contents l.fn.out.writer) (g.W.Write.contents l.out.writer)
      (flat_map (placed_text (g.D.Disk.contents l.fn.disk)) (first_pages l.run l.done));
}

abbrev pub decreases-loop-done : goal.decreases-loop-done
decreases-loop-done g l = l.run.count - l.done
