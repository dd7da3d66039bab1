use Rattle.std.proofs.Common.{◌≡◌, ◌≤◌, ◌-◌, ℕ, List, Option, length, take}
use Rattle.sd_disk.specs.Contents.{file_at}
use Rattle.sd_disk.specs.Reads.{OnlyReads}
use Rattle.sd_stream.specs.Progress.{Progress}
use Rattle.sd_stream.specs.Writing.{HasWritten}
use Rattle.sd_send.specs.Sending.{with_file}
use Rattle.sd_send.proofs.sending.send_file.Given as goal

-- the bytes so far were only read, and are written
abbrev pub invariant-loop-done : goal.invariant-loop-done
invariant-loop-done g l = record {
  few : l.done ≤ l.len;
  room : length l.buffer ≡ length l.fn.buffer;
  reads : OnlyReads g.D.Disk l.fn.disk l.disk;
  whole : g.D.Disk.is_honest l.disk → l.len ≡ length (file_at (g.D.Disk.contents l.fn.disk) l.slot);
  sent : g.D.Disk.is_honest l.disk → (before : Option (List ℕ)) (p : Progress)
      → HasWritten g.W.Write.contents before p l.fn.writer
      → HasWritten g.W.Write.contents before (with_file p (take l.done (file_at (g.D.Disk.contents l.fn.disk) l.slot))) l.writer;
}

abbrev pub decreases-loop-done : goal.decreases-loop-done
decreases-loop-done g l = l.len - l.done
