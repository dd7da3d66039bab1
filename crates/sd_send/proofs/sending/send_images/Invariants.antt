use Rattle.std.proofs.Common.{◌≡◌, ℕ, List, Option, length, drop, map}
use Rattle.sd_disk.specs.Reads.{OnlyReads}
use Rattle.sd_stream.specs.Progress.{Progress}
use Rattle.sd_stream.specs.Writing.{HasWritten}
use Rattle.sd_send.specs.Sending.{HasSent}
use Rattle.sd_send.proofs.sending.send_images.Given as goal

-- the images so far are written
abbrev pub invariant-loop-image : goal.invariant-loop-image
invariant-loop-image g l = record {
  room : length l.buffer ≡ length l.fn.buffer;
  reads : OnlyReads g.D.Disk l.fn.disk l.disk;
  sent : g.D.Disk.is_honest l.disk → (before : Option (List ℕ)) (p : Progress)
      → HasWritten g.W.Write.contents before p l.fn.writer
      → HasSent g.W.Write.contents before p (g.D.Disk.contents l.fn.disk) (map (λ i. i.now) l.images) (drop l.image-index (map (λ i. i.now) l.images)) l.writer;
}
