use Rattle.std.proofs.Common.{rules, length, arith}
use Rattle.sd_disk.specs.Reads.{nothing_read}
use Rattle.sd_drop.specs.Closing.{closed_at}
use Rattle.sd_drop.proofs.others.scan_others.Goals as goal

pub loop-next-init : goal.loop-next-init
loop-next-init g c = record {
  reads = nothing_read g.D.Disk c.args.disk.now;
  count = search rules;
  room = omega (arith, c.new-scanned.ensures.none);
  read = c.new-scanned.ensures.read (length (g.D.Disk.contents c.args.disk.now));
  scanned = λ honest. c.new-scanned.ensures.scanned (closed_at (g.D.Disk.contents c.args.disk.now) c.args.slot);
}
