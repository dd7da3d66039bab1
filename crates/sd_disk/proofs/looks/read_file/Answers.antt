use Rattle.sd_disk.specs.Reads.{one_read}
use Rattle.sd_disk.proofs.looks.read_file.Goals as goal

pub returns-clause-reads : goal.returns-clause-reads
returns-clause-reads g c =
    one_read g.D.Disk c.args.disk.now c.read.new.self (g.met.D.Disk.counts_now c.args.disk.now) c.read.ensures.same c.read.ensures.crash c.read.ensures.time
    c.read.ensures.honest c.read.ensures.cause.later
