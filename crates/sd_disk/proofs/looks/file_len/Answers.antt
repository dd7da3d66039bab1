use Rattle.sd_disk.specs.Reads.{one_read}
use Rattle.sd_disk.proofs.looks.file_len.Goals as goal

pub returns-clause-reads : goal.returns-clause-reads
returns-clause-reads g c =
    one_read g.D.Disk c.args.disk.now c.len.new.self (g.met.D.Disk.counts_now c.args.disk.now) c.len.ensures.same c.len.ensures.crash c.len.ensures.time
    c.len.ensures.honest c.len.ensures.cause.later
