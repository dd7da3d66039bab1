use Rattle.sd_disk.specs.Reads.{nothing_read}
use Rattle.sd_shared.proofs.shared.is_only_read.Goals as goal

pub returns : goal.returns
returns g c = nothing_read g.D.Disk c.args.disk.now
