use Rattle.sd_restore.proofs.ScanLemmas.{count_of_all}
use Rattle.sd_restore.proofs.scanned.Scanned.counts.Goals as goal

pub returns : goal.returns
returns c = λ contents was. count_of_all contents c.args.self.now was
