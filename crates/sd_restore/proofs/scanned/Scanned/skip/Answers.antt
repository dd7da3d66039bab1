use Rattle.sd_restore.proofs.ScanLemmas.{closed_scanned}
use Rattle.sd_restore.proofs.scanned.Scanned.skip.Goals as goal

pub returns : goal.returns
returns c = λ contents less closed was. closed_scanned c.closed_slot.ensures contents c.args.slot c.args.self.now less closed was
