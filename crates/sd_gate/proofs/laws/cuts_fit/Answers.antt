use Rattle.sd_gate.proofs.PhaseLemmas.{cut_inside}
use Rattle.sd_gate.proofs.laws.cuts_fit.Goals as goal

pub returns : goal.returns
returns g c = λ phase body slot ready fits. cut_inside slot (g.D.Disk.contents c.args.disk.now) (g.D.Disk.may_leave c.args.disk.now) (g.met.D.Disk.as_read c.args.disk.now) phase body ready fits
