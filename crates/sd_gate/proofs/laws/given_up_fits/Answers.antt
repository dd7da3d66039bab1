use Rattle.sd_gate.proofs.PhaseLemmas.{slot_given_up}
use Rattle.sd_gate.proofs.laws.given_up_fits.Goals as goal

pub returns : goal.returns
returns g c = λ phase body slot fits. slot_given_up slot (g.D.Disk.contents c.args.disk.now) (g.D.Disk.may_leave c.args.disk.now) (g.met.D.Disk.as_read c.args.disk.now) phase body fits
