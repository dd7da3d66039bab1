use Rattle.sd_gate.proofs.LawLemmas.{found}
use Rattle.sd_gate.proofs.laws.found_fits.Goals as goal

pub returns : goal.returns
returns g c = λ slot only. found slot (g.D.Disk.contents c.args.disk.now) (g.D.Disk.may_leave c.args.disk.now) only
