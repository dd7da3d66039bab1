use Rattle.sd_gate.proofs.LawLemmas.{all_found}
use Rattle.sd_gate.proofs.laws.all_found_fit.Goals as goal

pub returns : goal.returns
returns g c = all_found (g.D.Disk.contents c.args.disk.now) (g.D.Disk.may_leave c.args.disk.now)
