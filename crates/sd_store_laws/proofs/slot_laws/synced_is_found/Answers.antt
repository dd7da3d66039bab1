use Rattle.sd_store_laws.proofs.GateSteps.{synced_is_found_lem}
use Rattle.sd_store_laws.proofs.slot_laws.synced_is_found.Goals as goal

pub returns : goal.returns
returns g c = synced_is_found_lem (g.D.Disk.contents c.args.disk.now) (g.D.Disk.may_leave c.args.disk.now) c.found_fits.ensures
