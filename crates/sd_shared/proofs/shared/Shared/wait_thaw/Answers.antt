use Rattle.std.proofs.Common.{rules}
use Rattle.sd_shared.proofs.shared.Shared.wait_thaw.Goals as goal

pub returns : goal.returns
returns g c = record { waits = (c.deref.result.now, search rules, c.thaw.ensures) }
