use Rattle.std.proofs.Common.{subst}
use Rattle.sd_core.specs.Kept.{HasItsPreDumps}
use Rattle.sd_core.proofs.OthersLemmas.{its_pre_dumps}
use Rattle.sd_core.proofs.state.Core.pre_dumps.Goals as goal

pub returns : goal.returns
returns c = subst HasItsPreDumps c.self.view_is (its_pre_dumps _ c.self.invariant)
