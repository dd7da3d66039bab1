use Rattle.std.proofs.Common.{refl, subst}
use Rattle.sd_core.specs.Lasting.{LeavesMerged}
use Rattle.sd_core.specs.contracts.state.Core.{the_view}
use Rattle.sd_core.proofs.LastingLemmas.{left_alone}
use Rattle.sd_core.proofs.state.Core.merged_stands.Goals as goal

pub returns : goal.returns
returns c = subst LeavesMerged c.self.view_is (λ merge r was doing. left_alone _ (the_view c.self.inside) c.self.invariant refl refl refl merge r was doing)
