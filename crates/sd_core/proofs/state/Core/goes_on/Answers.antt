use Rattle.std.proofs.Common.{refl, subst}
use Rattle.sd_crash_safety.specs.View.{CoreView}
use Rattle.sd_core.specs.GoingOn.{AreOwnLanes, CanGoOn, HasItsJobs, OpenerAsksAlone}
use Rattle.sd_core.specs.contracts.state.Core.{the_view}
use Rattle.sd_core.proofs.GoOnLemmas.{asks_alone, can_go_on, has_jobs, own_lanes}
use Rattle.sd_core.proofs.state.Core.goes_on.Goals as goal

pub returns-clause-lanes : goal.returns-clause-lanes
returns-clause-lanes c = subst (λ (v : CoreView). AreOwnLanes v.outs) c.self.view_is (own_lanes _ (the_view c.self.inside) c.self.invariant refl refl)

pub returns-clause-goes : goal.returns-clause-goes
returns-clause-goes c = subst CanGoOn c.self.view_is (can_go_on _ (the_view c.self.inside) c.self.invariant refl refl)

pub returns-clause-alone : goal.returns-clause-alone
returns-clause-alone c = subst OpenerAsksAlone c.self.view_is (asks_alone _ (the_view c.self.inside) c.self.invariant refl refl refl)

pub returns-clause-jobs : goal.returns-clause-jobs
returns-clause-jobs c = subst HasItsJobs c.self.view_is (has_jobs _ (the_view c.self.inside) c.self.invariant refl refl refl refl refl)
