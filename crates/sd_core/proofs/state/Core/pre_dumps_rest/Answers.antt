use Rattle.std.proofs.Common.{◌≡◌, ◌≢◌, None, refl, subst}
use Rattle.sd_crash_safety.specs.View.{CoreView}
use Rattle.sd_core.specs.contracts.state.Core.{the_view}
use Rattle.sd_core.specs.Rounds.{HasFewOpen, LeavesPreDumps}
use Rattle.sd_core.proofs.PreDumpLemmas.{few_opened}
use Rattle.sd_core.proofs.RoundLemmas.{few_are, only_looks, opens_alone}
use Rattle.sd_core.proofs.state.Core.pre_dumps_rest.Goals as goal

pub returns-clause-looks : goal.returns-clause-looks
returns-clause-looks c = subst LeavesPreDumps c.self.view_is (λ running place asked bodies files was below b lane id at on.
    only_looks _ (the_view c.self.inside) c.self.invariant refl refl refl running place asked bodies files was below
    (few_opened c.self.inside.dumper.since_freeze _ running c.sound.ensures.running was) b id on lane at)

pub returns-clause-few : goal.returns-clause-few
returns-clause-few c = subst (λ (v : CoreView). HasFewOpen v.dumper.running) c.self.view_is (few_are c.self.inside.dumper.since_freeze c.self.inside.dumper.running c.sound.ensures.running)

pub returns-clause-alone : goal.returns-clause-alone
returns-clause-alone c = subst (λ (v : CoreView). v.opener ≢ None → v.dumper.running ≡ None) c.self.view_is (opens_alone _ c.self.invariant)
