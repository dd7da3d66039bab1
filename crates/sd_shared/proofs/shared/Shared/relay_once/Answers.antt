use Rattle.std.proofs.Common.{◌∙◌, ap}
use Rattle.sd_shared.specs.Told.{ends_job}
use Rattle.sd_shared.proofs.TurnLemmas.{relays_job}
use Rattle.sd_shared.proofs.shared.Shared.relay_once.Goals as goal

pub returns-in-Ok-clause-over : goal.returns-in-Ok-clause-over
returns-in-Ok-clause-over g c =
    c.last_of.ensures.over (ap ends_job c.into_last.ensures ∙ (c.in-Ok.ensures.fed c.new-dump.ensures.one).0)

pub returns-in-Ok-clause-job : goal.returns-in-Ok-clause-job
returns-in-Ok-clause-job g c =
    relays_job g.D.Disk.contents c.args.rounds _ _ _ _ _ c.new-dump.ensures.rounds c.into_last.ensures (c.in-Ok.ensures.fed c.new-dump.ensures.one).1 c.into_refused.ensures
    c.last_of.ensures.last
