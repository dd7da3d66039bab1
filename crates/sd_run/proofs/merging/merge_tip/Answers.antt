use Rattle.std.proofs.Common.{ap}
use Rattle.sd_run.specs.Merging.{MergesTip, is_reopened}
use Rattle.sd_world.proofs.GoesOnLemmas.{goes_further}
use Rattle.sd_run.proofs.MergingLemmas.{not_reopened}
use Rattle.sd_run.proofs.merging.merge_tip.Goals as goal

pub returns-in-Reopened-clause-merges : goal.returns-in-Reopened-clause-merges
returns-in-Reopened-clause-merges g c = MergesTip.merged c.do_job-reopened.result c.do_job-reopened.new.self (ap is_reopened c.in-Reopened.is) c.do_job-reopened.ensures.job c.do_job.ensures.job

pub returns-in-Reopened-clause-goes_on : goal.returns-in-Reopened-clause-goes_on
returns-in-Reopened-clause-goes_on g c = goes_further g.D.Disk c.args.world.now c.do_job-reopened.new.self c.do_job.new.self c.do_job-reopened.ensures.goes_on c.do_job.ensures.goes_on

pub returns-in_default : goal.returns-in_default
returns-in_default g c = record {
  merges = MergesTip.closed (not_reopened c.do_job-reopened.result c.in_default.not-Reopened) c.do_job-reopened.ensures.job;
  goes_on = c.do_job-reopened.ensures.goes_on;
}
