-- A core is imported, and then saved.
use Rattle.sd_world.proofs.GoesOnLemmas.{goes_further}
use Rattle.sd_jobs.proofs.import.import_one.Goals as goal

pub returns-then-not-matches : goal.returns-then-not-matches
returns-then-not-matches g c = record { goes_on = goes_further g.D.Disk c.args.world.now c.import_core-imported.new.world c.do_job-answer.new.self c.import_core-imported.ensures.goes_on c.do_job-answer.ensures.goes_on }

pub returns-in_err-print_reply : goal.returns-in_err-print_reply
returns-in_err-print_reply g c = record { goes_on = goes_further g.D.Disk c.args.world.now c.import_core-imported.new.world c.do_job-answer.new.self c.import_core-imported.ensures.goes_on c.do_job-answer.ensures.goes_on }

pub returns-in_err-flush : goal.returns-in_err-flush
returns-in_err-flush g c = record { goes_on = goes_further g.D.Disk c.args.world.now c.import_core-imported.new.world c.do_job-answer.new.self c.import_core-imported.ensures.goes_on c.do_job-answer.ensures.goes_on }

pub returns : goal.returns
returns g c = record { goes_on = goes_further g.D.Disk c.args.world.now c.import_core-imported.new.world c.do_job-answer.new.self c.import_core-imported.ensures.goes_on c.do_job-answer.ensures.goes_on }
