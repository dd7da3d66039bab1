-- Each line makes its own events.
use Rattle.std.proofs.Common.{sym, subst}
use Rattle.sd_world.specs.Goes.{GoesOn}
use Rattle.sd_world.specs.Jobs.{IsDriven}
use Rattle.sd_run.proofs.LineLemmas.{answered_as}
use Rattle.sd_run.proofs.lines.answer.Goals.{in-Command, in-Begin, in-BeginMerge, in-Cancel, in-Work, in-Perform, in-PerformAt, in-Step, in-Finish, in-Checkpoint, in-Merge, in-Reopen, in-Trim}
use Rattle.sd_run.proofs.lines.answer.Goals as goal

pub returns-clause-answered : goal.returns-clause-answered
returns-clause-answered g c =
    let first = c.args.world.now in
    let last = c.match-line.world in
    let line = c.args.line in
    let reply = c.match-line.reply in
    elim c.match-line.branch [
      | in-Command w ↦ answered_as g.D.Disk first last w.apply-reply.new.world line _ reply w.apply-reply.result w.in-Command.is w.reply-is w.world-is
          w.apply-reply.ensures.step
      | in-Begin w ↦ answered_as g.D.Disk first last w.make-reply.new.self line _ reply w.make-reply.result w.in-Begin.is w.reply-is w.world-is
          w.make-reply.ensures.step
      | in-BeginMerge w ↦ answered_as g.D.Disk first last w.make-reply-in-BeginMerge.new.self line _ reply w.make-reply-in-BeginMerge.result w.in-BeginMerge.is w.reply-is w.world-is
          w.make-reply-in-BeginMerge.ensures.step
      | in-Cancel w ↦ answered_as g.D.Disk first last w.make-reply-in-Cancel.new.self line _ reply w.make-reply-in-Cancel.result w.in-Cancel.is w.reply-is w.world-is
          w.make-reply-in-Cancel.ensures.step
      | in-Work w ↦ answered_as g.D.Disk first last w.make-reply-in-Work.new.self line _ reply w.make-reply-in-Work.result w.in-Work.is w.reply-is w.world-is
          w.make-reply-in-Work.ensures.step
      | in-Perform w ↦ answered_as g.D.Disk first last w.make-reply-in-Perform.new.self line _ reply w.make-reply-in-Perform.result w.in-Perform.is w.reply-is w.world-is
          w.make-reply-in-Perform.ensures.step
      | in-PerformAt w ↦ answered_as g.D.Disk first last w.make-reply-in-PerformAt.new.self line _ reply w.make-reply-in-PerformAt.result w.in-PerformAt.is w.reply-is w.world-is
          w.make-reply-in-PerformAt.ensures.step
      | in-Step w ↦ answered_as g.D.Disk first last w.advance-reply.new.self line _ reply w.advance-reply.result w.in-Step.is w.reply-is w.world-is
          (subst (λ n. IsDriven g.D.Disk w.in-Step.worker n first w.advance-reply.result w.advance-reply.new.self) w.max.ensures w.advance-reply.ensures.driven)
      | in-Finish w ↦ answered_as g.D.Disk first last w.finish_watched-reply.new.self line _ reply w.finish_watched-reply.result w.in-Finish.is w.reply-is w.world-is
          w.finish_watched-reply.ensures.finished
      | in-Checkpoint w ↦ answered_as g.D.Disk first last w.do_job-reply.new.self line _ reply w.do_job-reply.result w.in-Checkpoint.is w.reply-is w.world-is
          w.do_job-reply.ensures.job
      | in-Merge w ↦ answered_as g.D.Disk first last w.do_job-reply-in-Merge.new.self line _ reply w.do_job-reply-in-Merge.result w.in-Merge.is w.reply-is w.world-is
          w.do_job-reply-in-Merge.ensures.job
      | in-Reopen w ↦ answered_as g.D.Disk first last w.do_job-reply-in-Reopen.new.self line _ reply w.do_job-reply-in-Reopen.result w.in-Reopen.is w.reply-is w.world-is
          w.do_job-reply-in-Reopen.ensures.job
      | in-Trim w ↦ answered_as g.D.Disk first last w.make-reply-in-Trim.new.self line _ reply w.make-reply-in-Trim.result w.in-Trim.is w.reply-is w.world-is
          w.make-reply-in-Trim.ensures.step
    ]

pub returns-clause-goes_on : goal.returns-clause-goes_on
returns-clause-goes_on g c =
    let first = c.args.world.now in
    elim c.match-line.branch [
      | in-Command w ↦ subst (GoesOn g.D.Disk first) (sym w.world-is) w.apply-reply.ensures.goes_on
      | in-Begin w ↦ subst (GoesOn g.D.Disk first) (sym w.world-is) w.make-reply.ensures.goes_on
      | in-BeginMerge w ↦ subst (GoesOn g.D.Disk first) (sym w.world-is) w.make-reply-in-BeginMerge.ensures.goes_on
      | in-Cancel w ↦ subst (GoesOn g.D.Disk first) (sym w.world-is) w.make-reply-in-Cancel.ensures.goes_on
      | in-Work w ↦ subst (GoesOn g.D.Disk first) (sym w.world-is) w.make-reply-in-Work.ensures.goes_on
      | in-Perform w ↦ subst (GoesOn g.D.Disk first) (sym w.world-is) w.make-reply-in-Perform.ensures.goes_on
      | in-PerformAt w ↦ subst (GoesOn g.D.Disk first) (sym w.world-is) w.make-reply-in-PerformAt.ensures.goes_on
      | in-Step w ↦ subst (GoesOn g.D.Disk first) (sym w.world-is) w.advance-reply.ensures.goes_on
      | in-Finish w ↦ subst (GoesOn g.D.Disk first) (sym w.world-is) w.finish_watched-reply.ensures.goes_on
      | in-Checkpoint w ↦ subst (GoesOn g.D.Disk first) (sym w.world-is) w.do_job-reply.ensures.goes_on
      | in-Merge w ↦ subst (GoesOn g.D.Disk first) (sym w.world-is) w.do_job-reply-in-Merge.ensures.goes_on
      | in-Reopen w ↦ subst (GoesOn g.D.Disk first) (sym w.world-is) w.do_job-reply-in-Reopen.ensures.goes_on
      | in-Trim w ↦ subst (GoesOn g.D.Disk first) (sym w.world-is) w.make-reply-in-Trim.ensures.goes_on
    ]
