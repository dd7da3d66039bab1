use Rattle.std.proofs.Common.{◌≡◌, ◌⊎◌, None, refl, inl, inr}
use Rattle.sd_command.specs.declared.reply.Reply.TheVariants as reply
use Rattle.sd_gate.specs.declared.worker.Worker.TheVariants.{Dumper}
use Rattle.sd_crash_safety.specs.View.{CoreView}
use Rattle.sd_core.specs.declared.taken.Taken.TheVariants.{Step}
use Rattle.sd_core.specs.Next.{CopiesSector, NextByDumper, VisitsPage, copies, visits}
use Rattle.sd_core.specs.Refusals.{work_refusal}
use Rattle.sd_core.proofs.state.Core.pass.Goals as goal

by_step : (old new : CoreView) → VisitsPage old new ⊎ CopiesSector old new → NextByDumper old (Step reply.Worked) new
by_step old new (inl step) = visits refl step
by_step old new (inr step) = copies refl step

may_be : (old new : CoreView) → VisitsPage old new ⊎ CopiesSector old new → work_refusal old Dumper ≡ None
may_be old new (inl step) = step.it.may
may_be old new (inr step) = step.it.may

pub returns-clause-worked : goal.returns-clause-worked
returns-clause-worked c is =
    let step = c.pass_image.ensures.steps is in
    c.dumper_law.ensures c.args.self.now (Step reply.Worked) c.pass_image.new.self c.is_sound.ensures (may_be _ _ step) (by_step _ _ step)
