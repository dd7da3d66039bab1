use Rattle.std.proofs.Common.{refl, sym, subst}
use Rattle.sd_world.specs.Steps.{Does}
use Rattle.sd_world.proofs.stepping.make_step.Goals as goal

pub returns-in-Work : goal.returns-in-Work
returns-in-Work g c = subst (λ e. Does g.D.Disk e (record { core = c.args.core.now; disk = c.args.disk.now; kept = c.args.kept.now }) c.work.result
    (record { core = c.work.new.core; disk = c.args.disk.now; kept = c.work.new.kept })) (sym c.in-Work.is) (record { works = c.work.ensures; disk = refl })

pub returns-in-TakeUp : goal.returns-in-TakeUp
returns-in-TakeUp g c = subst (λ e. Does g.D.Disk e (record { core = c.args.core.now; disk = c.args.disk.now; kept = c.args.kept.now }) c.take_up.result
    (record { core = c.take_up.new.core; disk = c.args.disk.now; kept = c.take_up.new.kept })) (sym c.in-TakeUp.is) (record { takes = c.take_up.ensures; disk = refl })

pub returns-in-HandInAt : goal.returns-in-HandInAt
returns-in-HandInAt g c = subst (λ e. Does g.D.Disk e (record { core = c.args.core.now; disk = c.args.disk.now; kept = c.args.kept.now }) c.hand_in_at.result
    (record { core = c.hand_in_at.new.core; disk = c.args.disk.now; kept = c.hand_in_at.new.kept })) (sym c.in-HandInAt.is) (record { hands = c.hand_in_at.ensures; disk = refl })

pub returns-in-PerformAt : goal.returns-in-PerformAt
returns-in-PerformAt g c = subst (λ e. Does g.D.Disk e (record { core = c.args.core.now; disk = c.args.disk.now; kept = c.args.kept.now }) c.perform_at-in-PerformAt.result
    (record { core = c.args.core.now; disk = c.perform_at-in-PerformAt.new.disk; kept = c.perform_at-in-PerformAt.new.kept })) (sym c.in-PerformAt.is)
    (record { performs = c.perform_at-in-PerformAt.ensures; core = refl })

pub returns-in-Trim : goal.returns-in-Trim
returns-in-Trim g c = subst (λ e. Does g.D.Disk e (record { core = c.args.core.now; disk = c.args.disk.now; kept = c.args.kept.now }) c.trim.result
    (record { core = c.trim.new.core; disk = c.args.disk.now; kept = c.args.kept.now })) (sym c.in-Trim.is)
    (record { trims = c.trim.ensures.trims; goes_on = c.trim.ensures.goes_on; disk = refl; kept = refl })
